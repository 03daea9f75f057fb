use Rattle.std.proofs.Common.{◌≡◌, ◌<◌, inl, inr, ℕ, [], length, get_or, ap, sym, ◌∙◌, arith}
use Rattle.std.specs.Prelude.{Option}
use Rattle.std.proofs.lemmas.Bool.{cases_eq}
use Rattle.std.proofs.lemmas.List.{get_or_default}
use Rattle.classifier.specs.Batch.{alone_in}
use Rattle.row_audit.specs.declared.watcher.Watcher.{Watcher}
use Rattle.row_audit.specs.Watched.{watcher_at}
use Rattle.row_audit.proofs.judge.load_all.Goals as goal

pub loop-word-preserved : goal.loop-word-preserved
loop-word-preserved g c =
    let i = c.loop-word.word in
    let ws = c.args.watchers.now in
    let inv = c.loop-word.invariant in
    let after = (g.B.Circuits.loaded c.load_batch.new.self).faults in
    let load = c.load_batch.ensures in
    let inside : i < length ws = omega arith in
    let same : get_or ws i c.index-watchers-word.result ≡ watcher_at ws i = get_or_default ws i c.index-watchers-word.result (watcher_at [] 0) inside in
    let words : i < g.B.Circuits.words = omega (arith, inside, c.requires.count) in
    record {
      sound = load.sound;
      circuit = load.circuit ∙ inv.circuit;
      order = load.order ∙ inv.order;
      loads = λ word k lt lane.
          elim (cases_eq word i) as (λ _. after word k ≡ alone_in c.args.faults.now (watcher_at ws word).batch k) [
            | inl here ↦ ap (λ j. after j k) here ∙ load.loads k lane
                ∙ ap (λ (b : Option ℕ). alone_in c.args.faults.now b k) (ap (λ (w : Watcher). w.batch) (same ∙ ap (watcher_at ws) (sym here)))
            | inr apart ↦
                (let early : word < i = omega (arith, lt, apart) in
                load.others word k (omega (arith, early, words)) apart lane ∙ inv.loads word k early lane)
          ];
    }
