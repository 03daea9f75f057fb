use Rattle.std.proofs.Common.{◌≡◌, ◌<◌, ℕ, length, ap, sym, ◌∙◌, subst, arith}
use Rattle.std.specs.Prelude.{Option}
use Rattle.alarm_points.specs.Watch.{AreMadeFor, Watches}
use Rattle.classifier.specs.Batch.{alone_in, outcome_for}
use Rattle.row_audit.specs.Watched.{watcher_at}
use Rattle.row_audit.proofs.judge.judge_from.Goals as goal

pub returns-clause-at_hand : goal.returns-clause-at_hand
returns-clause-at_hand g c = λ word lt.
    let bench = c.args.bench.now in
    let faults = bench.faults.now in
    let masked = c.mask_all.new.watchers in
    let judged = c.judge_runs.new.watchers in
    let loaded = g.B.Circuits.loaded c.load_all.new.circuits in
    let inside : word < length judged = omega (arith, lt, c.mask_all.auto.watchers) in
    let there : word < length c.turn_all.new.watchers = omega (arith, inside, c.judge_runs.auto.watchers) in
    let words : word < g.B.Circuits.words = omega (arith, there, c.turn_all.auto.watchers, c.requires.count) in
    let windows : (watcher_at masked word).windows ≡ (watcher_at judged word).windows = c.mask_all.ensures.windows word inside in
    let ready = c.judge_runs.ensures.ready word inside in
    record {
      ready = record {
        made = subst (λ (w : Watches). AreMadeFor bench.points.now w) (sym windows) ready.made;
        interval = ap (λ (w : Watches). w.ftti) windows ∙ ready.interval;
      };
      planes =
          c.mask_all.ensures.planes bench.net.now bench.points.now bench.ftti bench.work.now (loaded.faults word) word inside
          (λ k lane. c.load_all.ensures.loads word k words lane ∙ ap (λ (b : Option ℕ). alone_in faults b k) (sym (c.judge_runs.ensures.batch word there)))
          (c.judge_runs.ensures.planes word there)
          ∙ ap (outcome_for bench.net.now bench.points.now bench.ftti bench.work.now faults) (sym (c.mask_all.ensures.batch word inside));
    }
