use Rattle.std.proofs.Common.{◌≡◌, ◌≢◌, ◌<◌, inl, inr, [], length, set, get_or, ap, sym, ◌∙◌, subst, arith, get_or-set_other, get_or-set_same}
use Rattle.std.specs.Prelude.{Some}
use Rattle.std.proofs.lemmas.Bool.{cases_eq}
use Rattle.std.proofs.lemmas.List.{get_or_default}
use Rattle.row_audit.specs.declared.watcher.Watcher.{Watcher}
use Rattle.row_audit.specs.Watched.{watcher_at}
use Rattle.row_audit.proofs.Stepped.{none_stepped, one_stepped}
use Rattle.row_audit.proofs.Steps.{Turns}
use Rattle.row_audit.proofs.judge.turn_all.Goals as goal

pub loop-word-init : goal.loop-word-init
loop-word-init c = record {
  turned = none_stepped Turns (watcher_at [] 0) c.args.watchers.now;
  first = λ lt. absurd (omega (arith, lt));
}

pub loop-word-preserved : goal.loop-word-preserved
loop-word-preserved c =
    let i = c.loop-word.word in
    let ws = c.loop-word.watchers in
    let none : Watcher = watcher_at [] 0 in
    let new = c.turn_to.new.self in
    let inv = c.loop-word.invariant in
    let inside : i < length ws = omega (arith, c.loop-word-test.true, inv.turned.count) in
    let old : get_or ws i c.index-watchers-word.result ≡ get_or ws i none = get_or_default ws i c.index-watchers-word.result none inside in
    record {
      turned = one_stepped Turns none c.args.watchers.now ws i new inv.turned inside
          (subst (λ (w : Watcher). Turns i w new) old (record { windows = c.turn_to.ensures.windows; planes = c.turn_to.ensures.planes }));
      first = λ some.
          elim (cases_eq i 0) as (λ _. (watcher_at (set ws i new) 0).batch ≡ Some c.args.first) [
            | inl zero ↦
                (let same : get_or (set ws i new) 0 none ≡ new = ap (λ j. get_or (set ws i new) j none) (sym zero) ∙ get_or-set_same ws i new none inside in
                ap (λ (w : Watcher). w.batch) same ∙ c.turn_to.ensures.batch ∙ c.batch_for.ensures zero)
            | inr later ↦
                (let apart : 0 ≢ i = omega (arith, later) in
                ap (λ (w : Watcher). w.batch) (get_or-set_other ws i 0 new none apart) ∙ inv.first (omega (arith, later)))
          ];
    }

pub returns-clause-windows : goal.returns-clause-windows
returns-clause-windows c = λ word lt. (c.loop-word.invariant.turned.done word (omega (arith, lt, c.loop-word-test.false, c.loop-word.invariant.turned.count))).windows

pub returns-clause-planes : goal.returns-clause-planes
returns-clause-planes c = λ word lt. (c.loop-word.invariant.turned.done word (omega (arith, lt, c.loop-word-test.false, c.loop-word.invariant.turned.count))).planes

pub returns-clause-first : goal.returns-clause-first
returns-clause-first c = λ some. c.loop-word.invariant.first (omega (arith, some, c.loop-word-test.false, c.loop-word.invariant.turned.count))
