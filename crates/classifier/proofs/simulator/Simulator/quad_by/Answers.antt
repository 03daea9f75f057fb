use Rattle.std.proofs.Common.{◌<◌, length, arith, List, map, ap, sym, subst, ◌∙◌}
use Rattle.std.specs.Prelude.{slice_index_or}
use Rattle.classifier.specs.Batch.{outcome_for}
use Rattle.classifier.specs.Narrowed.{AreNarrowFor}
use Rattle.classifier.specs.Simulator.{Simulator}
use Rattle.classifier.specs.declared.narrow.Narrow.{Narrow}
use Rattle.classifier.proofs.Simulators.{lanes_fit, made_alike, narrow_fits, same_as_before, windows_fit, windows_kept}
use Rattle.classifier.proofs.simulator.Simulator.quad_by.Goals as goal

pub narrowed_outcomes-requires-clause-lanes : goal.narrowed_outcomes-requires-clause-lanes
narrowed_outcomes-requires-clause-lanes g c = lanes_fit c.args.bench.now c.args.self.now c.self.inside.lanes c.self.inside.points.value c.self.inside.windows c.self.view_is c.requires.made

pub narrowed_outcomes-requires-clause-windows : goal.narrowed_outcomes-requires-clause-windows
narrowed_outcomes-requires-clause-windows g c =
    windows_fit c.args.bench.now c.args.self.now c.self.inside.lanes c.self.inside.points.value c.self.inside.windows c.self.view_is c.requires.made c.self.invariant.0

pub narrowed_outcomes-requires-clause-narrow : goal.narrowed_outcomes-requires-clause-narrow
narrowed_outcomes-requires-clause-narrow g c =
    subst (λ (ns : List Narrow). AreNarrowFor c.args.bench.now.circuit c.args.bench.now.order ns) (sym c.from_mut.ensures.value)
    (narrow_fits c.args.bench.now c.args.self.now c.self.inside.lanes c.self.inside.points.value c.self.inside.windows c.self.view_is c.requires.made c.self.inside.narrow c.self.invariant.1)

pub invariant_of-self : goal.invariant_of-self
invariant_of-self g c =
    let bench = c.args.bench.now in
    let one : 0 < length c.narrowed_outcomes.new.narrow = omega (arith, c.narrowed_outcomes.auto.narrow, c.from_mut.ensures.len) in
    let narrow : Narrow = slice_index_or c.narrowed_outcomes.new.narrow 0 c.self.inside.narrow in (
      windows_kept c.args.bench.now c.args.self.now c.self.inside.lanes c.self.inside.points.value c.self.inside.windows c.self.view_is c.requires.made c.narrowed_outcomes.new.windows
          c.narrowed_outcomes.ensures.windows,
      made_alike bench.circuit bench.order c.narrowed_outcomes.new.lanes narrow.lanes c.narrowed_outcomes.ensures.lanes (c.narrowed_outcomes.ensures.narrow 0 c.self.inside.narrow one),
    )

pub returns-clause-outcomes : goal.returns-clause-outcomes
returns-clause-outcomes g c =
    let bench = c.args.bench.now in
    c.narrowed_outcomes.ensures.outcomes
    ∙ ap (λ ftti. map (outcome_for bench.circuit bench.points ftti bench.runs c.args.faults.now) c.args.batches.now) (ap (λ (s : Simulator). s.ftti) c.self.view_is)

pub returns-clause-same : goal.returns-clause-same
returns-clause-same g c =
    same_as_before c.args.bench.now c.args.self.now c.self.inside.lanes c.self.inside.points.value c.self.inside.windows c.self.view_is c.requires.made
    c.narrowed_outcomes.new.lanes c.narrowed_outcomes.new.windows c.narrowed_outcomes.ensures.lanes c.narrowed_outcomes.ensures.ftti
