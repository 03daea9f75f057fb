use Rattle.std.proofs.Common.{◌<◌, length, arith, List, ap, sym, subst, ◌∙◌}
use Rattle.std.specs.Prelude.{slice_index_or}
use Rattle.testbench.specs.Load.{lane_faults, load_of}
use Rattle.classifier.specs.Narrowed.{AreNarrowFor}
use Rattle.classifier.specs.Planes.{planes_of}
use Rattle.classifier.specs.declared.narrow.Narrow.{Narrow}
use Rattle.classifier.specs.Simulator.{Simulator, listed}
use Rattle.classifier.proofs.PlaneBits.{planes_same}
use Rattle.classifier.proofs.Simulators.{lanes_fit, made_alike, narrow_fits, same_as_before, windows_fit, windows_kept}
use Rattle.classifier.proofs.simulator.Simulator.counted_lists.Goals as goal

pub loaded_quad-requires-clause-lanes : goal.loaded_quad-requires-clause-lanes
loaded_quad-requires-clause-lanes g c =
    let fit = lanes_fit c.args.bench.now c.args.self.now c.self.inside.lanes c.self.inside.points.value c.self.inside.windows c.self.view_is c.requires in
    let made = c.load_lists-reach.ensures.made in
    record { circuit = made.circuit ∙ fit.circuit; order = made.order ∙ fit.order }

pub loaded_quad-requires-clause-windows : goal.loaded_quad-requires-clause-windows
loaded_quad-requires-clause-windows g c =
    windows_fit c.args.bench.now c.args.self.now c.self.inside.lanes c.self.inside.points.value c.self.inside.windows c.self.view_is c.requires c.self.invariant.0

pub loaded_quad-requires-clause-narrow : goal.loaded_quad-requires-clause-narrow
loaded_quad-requires-clause-narrow g c =
    subst (λ (ns : List Narrow). AreNarrowFor c.args.bench.now.circuit c.args.bench.now.order ns) (sym c.from_mut.ensures.value)
    (narrow_fits c.args.bench.now c.args.self.now c.self.inside.lanes c.self.inside.points.value c.self.inside.windows c.self.view_is c.requires c.self.inside.narrow c.self.invariant.1)

pub invariant_of-self : goal.invariant_of-self
invariant_of-self g c =
    let bench = c.args.bench.now in
    let one : 0 < length c.loaded_quad.new.narrow = omega (arith, c.loaded_quad.auto.narrow, c.from_mut.ensures.len) in
    let narrow : Narrow = slice_index_or c.loaded_quad.new.narrow 0 c.self.inside.narrow in (
      windows_kept c.args.bench.now c.args.self.now c.self.inside.lanes c.self.inside.points.value c.self.inside.windows c.self.view_is c.requires c.loaded_quad.new.windows
          c.loaded_quad.ensures.windows,
      made_alike bench.circuit bench.order c.loaded_quad.new.lanes narrow.lanes c.loaded_quad.ensures.lanes (c.loaded_quad.ensures.narrow 0 c.self.inside.narrow one),
    )

pub returns-clause-outcomes : goal.returns-clause-outcomes
returns-clause-outcomes g c = λ word lt.
    let bench = c.args.bench.now in
    let lanes = lane_faults (load_of c.load_lists-reach.new.lanes) word in
    c.loaded_quad.ensures.outcomes word lt
    ∙ ap (λ ftti. planes_of bench.circuit bench.points ftti bench.runs lanes) (ap (λ (s : Simulator). s.ftti) c.self.view_is)
    ∙ planes_same bench.circuit bench.points c.args.self.now.ftti bench.runs lanes (listed c.args.lists.now word) (λ k lane. c.load_lists-reach.ensures.loads word k lt lane)

pub returns-clause-same : goal.returns-clause-same
returns-clause-same g c =
    same_as_before c.args.bench.now c.args.self.now c.self.inside.lanes c.self.inside.points.value c.self.inside.windows c.self.view_is c.requires
    c.loaded_quad.new.lanes c.loaded_quad.new.windows c.loaded_quad.ensures.lanes c.loaded_quad.ensures.ftti
