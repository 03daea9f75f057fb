use Rattle.std.proofs.Common.{◌≡◌, ◌+◌, refl, ap, sym, ◌∙◌, subst, arith}
use Rattle.std.proofs.lemmas.Grind.{common_steps}
use Rattle.std.specs.Vec.{with_items}
use Rattle.circuit.specs.Value.{cycle_of, net_value}
use Rattle.circuit.specs.Trace.{flipped}
use Rattle.circuit.specs.After.{Moment, IsAfter}
use Rattle.circuit.proofs.Cycles.{after_step}
use Rattle.cycle_sim.specs.Sim.{Simulation}
use Rattle.cycle_sim.proofs.sim.Sim.cycle.Goals as goal

pub returns-clause-step : goal.returns-clause-step
returns-clause-step c = λ vectors after.
    let raw : (with_items c.self.inside.raw c.run.new.raw).items ≡ c.run.new.raw = grind (arith, common_steps) in
    let values : (with_items c.self.inside.values c.run.new.values).items ≡ c.run.new.values = grind (arith, common_steps) in
    let old : Moment = record { cycle = c.self.inside.cycle; raw = c.self.inside.raw.items; values = c.self.inside.values.items } in
    let new : Moment = record { cycle = c.self.inside.cycle + 1; raw = c.run.new.raw; values = c.run.new.values } in
    rw (raw, values)
    (after_step c.args.netlist.now c.args.faults.now vectors c.args.inputs.now old new c.run.ensures.sound
    (subst (λ (s : Simulation). IsAfter c.args.netlist.now c.args.faults.now vectors s.moment) (sym c.self.view_is) after)
    (λ m lt.
    c.run.ensures.values m lt
    ∙ ap (λ held. net_value (cycle_of c.args.netlist.now c.args.faults.now old.cycle (flipped c.args.faults.now old.cycle held) c.args.inputs.now) m) c.deref_mut.ensures.value)
    c.run.ensures.raw refl)
