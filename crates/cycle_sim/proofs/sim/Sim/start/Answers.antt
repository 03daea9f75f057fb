use Rattle.std.proofs.Common.{refl, ◌∙◌}
use Rattle.circuit.proofs.Cycles.{after_start}
use Rattle.cycle_sim.proofs.sim.Sim.start.Goals as goal

pub returns-clause-start : goal.returns-clause-start
returns-clause-start c = λ faults.
    after_start c.self.inside.circuit.value faults
    (record { cycle = 0; raw = c.copy_from_slice.new.self.items; values = c.self.inside.values.items })
    refl
    (c.copy_from_slice.ensures.items ∙ c.deref.ensures.value ∙ c.self.invariant.initial)
