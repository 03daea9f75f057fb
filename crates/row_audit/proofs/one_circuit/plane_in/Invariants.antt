use Rattle.std.proofs.Common.{◌≡◌, ◌+◌, ◌<◌, ℕ, Bool, List, length}
use Rattle.circuit.specs.declared.parts.Fault.{Fault}
use Rattle.circuit.specs.After.{IsAfter}
use Rattle.circuit.specs.Trace.{trace}
use Rattle.cycle_sim.specs.Sim.{Simulation}
use Rattle.fm_base.specs.Planes.{plane_below}
use Rattle.row_audit.specs.Alone.{AreSims, sim_at}
use Rattle.row_audit.proofs.one_circuit.plane_in.Given as goal

-- the plane of the lanes so far
abbrev pub invariant-loop-lane : goal.invariant-loop-lane
invariant-loop-lane l =
    (golden : Simulation) (faults : ℕ → List Fault) (vectors : List (List Bool)) (t : ℕ)
    → AreSims golden.circuit golden.order l.sims
    → ((k : ℕ) → k < 64 → IsAfter golden.circuit (faults k) vectors (sim_at golden l.sims k).moment)
    → t + 1 ≡ length vectors → l.net.0 < length golden.circuit.drivers
    → l.plane ≡ plane_below l.lane (λ k. trace golden.circuit (faults k) vectors t l.net.0)
