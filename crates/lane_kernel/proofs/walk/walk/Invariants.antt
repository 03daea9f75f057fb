use Rattle.std.proofs.Common.{◌≡◌, ◌<◌, ◌+◌, ◌-◌, ◌≤◌, ℕ, List, length, take, []}
use Rattle.circuit.specs.declared.parts.NetId.{NetId}
use Rattle.circuit.specs.Value.{Cycle}
use Rattle.circuit.proofs.Walks.{Holds}
use Rattle.lane_words.specs.Forces.{AreForces}
use Rattle.lane_kernel.specs.Walk.{IsPaused}
use Rattle.lane_words.specs.Gates.{IsProgram, plane}
use Rattle.lane_kernel.proofs.walk.walk.Given as goal

abbrev pub decreases-pieces : goal.decreases-pieces
decreases-pieces g l = length l.gates - l.from

abbrev pub invariant-pieces : goal.invariant-pieces
invariant-pieces g l =
    (l.from ≤ length l.gates)
    × (l.steps ≡ l.initial.steps + l.from)
    × ((k : ℕ) (x : Cycle) (order : List NetId) → k < g.W.Word.lanes → x.circuit ≡ l.netlist → IsProgram x.circuit order l.gates
    → AreForces g.W.Word.lane_bit k l.forces x → IsPaused l.gates l.next x
    → Holds x (plane g.W.Word.lane_bit k l.initial.words) [] 0
    → Holds x (plane g.W.Word.lane_bit k l.words) (take l.from order) l.from)
