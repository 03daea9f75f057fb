use Rattle.std.proofs.Common.{◌≡◌, ◌<◌, ◌+◌, ◌-◌, ℕ, List, take}
use Rattle.circuit.specs.declared.parts.NetId.{NetId}
use Rattle.circuit.specs.Value.{Cycle}
use Rattle.circuit.proofs.Walks.{Holds}
use Rattle.lane_words.specs.Gates.{IsProgram, plane}
use Rattle.lane_kernel.specs.Walk.{IsQuiet}
use Rattle.lane_kernel.proofs.gate.run_plain.Given as goal

abbrev pub invariant-loop-j : goal.invariant-loop-j
invariant-loop-j g l =
    (l.steps ≡ l.initial.steps + (l.j - l.from))
    × ((k : ℕ) (x : Cycle) (order : List NetId) → k < g.W.Word.lanes → IsProgram x.circuit order l.gates → IsQuiet l.gates x l.from l.to
    → Holds x (plane g.W.Word.lane_bit k l.initial.words) (take l.from order) l.from
    → Holds x (plane g.W.Word.lane_bit k l.words) (take l.j order) l.j)
