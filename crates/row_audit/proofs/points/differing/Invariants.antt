use Rattle.std.proofs.Common.{◌≡◌, ◌+◌, ◌<◌, ℕ, not, take}
use Rattle.std.specs.List.{list_any}
use Rattle.circuit.specs.declared.parts.NetId.{NetId}
use Rattle.workload.specs.declared.run.Run.{Run}
use Rattle.workload.specs.Runs.{cycles_of}
use Rattle.campaign_plan.specs.Danger.{golden, with_faults}
use Rattle.fm_base.specs.Lists.{same_bit}
use Rattle.fm_base.specs.Planes.{bit}
use Rattle.row_audit.proofs.points.differing.Given as goal

-- the lanes in which some net so far differs
abbrev pub invariant-loop-net : goal.invariant-loop-net
invariant-loop-net g l =
    (run : Run) (t k : ℕ) → t < cycles_of run → g.B.Circuits.IsAfter l.circuits (take (t + 1) run.vectors) → k < 64
    → bit l.differ k
    ≡ list_any (λ (net : NetId).
    not (same_bit (with_faults (g.B.Circuits.loaded l.circuits).circuit ((g.B.Circuits.loaded l.circuits).faults l.word k) run t net) (golden (g.B.Circuits.loaded l.circuits).circuit run t net)))
    (take l.net-index l.nets)
