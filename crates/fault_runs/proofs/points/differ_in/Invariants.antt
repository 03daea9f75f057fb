use Rattle.std.proofs.Common.{◌≡◌, ◌+◌, ◌<◌, ℕ, not, take}
use Rattle.std.specs.List.{list_any}
use Rattle.circuit.specs.declared.parts.NetId.{NetId}
use Rattle.workload.specs.declared.run.Run.{Run}
use Rattle.workload.specs.Runs.{cycles_of}
use Rattle.campaign_plan.specs.Danger.{golden, with_faults}
use Rattle.fm_base.specs.Lists.{same_bit}
use Rattle.lane_words.specs.Loads.{loaded_faults}
use Rattle.golden_difference.specs.Beside.{AreBeside}
use Rattle.fault_runs.proofs.points.differ_in.Given as goal

-- the lanes in which some net so far differs
abbrev pub invariant-loop-net : goal.invariant-loop-net
invariant-loop-net g l =
    (run : Run) (t k : ℕ) → t < cycles_of run → AreBeside g.W.Word.lanes g.W.Word.lane_bit (take (t + 1) run.vectors) l.lanes → k < g.W.Word.lanes
    → g.W.Word.lane_bit l.differ k
    ≡ list_any (λ (net : NetId).
    not (same_bit (with_faults l.lanes.circuit (loaded_faults l.lanes.in_force k) run t net) (golden l.lanes.circuit run t net)))
    (take l.net-index l.nets)
