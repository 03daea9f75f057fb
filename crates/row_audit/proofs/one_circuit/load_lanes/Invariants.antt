use Rattle.std.proofs.Common.{◌≡◌, ◌<◌, ℕ, length, get_or}
use Rattle.std.specs.Prelude.{None}
use Rattle.fault_list.specs.Faults.{fault_in_lane}
use Rattle.row_audit.proofs.one_circuit.load_lanes.Given as goal

-- the lanes so far have their faults
abbrev pub invariant-loop-lane : goal.invariant-loop-lane
invariant-loop-lane l = record {
  count : length l.lanes ≡ 64;
  held : (k : ℕ) → k < l.lane → get_or l.lanes k None ≡ fault_in_lane l.faults l.batch k;
}
