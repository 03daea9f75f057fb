use Rattle.std.proofs.Common.{◌≡◌, ◌<◌, ◌^◌, ◌&&◌, ℕ, length}
use Rattle.fault_list.specs.Faults.{fault_number, is_used}
use Rattle.fm_base.specs.Planes.{bit}
use Rattle.fault_collapse.specs.Chosen.{danger_shown, notice_shown}
use Rattle.fault_collapse.proofs.spread.planes_of.Given as goal

-- the bits of the lanes so far are what their faults are shown to be
abbrev pub invariant-loop-lane : goal.invariant-loop-lane
invariant-loop-lane l = record {
  fits : (l.danger < 2 ^ 64) × (l.noticed < 2 ^ 64);
  danger : (k : ℕ) → k < l.lane
      → bit l.danger k ≡ (is_used (length l.collapse.faults) l.batch k && danger_shown l.collapse l.places l.found (fault_number l.batch k));
  noticed : (k : ℕ) → k < l.lane
      → bit l.noticed k ≡ (is_used (length l.collapse.faults) l.batch k && notice_shown l.collapse l.places l.found (fault_number l.batch k));
}
