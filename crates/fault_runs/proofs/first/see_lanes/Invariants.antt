use Rattle.std.proofs.Common.{◌≡◌, ◌<◌, ◌+◌, ◌*◌, ℕ, Bool, length, is_some, true, false}
use Rattle.fm_base.specs.Planes.{bit}
use Rattle.fault_runs.specs.First.{SeesSome, fault_in, first_in}
use Rattle.fault_runs.proofs.first.see_lanes.Given as goal

-- the lanes that aren't left any more have been put
abbrev pub invariant-loop-left : goal.invariant-loop-left
invariant-loop-left l = record {
  inside : (k : ℕ) → k < 64 → bit l.left k ≡ true → bit l.lanes k ≡ true;
  seen : (k : ℕ) → k < 64 → l.word * 64 + k < length l.group → bit l.lanes k ≡ true → bit l.left k ≡ false → is_some (first_in l.cycles (fault_in l.group (l.word * 64 + k))) ≡ true;
  sees : (is_seen : ℕ → Bool) → ((k : ℕ) → k < 64 → l.word * 64 + k < length l.group → bit l.lanes k ≡ true → is_seen (fault_in l.group (l.word * 64 + k)) ≡ true)
      → SeesSome l.group is_seen l.cycle l.initial.cycles l.cycles;
}

-- the lanes that are left, as a number
abbrev pub decreases-loop-left : goal.decreases-loop-left
decreases-loop-left l = l.left
