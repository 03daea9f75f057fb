use Rattle.std.proofs.Common.{◌≡◌, ◌/◌, ◌<◌, ◌≤◌, ℕ, false, not}
use Rattle.testbench.specs.Seen.{is_seen, stretch_at}
use Rattle.testbench.proofs.stretches.Stretches.have_alone.Given as goal

-- in the stretches so far the net has no other value
abbrev pub invariant-loop-s : goal.invariant-loop-s
invariant-loop-s l = (k : ℕ) → l.from / 256 ≤ k → k < l.s → is_seen (stretch_at l.stretches k) l.net.0 (not l.value) ≡ false
