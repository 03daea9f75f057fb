use Rattle.std.proofs.Common.{◌≤◌}
use Rattle.differential_kernel.proofs.pace.count_differing.Given as goal

-- at most one for each place so far
abbrev pub invariant-loop-place : goal.invariant-loop-place
invariant-loop-place g l = l.differing ≤ l.place
