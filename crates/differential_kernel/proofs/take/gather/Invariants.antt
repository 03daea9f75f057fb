use Rattle.std.proofs.Common.{◌≡◌, ◌<◌, ◌&&◌, ℕ}
use Rattle.std.specs.Prelude.{nat_lt}
use Rattle.differential_kernel.specs.Picked.{lane_at}
use Rattle.differential_kernel.proofs.take.gather.Given as goal

-- the bits of the places so far
abbrev pub invariant-loop-place : goal.invariant-loop-place
invariant-loop-place g l =
    (place : ℕ) → place < g.W.Word.lanes → g.W.Word.lane_bit l.gathered place ≡ (nat_lt place l.place && g.V.Word.lane_bit l.word (lane_at l.picks place))
