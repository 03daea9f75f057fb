use Rattle.std.proofs.Common.{◌≡◌, ◌<◌, ℕ, take}
use Rattle.lane_words.specs.Gates.{plane}
use Rattle.lane_kernel.proofs.source.take_first.Given as goal

abbrev pub invariant-loop-j : goal.invariant-loop-j
invariant-loop-j g l = (k : ℕ) → k < g.W.Word.lanes → take l.j (plane g.W.Word.lane_bit k l.raw) ≡ take l.j l.starts
