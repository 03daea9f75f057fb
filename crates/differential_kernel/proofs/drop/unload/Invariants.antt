use Rattle.std.proofs.Common.{◌≡◌, ◌<◌, ℕ, true, false, []}
use Rattle.lane_words.specs.Loads.{loaded_faults}
use Rattle.differential_kernel.proofs.drop.unload.Given as goal

-- the lanes so far have none of the faults that are dropped, and the others are as they were
abbrev pub invariant-loop-lane : goal.invariant-loop-lane
invariant-loop-lane g l = record {
  dropped : (k : ℕ) → k < l.lane → g.W.Word.lane_bit l.out k ≡ true → loaded_faults l.loads k ≡ [];
  others : (k : ℕ) → k < g.W.Word.lanes → g.W.Word.lane_bit l.out k ≡ false → loaded_faults l.loads k ≡ loaded_faults l.initial.loads k;
}
