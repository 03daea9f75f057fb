use Rattle.std.proofs.Common.{◌≡◌, ◌<◌, ◌≤◌, ℕ, []}
use Rattle.lane_words.specs.Loads.{loaded_faults}
use Rattle.differential_kernel.specs.Picked.{lane_at}
use Rattle.differential_kernel.proofs.take.take_faults.Given as goal

-- the places so far have their faults
abbrev pub invariant-loop-place : goal.invariant-loop-place
invariant-loop-place l = record {
  taken : (place : ℕ) → place < l.place → place < l.picks.count → loaded_faults l.faults place ≡ loaded_faults l.others (lane_at l.picks place);
  rest : (place : ℕ) → place < l.place → l.picks.count ≤ place → loaded_faults l.faults place ≡ [];
}
