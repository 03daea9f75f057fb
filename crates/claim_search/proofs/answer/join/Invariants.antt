use Rattle.std.proofs.Common.{◌≡◌, ◌≤◌, ◌<◌, ◌||◌, ℕ, Bool, length}
use Rattle.pair_sets.specs.Choice.{set_at}
use Rattle.pair_sets.specs.Pairs.{has}
use Rattle.claim_search.proofs.answer.join.Given as goal

abbrev pub invariant-loop-i : goal.invariant-loop-i
invariant-loop-i l = record {
  size : length l.starts ≡ length l.initial.starts;
  done : (k : ℕ) → k < l.i → (a b : Bool) → has (set_at l.starts k) a b ≡ (has (set_at l.initial.starts k) a b || has (set_at l.others k) a b);
  rest : (k : ℕ) → l.i ≤ k → set_at l.starts k ≡ set_at l.initial.starts k;
}
