use Rattle.std.proofs.Common.{◌≡◌, ◌⊎◌, ◌≤◌, ◌<◌, ℕ, length}
use Rattle.claim_search.specs.Sites.{answer_at}
use Rattle.claim_search.proofs.sites.note.Given as goal

abbrev pub invariant-loop-i : goal.invariant-loop-i
invariant-loop-i l = record {
  size : length l.answers ≡ length l.initial.answers;
  there : (k : ℕ) → l.start ≤ k → k < l.i → answer_at l.answers k ≡ l.answer;
  others : (k : ℕ) → (k < l.start) ⊎ (l.i ≤ k) → answer_at l.answers k ≡ answer_at l.initial.answers k;
}
