use Rattle.std.proofs.Common.{◌≡◌, ◌≤◌, ◌<◌, ◌+◌, ℕ, length, slice_index}
use Rattle.claim_search.specs.Question.{IsPosed}
use Rattle.claim_search.specs.Sites.{IsReady}
use Rattle.coverage_claim.specs.Claim.{Claim}
use Rattle.always_answers.specs.PartSteps.{IsPartSoFar, part_answer_at, with_shorter}
use Rattle.always_answers.proofs.parts.try_window.Given as goal

abbrev pub invariant-loop-part : goal.invariant-loop-part
invariant-loop-part l = record {
  ready : IsReady l.searched l.shorter l.search;
  size : length l.answers ≡ length l.initial.answers;
  tried : (claim : Claim) → IsPosed l.searched.netlist.now (with_shorter l.shorter l.greatest) claim → (i : ℕ) → i < l.part
      → IsPartSoFar claim (slice_index l.parts.of_nets.now) l.parts.open.now i (l.shorter.window + 1) (part_answer_at l.answers i);
  left : (i : ℕ) → l.part ≤ i → part_answer_at l.answers i ≡ part_answer_at l.initial.answers i;
}
