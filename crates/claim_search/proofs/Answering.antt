-- The answer to a claim, out of what its lead-in and its windows have shown.
use Rattle.std.proofs.Common.{◌≡◌, inl, inr, true, List, ◌∙◌}
use Rattle.std.proofs.lemmas.Bool.{cases_Bool}
use Rattle.circuit.specs.Sound.{IsNetlist}
use Rattle.circuit.specs.declared.parts.Latch.{Latch}
use Rattle.coverage_claim.specs.Claim.{Claim}
use Rattle.coverage_claim.specs.Largest.{IsProvedSimply}
use Rattle.coverage_claim.specs.Stretch.{Pairs}
use Rattle.pair_sets.specs.declared.pairs.PairSet.{PairSet}
use Rattle.claim_search.specs.Answer.{IsNeverProvedSimply, IsProvedWithSome}
use Rattle.claim_search.specs.LeadIn.{LeavesStarts}
use Rattle.claim_search.specs.Question.{with_pairs}
use Rattle.claim_search.specs.Window.{Allows, AreKept, WindowsGoOn, starts_of}
use Rattle.claim_search.proofs.Starting.{starts_are}

module _ (claim : Claim) (first : List PairSet) (leaves : LeavesStarts claim first) where
  -- PROVED, where its windows go on from what the lead-in leaves
  pub proved : IsNetlist claim.circuit → (starts : List PairSet) → AreKept first starts → WindowsGoOn (with_pairs claim (starts_of claim.circuit starts)) → IsProvedWithSome claim
  proved sound starts kept goes = (
    starts_of claim.circuit starts,
    record {
      goes_on = goes;
      begins = λ golden faulty so l latch at.
          starts_are claim.circuit starts l latch sound at (golden claim.from latch.to.0) (faulty claim.from latch.to.0)
          ∙ kept l (golden claim.from latch.to.0) (faulty claim.from latch.to.0) (leaves.holds golden faulty so l latch at);
    },
  )

  -- A CLAIM THAT IS PROVED SIMPLY allows them
  pub allows : (pairs : Latch → Pairs) → IsProvedSimply (with_pairs claim pairs) → Allows (with_pairs claim pairs) first
  allows pairs proof l latch at a b e = elim (cases_Bool (pairs latch a b)) as (λ _. pairs latch a b ≡ true) [
    | inl there ↦ there
    | inr out ↦ absurd (leaves.simply l latch at a b e (proof.begins l latch at a b out))
  ]

  -- so it is never, where no claim that allows them is
  pub never : ((pairs : Latch → Pairs) → Allows (with_pairs claim pairs) first → ¬ (IsProvedSimply (with_pairs claim pairs))) → IsNeverProvedSimply claim
  never none pairs proof = none pairs (allows pairs proof) proof
