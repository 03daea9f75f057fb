-- What may be answered to a claim.
use Rattle.std.specs.Prelude.{Bool, true, false}
use Rattle.circuit.specs.declared.parts.Latch.{Latch}
use Rattle.coverage_claim.specs.Claim.{Claim, IsNeverEarly, IsProved}
use Rattle.coverage_claim.specs.Largest.{IsProvedSimply}
use Rattle.coverage_claim.specs.Stretch.{Pairs}
use Rattle.claim_search.specs.LeadIn.{HasNoRuns, IsNeverEarlySimply}
use Rattle.claim_search.specs.Question.{with_pairs}
use Rattle.claim_search.specs.declared.answer.Answer.{Answer}
use Rattle.claim_search.specs.declared.answer.Answer.TheVariants.{Alarmed, Early, NoRuns, Open}

-- THE CLAIM IS PROVED with some pairs for its latches
abbrev pub IsProvedWithSome : Claim → Type 0
IsProvedWithSome claim = (pairs : Latch → Pairs) × IsProved (with_pairs claim pairs)

-- AND WITH NO PAIRS IS IT PROVED SIMPLY
abbrev pub IsNeverProvedSimply : Claim → Type 0
IsNeverProvedSimply claim = (pairs : Latch → Pairs) → ¬ (IsProvedSimply (with_pairs claim pairs))

-- THE ANSWER TO A CLAIM, right from both ends
abbrev pub IsAnswer : Claim → Answer → Type 0
IsAnswer claim Alarmed = IsProvedWithSome claim × IsNeverEarly claim
IsAnswer claim Early = IsProvedWithSome claim × (¬ (IsNeverEarlySimply claim))
IsAnswer claim Open = IsNeverProvedSimply claim
IsAnswer claim NoRuns = HasNoRuns claim

-- ---- private steps, which the public contracts don't cite

-- what holds of a region holds of each part of it
abbrev pub is_of_parts : Answer → Bool
is_of_parts = elim [ Alarmed ↦ true | NoRuns ↦ true | _ ↦ false ]

abbrev pub is_early : Answer → Bool
is_early = elim [ Early ↦ true | _ ↦ false ]
