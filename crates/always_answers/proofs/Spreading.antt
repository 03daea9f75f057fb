-- Answers to the nets of a part, written at their numbers.
use Rattle.std.proofs.Common.{◌≡◌, ◌⊎◌, inl, inr, ℕ, ◌+◌, ◌<◌, Bool, true, List, length, ap, sym, subst, arith}
use Rattle.std.specs.Prelude.{◌==◌, slice_index, All}
use Rattle.std.proofs.lemmas.Bool.{cases_eq, eq-eqb}
use Rattle.fm_base.specs.Lists.{same_bit}
use Rattle.fm_base.proofs.Tests.{both_true}
use Rattle.circuit.specs.Circuit.{Circuit}
use Rattle.circuit.specs.Order.{net_at}
use Rattle.circuit.specs.Value.{bit_at}
use Rattle.circuit.specs.declared.parts.NetId.{NetId}
use Rattle.claim_search.specs.Question.{IsPosed}
use Rattle.claim_search.specs.Sites.{IsAnswerAt, answer_at}
use Rattle.claim_search.specs.declared.answer.Answer.{Answer}
use Rattle.claim_search.specs.declared.question.Posed.{Posed}
use Rattle.coverage_claim.specs.Claim.{Claim}
use Rattle.coverage_claim.specs.declared.parts.Site.TheVariants.{Free}
use Rattle.always_answers.specs.Steps.{AreAlone, AreFree, ArePicked, IsSpread, is_picked, net}
use Rattle.always_answers.proofs.Picking.{within_marks}

-- A PART MORE has its answers
pub alone_more : (c : Circuit) (p : Posed) (parts : List ℕ) (part : ℕ) (seen : List Bool) (nets : List NetId) (found old new : List Answer)
    → ArePicked (is_picked parts part seen true) (length parts) nets → length seen ≡ length parts
    → ((claim : Claim) → IsPosed c p claim → (i : ℕ) → i < length nets → IsAnswerAt claim (net_at nets i) Free (answer_at found i))
    → ((n : ℕ) → IsSpread (length nets) nets found old new n) → AreAlone c p parts seen part old → AreAlone c p parts seen (part + 1) new
alone_more c p parts part seen nets found old new are size each spread before claim posed n lt e = elim (spread n) as (λ _. IsAnswerAt claim (net n) Free (answer_at new n)) [
  | inl it ↦ subst (IsAnswerAt claim (net n) Free) (sym it.3)
      (subst (λ (one : NetId). IsAnswerAt claim one Free (answer_at found it.0)) (ap net it.2) (each claim posed it.0 it.1))
  | inr out ↦ subst (IsAnswerAt claim (net n) Free) (sym out.1) (before claim posed n (less (cases_eq (slice_index parts n) part) out.0) e)
]
  where
    less : (slice_index parts n ≡ part) ⊎ (slice_index parts n ≡ part → ⊥) → ((i : ℕ) → i < length nets → (net_at nets i).0 ≡ n → ⊥) → slice_index parts n < part
    less (inr other) none = omega (arith, lt, other)
    less (inl own) none =
        let within = within_marks seen n e in
        let at = are.all n (omega (arith, within, size)) (both_true (slice_index parts n == part) (same_bit (bit_at seen n) true) (eq-eqb (slice_index parts n) part own) (ap (λ b. same_bit b true) e)) in
        absurd (none at.0 at.1 at.2)

-- where all parts have them each net has
pub all_free : (c : Circuit) (p : Posed) (parts : List ℕ) (count : ℕ) (seen : List Bool) (free : List Answer) → length seen ≡ length parts → All (λ part. part < count) parts
    → AreAlone c p parts seen count free → AreFree c p seen free
all_free c p parts count seen free size within alone claim posed n e =
    let here = within_marks seen n e in
    alone claim posed n (within n 0 (omega (arith, here, size))) e
