-- The bits of what an operation on planes gives.
use Rattle.std.proofs.Common.{◌≡◌, ℕ, ◌-◌, ◌^◌, ◌<◌, ◌==◌, false, not, ◌&&◌, ◌||◌, bit_and, bit_or, ap, ◌∙◌}
use Rattle.std.proofs.lemmas.Nat.Bits.{bit_at-zero}
use Rattle.fm_base.specs.Planes.{bit}
use Rattle.fm_base.proofs.Bits.{bit_of_and, bit_of_not, bit_of_or}

-- the lanes of one plane, and those of another that a third lacks
pub bit_with_quiet : (settled differing raised k : ℕ) → raised < 2 ^ 64 → k < 64
    → bit (bit_or settled (bit_and differing (18446744073709551615 - raised))) k ≡ (bit settled k || (bit differing k && not (bit raised k)))
bit_with_quiet settled differing raised k small lt =
    bit_of_or settled (bit_and differing (18446744073709551615 - raised)) k
    ∙ ap (λ b. bit settled k || b) (bit_of_and differing (18446744073709551615 - raised) k ∙ ap (λ b. bit differing k && b) (bit_of_not raised k small lt))

pub bit_of_none : (k : ℕ) → bit 0 k ≡ false
bit_of_none k = ap (λ n. n == 1) (bit_at-zero k)
