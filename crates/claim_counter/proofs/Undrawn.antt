-- How many numbers a seat may still draw: each draw is of one that it hasn't claimed, so there is an end to them.
use Rattle.std.proofs.Common.{◌≡◌, ℕ, zero, suc, ◌+◌, ◌<◌, ◌≤◌, ◌==◌, Bool, true, false, cond, List, refl, subst, arith}
use Rattle.std.proofs.lemmas.Bool.Decides.{nat_tests}
use Rattle.campaign_core.specs.Machines.{times}

-- how many of the numbers below todo aren't among the claims
abbrev pub undrawn : ℕ → List ℕ → ℕ
undrawn zero claims = 0
undrawn (suc n) claims = cond (times n claims == 0) 1 0 + undrawn n claims

-- more claims leave no more of them
pub undrawn_most : (todo : ℕ) (old now : List ℕ) → ((x : ℕ) → times x old ≤ times x now) → undrawn todo now ≤ undrawn todo old
undrawn_most zero old now more = omega arith
undrawn_most (suc n) old now more = let rest = undrawn_most n old now more in let here = more n in grind (arith, nat_tests)

-- a number that is claimed for the first time leaves less of them
pub undrawn_less : (todo n : ℕ) (old now : List ℕ) → n < todo → times n old ≡ 0 → 0 < times n now → ((x : ℕ) → times x old ≤ times x now) → undrawn todo now < undrawn todo old
undrawn_less zero n old now less none some more = absurd (omega arith)
undrawn_less (suc m) n old now less none some more = by_last (n == m) refl (λ lower. undrawn_less m n old now lower none some more)
  where
    by_last : (last : Bool) → (n == m) ≡ last → (n < m → undrawn m now < undrawn m old) → undrawn (suc m) now < undrawn (suc m) old
    by_last true is below =
        let same : n ≡ m = grind (arith, nat_tests) in
        let none_here : times m old ≡ 0 = subst (λ k. times k old ≡ 0) same none in
        let some_here : 0 < times m now = subst (λ k. 0 < times k now) same some in
        let rest = undrawn_most m old now more in
        grind (arith, nat_tests)
    by_last false is below =
        let lower : n < m = grind (arith, nat_tests) in
        let rest = below lower in
        let here = more m in
        grind (arith, nat_tests)
