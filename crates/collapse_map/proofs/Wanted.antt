-- A row has dashes at all places but one exactly where it wants nothing, or something at this place alone.
use Rattle.std.proofs.Common.{◌≡◌, ◌≢◌, ℕ, zero, suc, ◌+◌, ◌<◌, ◌≤◌, Bool, true, false, not, ◌&&◌, cond, List, [], ◌∷◌, refl, ap, ap₂, sym, ◌∙◌, arith}
use Rattle.std.specs.Prelude.{◌==◌, if◌then◌else◌}
use Rattle.std.specs.List.{list_all}
use Rattle.std.proofs.lemmas.Bool.{eq-eqb, eqb-true}
use Rattle.std.proofs.lemmas.List.Sums.{sum_by-cons}
use Rattle.circuit.specs.declared.parts.Lit.{Lit}
use Rattle.circuit.specs.declared.parts.Lit.TheVariants.{Zero, One, Any}
use Rattle.fm_base.proofs.Tests.{false_of}
use Rattle.collapse_map.specs.Fixed.{dashes_but, is_dash_literal, lit_at}
use Rattle.collapse_map.specs.Wants.{wants}

-- what one literal wants
abbrev pub own_wants : Lit → ℕ
own_wants lit = if is_dash_literal lit then 0 else 1

wants_cons : (lit : Lit) (row : List Lit) → wants (lit ∷ row) ≡ cond (not (is_dash_literal lit)) 1 0 + wants row
wants_cons lit row = sum_by-cons (λ l. cond (not (is_dash_literal l)) 1 0) lit row

-- two equations that hold together are one test
same_test : (a b c d : ℕ) → (a ≡ b → c ≡ d) → (c ≡ d → a ≡ b) → (a == b) ≡ (c == d)
same_test a b c d to from = by_cases (a == b) refl
  where
    by_cases : (test : Bool) → (a == b) ≡ test → test ≡ (c == d)
    by_cases true e = sym (eq-eqb c d (to (eqb-true a b e)))
    by_cases false e = sym (false_of (c == d) (λ f. let g : (a == b) ≡ true = eq-eqb a b (from (eqb-true c d f)) in cc))

differ : (a b : ℕ) → a ≢ b → (a == b) ≡ false
differ a b apart = false_of (a == b) (λ e. apart (eqb-true a b e))

-- a row without wants has dashes alone
no_wants : (row : List Lit) → list_all is_dash_literal row ≡ (wants row == 0)
no_wants [] = refl
no_wants (Any ∷ row) =
    let size = wants_cons Any row in
    no_wants row ∙ same_test (wants row) 0 (wants (Any ∷ row)) 0 (λ e. omega (arith, size, e)) (λ e. omega (arith, size, e))
no_wants (Zero ∷ row) = let size = wants_cons Zero row in sym (differ (wants (Zero ∷ row)) 0 (omega (arith, size)))
no_wants (One ∷ row) = let size = wants_cons One row in sym (differ (wants (One ∷ row)) 0 (omega (arith, size)))

-- what one place wants the row wants
own_within : (row : List Lit) (place : ℕ) → own_wants (lit_at row place) ≤ wants row
own_within [] place = omega arith
own_within (Any ∷ row) zero = omega arith
own_within (Zero ∷ row) zero = let size = wants_cons Zero row in omega arith
own_within (One ∷ row) zero = let size = wants_cons One row in omega arith
own_within (lit ∷ row) (suc place) = let size = wants_cons lit row in let less = own_within row place in omega arith

-- DASHES AT ALL OTHER PLACES
pub dashes_counted : (row : List Lit) (place : ℕ) → dashes_but place row ≡ (wants row == own_wants (lit_at row place))
dashes_counted [] place = refl
dashes_counted (Any ∷ row) zero =
    let size = wants_cons Any row in
    no_wants row ∙ same_test (wants row) 0 (wants (Any ∷ row)) 0 (λ e. omega (arith, size, e)) (λ e. omega (arith, size, e))
dashes_counted (Zero ∷ row) zero =
    let size = wants_cons Zero row in
    no_wants row ∙ same_test (wants row) 0 (wants (Zero ∷ row)) 1 (λ e. omega (arith, size, e)) (λ e. omega (arith, size, e))
dashes_counted (One ∷ row) zero =
    let size = wants_cons One row in
    no_wants row ∙ same_test (wants row) 0 (wants (One ∷ row)) 1 (λ e. omega (arith, size, e)) (λ e. omega (arith, size, e))
dashes_counted (Any ∷ row) (suc place) =
    let size = wants_cons Any row in
    dashes_counted row place ∙ same_test (wants row) (own_wants (lit_at row place)) (wants (Any ∷ row)) (own_wants (lit_at row place)) (λ e. omega (arith, size, e)) (λ e. omega (arith, size, e))
dashes_counted (Zero ∷ row) (suc place) =
    let size = wants_cons Zero row in
    let less = own_within row place in
    sym (differ (wants (Zero ∷ row)) (own_wants (lit_at row place)) (omega (arith, size, less)))
dashes_counted (One ∷ row) (suc place) =
    let size = wants_cons One row in
    let less = own_within row place in
    sym (differ (wants (One ∷ row)) (own_wants (lit_at row place)) (omega (arith, size, less)))
