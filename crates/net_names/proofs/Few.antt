-- Different names that are all among others are no more than those.
use Rattle.std.proofs.Common.{◌≡◌, ◌+◌, ◌≤◌, true, false, cond, List, [], ◌∷◌, length, arith}
use Rattle.std.specs.Prelude.{bytes_eq}
use Rattle.std.proofs.lemmas.Bool.Decides.{nat_tests}
use Rattle.fm_base.specs.Names.{Name, is_one_of, has_repeat}
use Rattle.fm_base.proofs.Tests.{or_false}
use Rattle.fm_base.proofs.Distinct.{same_name, is_same}

-- the names without one place of this one
abbrev without : Name → List Name → List Name
without name [] = []
without name (x ∷ xs) = cond (bytes_eq name x) xs (x ∷ without name xs)

one_less : (name : Name) (xs : List Name) → is_one_of xs name ≡ true → length xs ≡ 1 + length (without name xs)
one_less name [] e = cc
one_less name (x ∷ xs) e = grind (arith, nat_tests, one_less name xs)

others_stay : (name other : Name) (xs : List Name) → bytes_eq other name ≡ false → is_one_of xs other ≡ true
    → is_one_of (without name xs) other ≡ true
others_stay name other [] n e = cc
others_stay name other (x ∷ xs) n e = grind (arith, nat_tests, others_stay name other xs, same_name name x)

pub no_more : (xs ys : List Name) → has_repeat xs ≡ false → ((name : Name) → is_one_of xs name ≡ true → is_one_of ys name ≡ true)
    → length xs ≤ length ys
no_more [] ys e among = omega arith
no_more (x ∷ xs) ys e among =
    let parts = or_false (is_one_of xs x) (has_repeat xs) e in
    let more : length xs ≤ length (without x ys) =
    no_more xs (without x ys) parts.1 (λ name h. grind (arith, nat_tests, others_stay x name ys, among name, same_name name x)) in
    grind (arith, nat_tests, one_less x ys, among x, is_same x)
