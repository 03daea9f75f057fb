-- What is among names that go to others.
use Rattle.std.proofs.Common.{◌≡◌, ◌||◌, List, [], ◌∷◌, ap, sym, ◌∙◌, fold, arith}
use Rattle.std.specs.Prelude.{bytes_eq}
use Rattle.std.proofs.lemmas.Bool.Decides.{nat_tests}
use Rattle.std.proofs.lemmas.List.Folds.{list_any-append}
use Rattle.std.proofs.Math.Bool.{or-false, or_assoc}
use Rattle.fm_base.specs.Names.{Name, is_one_of}
use Rattle.fm_base.proofs.Distinct.{same_name}
use Rattle.fm_base.specs.Index.{with_name}

-- a name is among those that came to be where it was, or is among those that came
pub taken_found : (seen names : List Name) (q : Name) → is_one_of (fold with_name seen names) q ≡ (is_one_of seen q || is_one_of names q)
taken_found seen [] q = sym (or-false (is_one_of seen q))
taken_found seen (name ∷ names) q =
    let one : is_one_of (with_name seen name) q ≡ (is_one_of seen q || bytes_eq q name) =
    grind (arith, nat_tests, same_name q name, list_any-append (bytes_eq q) seen (name ∷ []), or-false) in
    taken_found (with_name seen name) names q ∙ ap (λ b. b || is_one_of names q) one
    ∙ or_assoc (is_one_of seen q) (bytes_eq q name) (is_one_of names q)
