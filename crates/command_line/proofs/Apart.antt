-- RESULT beside the names of the other files.
use Rattle.std.proofs.Common.{◌≡◌, ◌≢◌, ◌∙◌, Bool, true, false, not, List, [], ◌∷◌, Option, ap, sym}
use Rattle.std.specs.Prelude.{Some, None, bytes_eq}
use Rattle.std.specs.List.{list_all, AllByRecursion as ForEach}
use Rattle.std.proofs.lemmas.Option.{same_Some}
use Rattle.fm_base.proofs.Distinct.{same_name}
use Rattle.fm_base.proofs.Tests.{and_both, and_not, false_of, not_false, not_true}
use Rattle.clap.specs.Words.{Text}
use Rattle.commands.specs.declared.command.Which.{Which}
use Rattle.command_line.proofs.Alone.{apart}

module _ (files : Which → Text) (found : Option Text) where
  -- no name is RESULT's where there is none
  pub no_result : (own : List Which) → found ≡ None → ForEach (λ file. found ≢ Some (files file)) own
  no_result [] none = tt
  no_result (file ∷ own) none = ((λ same. let bad : None ≡ Some (files file) = sym none ∙ same in cc), no_result own none)

  module _ (name : Text) (is : found ≡ Some name) where
    abbrev differs : Which → Bool
    differs file = not (bytes_eq (files file) name)

    -- where each name differs, RESULT is none of them
    pub others : (own : List Which) → list_all differs own ≡ true → ForEach (λ file. found ≢ Some (files file)) own
    others [] all = tt
    others (file ∷ own) all =
        let both = and_both (differs file) (list_all differs own) all in
        ((λ same. apart (files file) name (not_true (bytes_eq (files file) name) both.0) (sym (same_Some name (files file) (sym is ∙ same)))), others own both.1)

    -- and where one doesn't, it is
    pub one_of_them : (own : List Which) → list_all differs own ≡ false → ¬ (ForEach (λ file. found ≢ Some (files file)) own)
    one_of_them [] all each = cc
    one_of_them (file ∷ own) all each =
        let here : bytes_eq (files file) name ≡ true → ⊥ = λ e. each.0 (is ∙ ap Some (sym (same_name (files file) name e))) in
        let other : differs file ≡ true = not_false (bytes_eq (files file) name) (false_of (bytes_eq (files file) name) here) in
        one_of_them own (and_not (differs file) (list_all differs own) all other) each.1
