-- What is found of numbers is what is found of their names.
use Rattle.std.proofs.Common.{◌≡◌, ℕ, ◌+◌, ◌<◌, Bool, false, List, [], ◌∷◌, ◌++◌, refl, ap, sym, subst, ◌∙◌, length, get_or, drop, map}
use Rattle.std.specs.Prelude.{All, Option, Some, find, slice_get}
use Rattle.std.specs.List.{position_or_len}
use Rattle.std.specs.Option.{option_map, option_or}
use Rattle.std.proofs.lemmas.List.Elements.{All-head, All-tail}
use Rattle.std.proofs.lemmas.List.Folds.{find-append, find_at}
use Rattle.std.proofs.lemmas.Simd.{map-map}
use Rattle.std.proofs.lemmas.Option.{get_or_from_slice_get, slice_get_within}
use Rattle.fm_base.specs.Lists.{same_bit}
use Rattle.fm_base.specs.Names.{Name}
use Rattle.fm_base.proofs.Finding.{find-map}
use Rattle.blif_model.specs.Walk.{Step, Visit}
use Rattle.blif_model.specs.WalkSteps.{names_at}
use Rattle.blif_flatten.specs.declared.flat.FlatModel.{FlatModel}
use Rattle.blif_flatten.specs.declared.flat.NameId.{NameId}
use Rattle.blif_flatten.specs.declared.flat.NumberedStep.{NumberedStep}
use Rattle.blif_flatten.specs.declared.sorts.Sort.{Sort}
use Rattle.blif_flatten.specs.Flat.{act_by, all_names, AreBelow, name_at}
use Rattle.blif_flatten.specs.Flattened.{flat_steps}
use Rattle.blif_flatten.specs.Sorts.{named}
use Rattle.blif_reader.specs.Found.{is_wanted, passes, visits_by}
use Rattle.blif_reader.specs.Steps.{IsStep}
use Rattle.blif_reader.proofs.FlatSteps.{value_at}

pub find_parts : {X : Type 0} (p : X → Bool) (xs ys zs : List X) → find p (xs ++ ys ++ zs) ≡ option_or (option_or (find p xs) (find p ys)) (find p zs)
find_parts p xs ys zs = find-append p (xs ++ ys) zs ∙ ap (λ (first : Option _). option_or first (find p zs)) (find-append p xs ys)

-- a number that is found is one of the numbers
pub found_within : (n : ℕ) (p : NameId → Bool) (ids : List NameId) (id : NameId) → AreBelow n ids → find p ids ≡ Some id → id.0 < n
found_within n p ids id below e =
    let k = position_or_len p ids in
    let at : slice_get ids k ≡ Some id = sym (find_at p ids) ∙ e in
    subst (λ (i : NameId). i.0 < n) (get_or_from_slice_get ids k id id at) (below k id (slice_get_within ids k id at))

-- two tests that agree on each item find the same
pub find_alike : {X : Type 0} (p q : X → Bool) (xs : List X) → All (λ x. p x ≡ q x) xs → find p xs ≡ find q xs
find_alike p q [] agree = refl
find_alike {X} p q (x ∷ xs) agree =
    rw (All-head (λ (y : X). p y ≡ q y) x xs agree, find_alike p q xs (All-tail (λ (y : X). p y ≡ q y) x xs agree)) refl

module _ (f : FlatModel) (marks : List Bool) (wanted : Bool) (test : Name → Bool) (are : marks ≡ map test (all_names (flat_steps f))) where
  abbrev visit_at : ℕ → NameId → Visit
  visit_at line id = record { name = name_at f.names id; line = line }

  -- a step of the search: what is found at a line goes before what is found behind it
  pub found_step : (sort : Sort) (i : ℕ) (s : NumberedStep) (ids : List NameId) (found : Option NameId) → IsStep f i s → map (name_at f.names) ids ≡ named sort (act_by (name_at f.names) s.act) → AreBelow (length f.names) ids
      → found ≡ find (is_wanted marks wanted) ids
      → find (passes wanted test) (visits_by sort (drop i (flat_steps f))) ≡ option_or (option_map (visit_at s.line) found) (find (passes wanted test) (visits_by sort (drop (i + 1) (flat_steps f))))
  found_step sort i s ids found at texts below is =
      ap (λ (ss : List Step). find (passes wanted test) (visits_by sort ss)) at.left
      ∙ find-append (passes wanted test) (names_at s.line (named sort (act_by (name_at f.names) s.act))) (visits_by sort (drop (i + 1) (flat_steps f)))
      ∙ ap (λ (o : Option Visit). option_or o (find (passes wanted test) (visits_by sort (drop (i + 1) (flat_steps f))))) here
    where
      alike : All (λ id. passes wanted test (visit_at s.line id) ≡ is_wanted marks wanted id) ids
      alike k d lt = ap (same_bit wanted) (sym (value_at f test marks false (get_or ids k d) are (below k d lt)))

      here : find (passes wanted test) (names_at s.line (named sort (act_by (name_at f.names) s.act))) ≡ option_map (visit_at s.line) found
      here =
          ap (λ (names : List Name). find (passes wanted test) (names_at s.line names)) (sym texts)
          ∙ ap (find (passes wanted test)) (map-map (λ (name : Name). record { name = name; line = s.line }) (name_at f.names) ids)
          ∙ find-map (passes wanted test) (visit_at s.line) ids
          ∙ ap (option_map (visit_at s.line)) (find_alike _ (is_wanted marks wanted) ids alike ∙ sym is)
