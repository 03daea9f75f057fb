-- The numbers of the nets of names, counted by their clock marks.
use Rattle.std.proofs.Common.{◌≡◌, ℕ, ◌+◌, Bool, true, false, cond, not, List, [], ◌∷◌, ◌++◌, refl, ap, sym, ◌∙◌, append_assoc, length, arith}
use Rattle.std.specs.Prelude.{filter, map, count_by, Some}
use Rattle.std.specs.List.{slice_get}
use Rattle.std.proofs.lemmas.List.{length-append}
use Rattle.std.proofs.lemmas.List.Folds.{fold-map}
use Rattle.std.proofs.lemmas.List.Sums.{length-filter}
use Rattle.circuit.specs.declared.parts.NetId.{NetId}
use Rattle.fm_base.specs.Names.{Name, is_one_of, has_repeat}
use Rattle.net_names.specs.Nets.{net_id}
use Rattle.net_names.proofs.Times.{place-at, place_none}
use Rattle.blif_model.specs.Walk.{nets_of}
use Rattle.blif_model.specs.WalkSteps.{is_clock}
use Rattle.blif_model.proofs.Nets.{nets-apart}
use Rattle.blif_flatten.specs.declared.flat.FlatModel.{FlatModel}
use Rattle.blif_flatten.specs.Flat.{all_names}
use Rattle.blif_flatten.specs.Flattened.{flat_steps}
use Rattle.blif_reader.specs.Numbers.{AreNetNumbers, numbers_from}
use Rattle.blif_reader.specs.Passes.{AreClockMarks}
use Rattle.blif_reader.proofs.FlatNets.{nets-named, clock-out}

get-behind : (before : List Name) (x : Name) (more : List Name) → slice_get (before ++ x ∷ more) (length before) ≡ Some x
get-behind [] x more = refl
get-behind (y ∷ before) x more = get-behind before x more

module _ (clock : Name → Bool) (nets : List Name) (apart : has_repeat nets ≡ false) (out : (q : Name) → clock q ≡ true → is_one_of nets q ≡ false) where
  numbers : (names before : List Name) (next : ℕ) → nets ≡ before ++ filter (λ n. not (clock n)) names → next ≡ length before → map (net_id nets) names ≡ numbers_from next (length nets) (map clock names)
  numbers [] before next e n = refl
  numbers (x ∷ names) before next e n = by_cases (clock x) refl e (numbers names)
    where
      by_cases : (b : Bool) → clock x ≡ b → nets ≡ before ++ cond (not b) (x ∷ filter (λ n. not (clock n)) names) (filter (λ n. not (clock n)) names)
          → ((front : List Name) (k : ℕ) → nets ≡ front ++ filter (λ n. not (clock n)) names → k ≡ length front → map (net_id nets) names ≡ numbers_from k (length nets) (map clock names))
          → net_id nets x ∷ map (net_id nets) names ≡ numbers_from next (length nets) (b ∷ map clock names)
      by_cases true c f more = rw (place_none nets x (out x c), more before next f n) refl
      by_cases false c f more =
          let here = place-at nets next x apart (ap (λ k. slice_get nets k) n ∙ ap (λ (ns : List Name). slice_get ns (length before)) f ∙ get-behind before x (filter (λ m. not (clock m)) names)) in
          let longer : next + 1 ≡ length (before ++ x ∷ []) = omega (arith, length-append before (x ∷ [])) in
          rw (here, more (before ++ x ∷ []) (next + 1) (f ∙ sym (append_assoc before (x ∷ []) (filter (λ m. not (clock m)) names))) longer) refl

module _ (f : FlatModel) (marks : List Bool) (are : AreClockMarks f marks) where
  -- as many marks are no clock marks as there are nets
  pub nets-counted : count_by not marks ≡ length (nets_of (flat_steps f))
  nets-counted =
      let clock = is_clock (flat_steps f) in
      ap (count_by not) are ∙ fold-map (λ n b. n + cond (not b) 1 0) clock 0 (all_names (flat_steps f))
      ∙ sym (length-filter (λ name. not (clock name)) (all_names (flat_steps f))) ∙ ap (λ (names : List Name). length names) (sym (nets-named (flat_steps f)))

  -- the numbers by the marks are those of the nets
  pub nets-numbered : (numbers : List NetId) → numbers ≡ numbers_from 0 (count_by not marks) marks → AreNetNumbers f numbers
  nets-numbered ids e =
      let steps = flat_steps f in
      e ∙ rw (nets-counted, are) (sym (numbers (is_clock steps) (nets_of steps) (nets-apart steps) (clock-out steps) (all_names steps) [] 0 (nets-named steps) refl))
