-- The fault of a name.
use Rattle.std.proofs.Common.{◌≡◌, ◌∙◌, ap, ap₂, sym, refl, ℕ, zero, suc, ◌+◌, ◌-◌, ◌<◌, Bool, true, false, List, [], ◌∷◌, ◌++◌, length, length-drop, map, get_or, take, drop, add-one, append-nil, arith}
use Rattle.std.specs.Prelude.{Some, None, find, nat_eq, nat_lt}
use Rattle.std.specs.List.{flat_map, starts_with}
use Rattle.std.specs.Str.{bytes_eq}
use Rattle.std.specs.Option.{option_or}
use Rattle.std.proofs.lemmas.List.{drop_more, take-append-drop}
use Rattle.std.proofs.lemmas.List.Concat.{flat_map-append}
use Rattle.std.proofs.lemmas.Slice.Eq.{bytes_eq-Decides}
use Rattle.std.proofs.lemmas.List.Folds.{find-append}
use Rattle.std.proofs.Math.Seq.{drop-append_seam, take-append_seam, take-length}
use Rattle.circuit.specs.declared.parts.Fault.{Fault}
use Rattle.fault_list.specs.Faults.{faults_for}
use Rattle.alarm_points.proofs.Settled.{same_test}
use Rattle.fm_base.specs.Lists.{below}
use Rattle.fm_base.specs.Names.{Bytes}
use Rattle.fm_base.proofs.Below.{below_push}
use Rattle.wave_dump.specs.Steps.{flips_of, pulses_on, stuck_faults}

-- ---- a text that is two, one behind the other

module _ (first second text : Bytes) where
  starts : starts_with nat_eq text first ≡ true → first ++ drop (length first) text ≡ text
  starts e = ap (λ bs. bs ++ drop (length first) text) ((bytes_eq-Decides first (take (length first) text)).0 e) ∙ take-append-drop (length first) text

  pub rest_is : take (length text - length first) (drop (length first) text) ≡ drop (length first) text
  rest_is = ap (λ n. take n (drop (length first) text)) (sym (length-drop (length first) text)) ∙ take-length (drop (length first) text)

  pub joined_rest : starts_with nat_eq text first ≡ true → bytes_eq (drop (length first) text) second ≡ bytes_eq (first ++ second) text
  joined_rest e = same_test _ _
      (λ rest. (bytes_eq-Decides (first ++ second) text).1 (ap (λ bs. first ++ bs) (sym ((bytes_eq-Decides (drop (length first) text) second).0 rest)) ∙ starts e))
      (λ whole. (bytes_eq-Decides (drop (length first) text) second).1
      (ap (drop (length first)) (sym ((bytes_eq-Decides (first ++ second) text).0 whole)) ∙ drop-append_seam first second))

  pub joined_not : starts_with nat_eq text first ≡ false → false ≡ bytes_eq (first ++ second) text
  joined_not e = same_test _ _
      (λ never. absurd (cc))
      (λ whole. sym e ∙ (bytes_eq-Decides first (take (length first) text)).1
      (sym (ap (take (length first)) (sym ((bytes_eq-Decides (first ++ second) text).0 whole)) ∙ take-append_seam first second)))

-- ---- the first of the items of numbers, one after the other

module _ {X : Type 0} (p : X → Bool) (items : ℕ → List X) where
  pub none_yet : find p (flat_map items (below 0)) ≡ None
  unfolding below
  none_yet = refl

  one_more : (n : ℕ) → find p (flat_map items (below (suc n))) ≡ option_or (find p (flat_map items (below n))) (find p (items n))
  one_more n =
      ap (λ ns. find p (flat_map items ns)) (below_push n)
      ∙ ap (find p) (flat_map-append items (below n) (n ∷ []) ∙ ap (λ xs. flat_map items (below n) ++ xs) (append-nil (items n)))
      ∙ find-append p (flat_map items (below n)) (items n)

  pub none_more : (n : ℕ) → find p (flat_map items (below n)) ≡ None → find p (items n) ≡ None → find p (flat_map items (below (n + 1))) ≡ None
  none_more n before here = ap (λ k. find p (flat_map items (below k))) (add-one n) ∙ one_more n ∙ ap₂ option_or before here

  pub found_here : (n k : ℕ) (x : X) → k < n → find p (flat_map items (below k)) ≡ None → find p (items k) ≡ Some x
      → find p (flat_map items (below n)) ≡ Some x
  found_here zero k x lt before here = absurd (omega (arith, lt))
  found_here (suc n) k x lt before here = by_place (nat_lt k n) refl (λ lower. found_here n k x lower before here)
    where
      by_place : (b : Bool) → nat_lt k n ≡ b → (k < n → find p (flat_map items (below n)) ≡ Some x) → find p (flat_map items (below (suc n))) ≡ Some x
      by_place true e earlier =
          let lower : k < n = grind (arith, e) in
          one_more n ∙ ap (λ o. option_or o (find p (items n))) (earlier lower)
      by_place false e earlier =
          let last : k ≡ n = grind (arith, e, lt) in
          one_more n ∙ ap₂ option_or (ap (λ m. find p (flat_map items (below m))) (sym last) ∙ before) (ap (λ m. find p (items m)) (sym last) ∙ here)

-- ---- the first of a list's items

module _ {X Y : Type 0} (p : Y → Bool) (f : X → Y) (xs : List X) (i : ℕ) (d : X) (lt : i < length xs) where
  pub found_later : p (f (get_or xs i d)) ≡ false → find p (map f (drop i xs)) ≡ find p (map f (drop (i + 1) xs))
  found_later e = rw (drop_more xs i d lt, e) refl

  pub found_now : p (f (get_or xs i d)) ≡ true → find p (map f (drop i xs)) ≡ Some (f (get_or xs i d))
  found_now e = rw (drop_more xs i d lt, e) refl

-- none of a list's items
pub found_nowhere : {X Y : Type 0} (p : Y → Bool) (f : X → Y) (xs : List X) → ((x : X) → p (f x) ≡ false) → find p (map f xs) ≡ None
found_nowhere p f [] none = refl
found_nowhere p f (x ∷ xs) none = rw (none x) (found_nowhere p f xs none)

-- ---- the list of a netlist

module _ (p : Fault → Bool) (nets latches : ℕ) (flips pulses : List ℕ) where
  three : find p (faults_for nets latches flips pulses)
      ≡ option_or (option_or (find p (flat_map stuck_faults (below nets))) (find p (flat_map (flips_of flips) (below latches)))) (find p (flat_map (pulses_on pulses) (below nets)))
  unfolding faults_for
  three =
      find-append p (flat_map stuck_faults (below nets) ++ flat_map (flips_of flips) (below latches)) (flat_map (pulses_on pulses) (below nets))
      ∙ ap (λ o. option_or o (find p (flat_map (pulses_on pulses) (below nets)))) (find-append p (flat_map stuck_faults (below nets)) (flat_map (flips_of flips) (below latches)))

  pub by_stuck : (f : Fault) → find p (flat_map stuck_faults (below nets)) ≡ Some f → find p (faults_for nets latches flips pulses) ≡ Some f
  by_stuck f e = three ∙ ap (λ o. option_or (option_or o (find p (flat_map (flips_of flips) (below latches)))) (find p (flat_map (pulses_on pulses) (below nets)))) e

  pub by_flip : (f : Fault) → find p (flat_map stuck_faults (below nets)) ≡ None → find p (flat_map (flips_of flips) (below latches)) ≡ Some f
      → find p (faults_for nets latches flips pulses) ≡ Some f
  by_flip f none e = three ∙ ap₂ (λ a b. option_or (option_or a b) (find p (flat_map (pulses_on pulses) (below nets)))) none e

  pub by_pulse : find p (flat_map stuck_faults (below nets)) ≡ None → find p (flat_map (flips_of flips) (below latches)) ≡ None
      → find p (faults_for nets latches flips pulses) ≡ find p (flat_map (pulses_on pulses) (below nets))
  by_pulse none no_flip = three ∙ ap₂ (λ a b. option_or (option_or a b) (find p (flat_map (pulses_on pulses) (below nets)))) none no_flip
