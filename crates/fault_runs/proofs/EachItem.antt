-- What holds of each item, where one item changes.
use Rattle.std.proofs.Common.{◌≢◌, ◌<◌, ℕ, List, length, get_or, set, inl, inr, sym, subst, get_or-set_other, get_or-set_same}
use Rattle.std.proofs.lemmas.Bool.{cases_eq}

pub each_set : {X : Type 0} (P : ℕ → X → Type 0) (xs : List X) (i : ℕ) (x none : X) → i < length xs
    → P i x → (j : ℕ) → (j ≢ i → P j (get_or xs j none)) → P j (get_or (set xs i x) j none)
each_set P xs i x none lt own j other =
    elim (cases_eq j i) as (λ _. P j (get_or (set xs i x) j none)) [
      | inl same ↦ subst (λ m. P m (get_or (set xs i x) m none)) (sym same) (subst (λ v. P i v) (sym (get_or-set_same xs i x none lt)) own)
      | inr apart ↦ subst (λ v. P j v) (sym (get_or-set_other xs i j x none apart)) (other apart)
    ]
