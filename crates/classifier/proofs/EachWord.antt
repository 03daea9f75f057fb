-- What holds of each word, where one word's windows and alarms change.
use Rattle.std.proofs.Common.{◌≢◌, ◌<◌, ℕ, List, length, get_or, set, inl, inr, sym, subst, get_or-set_other, get_or-set_same}
use Rattle.std.proofs.lemmas.Bool.{cases_eq}

pub each_set : {X Y : Type 0} (P : ℕ → X → Y → Type 0) (xs : List X) (ys : List Y) (i : ℕ) (x none : X) (y nil : Y) → i < length xs → i < length ys
    → P i x y → (j : ℕ) → (j ≢ i → P j (get_or xs j none) (get_or ys j nil)) → P j (get_or (set xs i x) j none) (get_or (set ys i y) j nil)
each_set P xs ys i x none y nil lt also own j other =
    elim (cases_eq j i) [
      | inl same ↦ subst (λ m. P m (get_or (set xs i x) m none) (get_or (set ys i y) m nil)) (sym same)
          (subst (λ v. P i v (get_or (set ys i y) i nil)) (sym (get_or-set_same xs i x none lt)) (subst (λ w. P i x w) (sym (get_or-set_same ys i y nil also)) own))
      | inr apart ↦ subst (λ v. P j v (get_or (set ys i y) j nil)) (sym (get_or-set_other xs i j x none apart))
          (subst (λ w. P j (get_or xs j none) w) (sym (get_or-set_other ys i j y nil apart)) (other apart))
    ]

-- the same of one list
pub each_set_one : {X : Type 0} (P : ℕ → X → Type 0) (xs : List X) (i : ℕ) (x none : X) → i < length xs
    → P i x → (j : ℕ) → (j ≢ i → P j (get_or xs j none)) → P j (get_or (set xs i x) j none)
each_set_one P xs i x none lt own j other = each_set (λ m v w. P m v) xs xs i x none x none lt lt own j other
