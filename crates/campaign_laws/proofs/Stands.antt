-- Where workers stand after one of them took a step.
use Rattle.std.proofs.Common.{◌≡◌, ℕ, zero, suc, ◌<◌, List, [], ◌∷◌, length, get_or, set, refl, ap, subst, arith}
use Rattle.campaign_laws.specs.Crew.{Stand, Ended, Crew, CrewStep, IsCrewStep, stand_of, MayTake}

-- who hasn't ended is there
pub is_there : (xs : List Stand) (w : ℕ) → (get_or xs w Ended ≡ Ended → ⊥) → w < length xs
is_there [] w h = absurd (h refl)
is_there (x ∷ xs) zero h = omega arith
is_there (x ∷ xs) (suc w) h = let rest = is_there xs w h in omega arith

-- who took the step stands where it says
pub at_same : (xs : List Stand) (w : ℕ) (x : Stand) → w < length xs → get_or (set xs w x) w Ended ≡ x
at_same [] w x h = absurd (omega arith)
at_same (y ∷ xs) zero x h = refl
at_same (y ∷ xs) (suc w) x h = at_same xs w x (omega arith)

-- and another where it stood
pub at_other : (xs : List Stand) (w v : ℕ) (x : Stand) → (v ≡ w → ⊥) → get_or (set xs w x) v Ended ≡ get_or xs v Ended
at_other [] w v x h = refl
at_other (y ∷ xs) zero zero x h = absurd (h refl)
at_other (y ∷ xs) zero (suc v) x h = refl
at_other (y ∷ xs) (suc w) zero x h = refl
at_other (y ∷ xs) (suc w) (suc v) x h = at_other xs w v x (λ e. h (ap suc e))

-- who takes a step hasn't ended
pub not_ended : (c : Crew) (s : CrewStep) → MayTake c s → stand_of c s.worker ≡ Ended → ⊥
not_ended c s may e = subst (λ x. IsCrewStep c s.worker x s) e may
