-- The bits of one lane.
use Rattle.std.proofs.Common.{◌≡◌, ℕ, suc, Bool, List, [], ◌∷◌, length, refl, ap}
use Rattle.lane_words.specs.Gates.{plane}

pub length_plane : {W : Type 0} (bit : W → ℕ → Bool) (k : ℕ) (words : List W) → length (plane bit k words) ≡ length words
length_plane bit k [] = refl
length_plane bit k (w ∷ words) = ap suc (length_plane bit k words)
