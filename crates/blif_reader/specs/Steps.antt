-- The line of a flattened model at which a pass over it stands.
use Rattle.std.specs.Prelude.{◌≡◌, ℕ, ◌+◌, [], ◌∷◌, ◌++◌, drop, length, take}
use Rattle.blif_flatten.specs.declared.flat.FlatModel.{FlatModel}
use Rattle.blif_flatten.specs.declared.flat.NumberedStep.{NumberedStep}
use Rattle.blif_flatten.specs.Flat.{AreBelow, ids_in, name_at, step_by}
use Rattle.blif_flatten.specs.Flattened.{flat_steps}

-- the line's numbers have names, and with its names it is the next step behind those before it
pub record IsStep (f : FlatModel) (place : ℕ) (s : NumberedStep) : Type 0 where
  pub within : AreBelow (length f.names) (ids_in s.act)
  pub done : take (place + 1) (flat_steps f) ≡ take place (flat_steps f) ++ step_by (name_at f.names) s ∷ []
  pub left : drop place (flat_steps f) ≡ step_by (name_at f.names) s ∷ drop (place + 1) (flat_steps f)
