-- A run of one lane that is followed up to a cycle alone. Source: fault dropping in fault simulation.
use Rattle.std.specs.Prelude.{◌≡◌, ℕ, ◌<◌, ◌≤◌, Bool, true, false}

-- what is seen in two runs of a lane, where it differs and where an alarm is raised: they are the same before cycle u, and in
-- cycle u an alarm is raised in both
pub record AreRaisedAt (u cycles : ℕ) (differs raised differs' raised' : ℕ → Bool) : Type 0 where
  pub within : u < cycles
  pub alarm : raised u ≡ true
  pub alarm' : raised' u ≡ true
  pub differ : (t : ℕ) → t < u → differs t ≡ differs' t
  pub raise : (t : ℕ) → t < u → raised t ≡ raised' t

-- a run of a lane is still from cycle n on: it differs in none of the cycles that follow, and no alarm is raised in them
pub record IsStillFrom (n cycles : ℕ) (differs raised : ℕ → Bool) : Type 0 where
  pub within : n ≤ cycles
  pub differ : (t : ℕ) → n ≤ t → t < cycles → differs t ≡ false
  pub raise : (t : ℕ) → n ≤ t → t < cycles → raised t ≡ false
