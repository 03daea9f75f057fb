-- The latches of a cone, in its list.
use Rattle.std.proofs.Common.{◌≡◌, ◌≢◌, ℕ, ◌<◌, false, length, get_or, sym, ◌∙◌, arith}
use Rattle.circuit.specs.Circuit.{Circuit}
use Rattle.lane_words.specs.Gates.{latch_at}
use Rattle.place_set.specs.Places.{has}
use Rattle.differential_kernel.specs.declared.cone.Cone.{Cone}
use Rattle.differential_kernel.specs.Cone.{AreEnds}

module _ (c : Circuit) (cone : Cone) (ends : AreEnds c cone) where
  -- the net of a latch that isn't in the set isn't in the cone
  pub end_out : (l : ℕ) → l < length c.latches → has cone.latches l ≡ false → has cone.nets (latch_at c.latches l).to.0 ≡ false
  end_out l lt none = sym (ends.latches l lt) ∙ none

  -- two places of the list have two latches
  pub ends_apart : (i j : ℕ) → i < j → j < cone.end_count → get_or cone.ends.items i 0 ≢ get_or cone.ends.items j 0
  ends_apart i j less lt same = omega (arith, ends.listed.ascending i j less lt, same)
