-- What the bits of a difference say of a point.
use Rattle.std.proofs.Common.{◌≡◌, ◌&&◌, ◌||◌, Bool, true, false, not, refl}
use Rattle.fm_base.specs.Lists.{same_bit}
use Rattle.lane_words.specs.Bits.{either}

pub differs_where : (v g : Bool) → either v g ≡ not (same_bit v g)
differs_where true g = refl
differs_where false true = refl
differs_where false false = refl

-- a point is raised where it differs and its golden value is 0
pub raised_where : (v g : Bool) → (either v g && not g) ≡ (v && not g)
raised_where true true = refl
raised_where true false = refl
raised_where false true = refl
raised_where false false = refl

-- and silenced where it differs and its golden value is 1
pub silenced_where : (v g : Bool) → (either v g && g) ≡ (not v && g)
silenced_where true true = refl
silenced_where true false = refl
silenced_where false true = refl
silenced_where false false = refl

-- exactly one of two bits, or both
pub or_where : (a b : Bool) → either (either a b) (a && b) ≡ (a || b)
or_where true true = refl
or_where true false = refl
or_where false b = xor_none b
  where
    xor_none : (b : Bool) → either b false ≡ b
    xor_none true = refl
    xor_none false = refl
