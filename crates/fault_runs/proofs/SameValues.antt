-- Where a net is as in the golden run, no point of it shows anything.
use Rattle.std.proofs.Common.{◌≡◌, ◌&&◌, Bool, true, false, not, refl, ap, sym}
use Rattle.fm_base.specs.Lists.{same_bit}

pub same_bits : (v g : Bool) → v ≡ g → not (same_bit v g) ≡ false
same_bits true g e = ap not (sym e)
same_bits false g e = ap (λ b. not (not b)) (sym e)

pub not_raised : (v g : Bool) → v ≡ g → (v && not g) ≡ false
not_raised true g e = ap not (sym e)
not_raised false g e = refl

pub not_silenced : (v g : Bool) → v ≡ g → (not v && g) ≡ false
not_silenced true g e = refl
not_silenced false g e = sym e
