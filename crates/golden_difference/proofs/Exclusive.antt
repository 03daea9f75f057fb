-- What differs, bit by bit: exactly one of two values.
use Rattle.std.proofs.Common.{◌≡◌, Bool, true, false, refl, ap, sym, ◌∙◌}
use Rattle.circuit.specs.Effects.{inverted}
use Rattle.lane_words.specs.Bits.{either}

-- equal values don't differ
pub either_same : (a : Bool) → either a a ≡ false
either_same true = refl
either_same false = refl

pub either_none : (a : Bool) → either a false ≡ a
either_none true = refl
either_none false = refl

pub either_comm : (a b : Bool) → either a b ≡ either b a
either_comm true true = refl
either_comm true false = refl
either_comm false true = refl
either_comm false false = refl

-- the golden value and the difference give the value
pub either_back : (g v : Bool) → either g (either v g) ≡ v
either_back true true = refl
either_back true false = refl
either_back false true = refl
either_back false false = refl

-- and the value and the golden one the difference
pub either_again : (g d : Bool) → either (either g d) g ≡ d
either_again true true = refl
either_again true false = refl
either_again false true = refl
either_again false false = refl

-- a value that is inverted differs where it didn't
pub either_inverted : (test v g : Bool) → inverted test (either v g) ≡ either (inverted test v) g
either_inverted true true true = refl
either_inverted true true false = refl
either_inverted true false true = refl
either_inverted true false false = refl
either_inverted false v g = refl

-- nothing differs exactly where the values are the same
pub same_of_none : (v g : Bool) → either v g ≡ false → v ≡ g
same_of_none true true e = refl
same_of_none true false e = e
same_of_none false true e = sym e
same_of_none false false e = refl

pub none_of_same : (v g : Bool) → v ≡ g → either v g ≡ false
none_of_same v g e = ap (λ b. either b g) e ∙ either_same g
