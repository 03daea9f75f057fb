-- The bits of words.
use Rattle.std.specs.Prelude.{ℕ, ◌/◌, ◌%◌, Bool, true, false, not, ◌&&◌, List, slice_index_or}
use Rattle.fm_base.specs.Planes.{bit}

-- exactly one of two
abbrev pub either : Bool → Bool → Bool
either true b = not b
either false b = b

-- the algebraic normal form of two bits: c0, xor c1 and a, xor c2 and b, xor c3 and both
abbrev pub normal : Bool → Bool → Bool → Bool → Bool → Bool → Bool
normal c0 c1 c2 c3 a b = either (either c0 (c1 && a)) (b && either c2 (c3 && a))

-- the bits of four words, one word behind the other
abbrev pub quad_bit : List ℕ → ℕ → Bool
quad_bit words k = bit (slice_index_or words (k / 64) 0) (k % 64)
