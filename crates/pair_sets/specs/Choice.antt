-- The table rule: the pairs of the nets that a table reads, and of its own net, that some values have which agree with the table.
use Rattle.std.specs.Prelude.{◌≡◌, ◌<◌, ℕ, ◌+◌, ◌*◌, Bool, true, List, [], ◌∷◌, length, if◌then◌else◌}
use Rattle.std.specs.List.{slice_index_or}
use Rattle.circuit.specs.Value.{bit_at}
use Rattle.fm_base.specs.Planes.{bit}
use Rattle.coverage_claim.specs.Region.{may_show}
use Rattle.coverage_claim.specs.declared.parts.Site.{Site}
use Rattle.pair_sets.specs.Pairs.{has}
use Rattle.pair_sets.specs.declared.pairs.PairSet.{PairSet}

-- the row of a truth table whose number has these binary digits behind those of the first one
abbrev pub row_from : ℕ → List Bool → ℕ
row_from row [] = row
row_from row (b ∷ bits) = row_from (if b then 2 * row + 1 else 2 * row) bits

-- what a truth table of 64 rows gives for these bits
abbrev pub truth_gives : ℕ → List Bool → Bool
truth_gives truth bits = bit truth (row_from 0 bits)

-- the set at a place; behind the end there is none
abbrev pub set_at : List PairSet → ℕ → PairSet
set_at sets i = slice_index_or sets i (record { bits = 0 })

-- a pair out of each set: the golden value and the one with faults
abbrev pub AreChosen : List PairSet → (golden faulty : List Bool) → Type 0
AreChosen [] [] [] = Unit {0}
AreChosen (pairs ∷ sets) (g ∷ golden) (f ∷ faulty) = (has pairs g f ≡ true) × AreChosen sets golden faulty
AreChosen _ _ _ = ⊥

-- A CHOICE THAT AGREES WITH A TABLE: a pair of each net that it reads, and one of its own net
-- chosen, has_own: out of these sets
-- golden_is, faulty_may: the own net has what the table gives, and with faults what its site may show
pub record Agree (truth : ℕ) (site : Site) (reads : List PairSet) (own : PairSet) (golden faulty : List Bool) (a b : Bool) : Type 0 where
  pub chosen : AreChosen reads golden faulty
  pub has_own : has own a b ≡ true
  pub golden_is : a ≡ truth_gives truth golden
  pub faulty_may : may_show site (truth_gives truth faulty) b ≡ true

-- some such choice has this pair at one of the nets that are read
pub record AgreesAt (truth : ℕ) (site : Site) (reads : List PairSet) (own : PairSet) (i : ℕ) (a b : Bool) : Type 0 where
  pub golden : List Bool
  pub faulty : List Bool
  pub own_golden : Bool
  pub own_faulty : Bool
  pub agree : Agree truth site reads own golden faulty own_golden own_faulty
  pub golden_at : bit_at golden i ≡ a
  pub faulty_at : bit_at faulty i ≡ b

-- some such choice has this pair at the own net
pub record AgreesOwn (truth : ℕ) (site : Site) (reads : List PairSet) (own : PairSet) (a b : Bool) : Type 0 where
  pub golden : List Bool
  pub faulty : List Bool
  pub agree : Agree truth site reads own golden faulty a b

-- WHAT A TABLE LEAVES of these sets: in what is left, each pair is that of a choice, and each choice is one as before
-- among, own_among: no pair is new
-- keeps: no choice is lost
-- supported, own_supported: each pair that is left is in a choice
pub record IsLeft (truth : ℕ) (site : Site) (reads : List PairSet) (own : PairSet) (left : List PairSet) (own_left : PairSet) : Type 0 where
  pub count : length left ≡ length reads
  pub among : (i : ℕ) (a b : Bool) → has (set_at left i) a b ≡ true → has (set_at reads i) a b ≡ true
  pub own_among : (a b : Bool) → has own_left a b ≡ true → has own a b ≡ true
  pub keeps : (golden faulty : List Bool) (a b : Bool) → Agree truth site reads own golden faulty a b → Agree truth site left own_left golden faulty a b
  pub supported : (i : ℕ) (a b : Bool) → i < length left → has (set_at left i) a b ≡ true → AgreesAt truth site left own_left i a b
  pub own_supported : (a b : Bool) → has own_left a b ≡ true → AgreesOwn truth site left own_left a b
