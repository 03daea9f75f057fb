-- Private steps of the table rule, which public contracts don't cite.
use Rattle.std.specs.Prelude.{◌≡◌, ◌<◌, ℕ, ◌+◌, ◌*◌, Bool, true, false, ◌&&◌, ◌||◌, List, [], ◌∷◌, length, if◌then◌else◌}
use Rattle.fm_base.specs.Planes.{bit}
use Rattle.coverage_claim.specs.declared.parts.Site.{Site}
use Rattle.pair_sets.specs.Choice.{Agree, AgreesAt, set_at}
use Rattle.pair_sets.specs.Pairs.{has}
use Rattle.pair_sets.specs.declared.values.Values.{Values}
use Rattle.pair_sets.specs.declared.pairs.PairSet.{PairSet}

-- some choice of a pair out of each set ends in rows of the truth table that give one of some pairs
abbrev pub some_end : ℕ → PairSet → List PairSet → (golden faulty : ℕ) → Bool
some_end truth ends [] golden faulty = has ends (bit truth golden) (bit truth faulty)
some_end truth ends (pairs ∷ sets) golden faulty =
    (has pairs false false && some_end truth ends sets (2 * golden) (2 * faulty))
    || (has pairs true false && some_end truth ends sets (2 * golden + 1) (2 * faulty))
    || (has pairs false true && some_end truth ends sets (2 * golden) (2 * faulty + 1))
    || (has pairs true true && some_end truth ends sets (2 * golden + 1) (2 * faulty + 1))

-- a digit behind those of a row's number
abbrev pub digit_behind : Bool → ℕ → ℕ
digit_behind b row = if b then 2 * row + 1 else 2 * row

-- what is left when so many nets that are read were looked at
pub record IsHalfLeft (truth : ℕ) (site : Site) (reads : List PairSet) (own : PairSet) (left : List PairSet) (looked : ℕ) : Type 0 where
  pub count : length left ≡ length reads
  pub among : (i : ℕ) (a b : Bool) → has (set_at left i) a b ≡ true → has (set_at reads i) a b ≡ true
  pub keeps : (golden faulty : List Bool) (a b : Bool) → Agree truth site reads own golden faulty a b → Agree truth site left own golden faulty a b
  pub supported : (i : ℕ) (a b : Bool) → i < looked → has (set_at left i) a b ≡ true → AgreesAt truth site left own i a b

-- A CHOICE AS A BIT OF A WORD: among some choices there is one in which a net with these values has this pair
pub record IsPairIn (choices : ℕ) (values : Values) (a b : Bool) : Type 0 where
  pub choice : ℕ
  pub low : choice < 64
  pub among : bit choices choice ≡ true
  pub golden_is : bit values.golden choice ≡ a
  pub faulty_is : bit values.faulty choice ≡ b
