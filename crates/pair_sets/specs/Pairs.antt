-- A set of pairs of a golden value and one with faults, as the four lowest bits of a number: the pair (g, f) has bit g + 2f.
use Rattle.std.specs.Prelude.{ℕ, Bool, true, false, not, ◌&&◌, ◌||◌, if◌then◌else◌}
use Rattle.fm_base.specs.Planes.{bit}
use Rattle.coverage_claim.specs.Region.{may_show}
use Rattle.coverage_claim.specs.Stretch.{Pairs}
use Rattle.coverage_claim.specs.declared.parts.Site.{Site}
use Rattle.pair_sets.specs.declared.pairs.PairSet.{PairSet}

-- the bit of a pair
abbrev pub place_of : (golden faulty : Bool) → ℕ
place_of golden faulty = if faulty then (if golden then 3 else 2) else if golden then 1 else 0

-- the pairs of the set
abbrev pub has : PairSet → Pairs
has set golden faulty = bit set.bits (place_of golden faulty)

-- the pairs that a net of this site may show, where its driver gives one of these
abbrev pub shown : Site → Pairs → Pairs
shown site set golden value = (set golden false && may_show site false value) || (set golden true && may_show site true value)

-- the pairs that the driver of a net of this site may give, where the net shows one of these
abbrev pub driving : Site → Pairs → Pairs
driving site set golden own = (set golden false && may_show site own false) || (set golden true && may_show site own true)

-- some pair of the first set isn't in the second
abbrev pub loses_some : PairSet → PairSet → Bool
loses_some pairs others =
    (has pairs false false && not (has others false false))
    || (has pairs true false && not (has others true false))
    || (has pairs false true && not (has others false true))
    || (has pairs true true && not (has others true true))
