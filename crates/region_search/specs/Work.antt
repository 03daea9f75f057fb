-- How much is left to do in a search: pairs that may go, and places that wait.
use Rattle.std.specs.Prelude.{◌+◌, ◌*◌, ℕ, zero, suc, Bool, true, false, List, sum_by, if◌then◌else◌}
use Rattle.place_set.specs.Places.{Places, has as has_place}
use Rattle.pair_sets.specs.Pairs.{has}
use Rattle.pair_sets.specs.declared.pairs.PairSet.{PairSet}

-- 1 where a test passes
abbrev pub count_if : Bool → ℕ
count_if test = if test then 1 else 0

-- how many pairs a set has
abbrev pub pair_count : PairSet → ℕ
pair_count pairs = count_if (has pairs false false) + count_if (has pairs true false) + count_if (has pairs false true) + count_if (has pairs true true)

-- how many pairs all sets have
abbrev pub pairs_left : List PairSet → ℕ
pairs_left items = sum_by pair_count items

-- how many of the places below a bound pass a test
unfoldable pub passing_below : ℕ → (ℕ → Bool) → ℕ
passing_below zero test = 0
passing_below (suc n) test = passing_below n test + count_if (test n)

-- how many places wait
abbrev pub waiting_count : Places → ℕ
waiting_count waiting = passing_below waiting.bound (has_place waiting)

-- the work that is left: each pair that goes may wake all places
abbrev pub work_left : List PairSet → Places → ℕ
work_left items waiting = pairs_left items * (waiting.bound + 1) + waiting_count waiting
