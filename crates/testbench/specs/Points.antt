-- Points by their numbers.
use Rattle.std.specs.Prelude.{ℕ, List, [], None, slice_index_or}
use Rattle.circuit.specs.declared.parts.NetId.{NetId}
use Rattle.alarm_points.specs.declared.Goal.{Goal}

-- the goal of a number
abbrev pub goal_at : List Goal → ℕ → Goal
goal_at goals g = slice_index_or goals g (record { name = []; ftti = None; observe = [] })

-- the alarm point of a number
abbrev pub alarm_at : List NetId → ℕ → NetId
alarm_at nets a = slice_index_or nets a (record { 0 = 0 })
