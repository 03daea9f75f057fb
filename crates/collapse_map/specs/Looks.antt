-- How many look at a net: places of tables, latches, and points that are watched.
use Rattle.std.specs.Prelude.{◌≡◌, ℕ, Bool, true, false, zero, suc, ◌<◌, List, ◌++◌, count_by, flat_map, length, map, slice_index_or}
use Rattle.circuit.specs.declared.parts.NetId.{NetId}
use Rattle.circuit.specs.Circuit.{Circuit}
use Rattle.collapse_map.specs.Next.{is_net}
use Rattle.collapse_map.specs.declared.looks.Looks.{Looks}
use Rattle.collapse_map.specs.declared.looks.Looks.TheVariants.{Nobody, One, More}

-- the nets that are looked at, once for each look
abbrev pub looked_at : Circuit → List NetId → List NetId
looked_at c watched = flat_map (λ table. table.ins) c.tables ++ map (λ latch. latch.from) c.latches ++ watched

-- so many look
abbrev pub looks_for : ℕ → Looks
looks_for zero = Nobody
looks_for (suc zero) = One
looks_for (suc (suc count)) = More

-- how many have looked at each net, where these looks were seen
abbrev pub AreLooks : List NetId → List Looks → Type 0
AreLooks seen looks = (n : ℕ) → n < length looks → slice_index_or looks n Nobody ≡ looks_for (count_by (is_net n) seen)

-- one more looks
abbrev pub one_more_look : Looks → Looks
one_more_look Nobody = One
one_more_look One = More
one_more_look More = More

-- one looks, and no other
abbrev pub is_one_look : Looks → Bool
is_one_look Nobody = false
is_one_look One = true
is_one_look More = false
