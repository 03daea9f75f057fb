use Rattle.std.proofs.Common.{◌≡◌, ◌++◌}
use Rattle.std.specs.Prelude.{flat_map}
use Rattle.fm_base.specs.Lists.{below}
use Rattle.reading_planes.specs.Readings.{pair_of}
use Rattle.reading_planes.proofs.reading.push_pairs.Given as goal

-- those so far
abbrev pub invariant-loop-g : goal.invariant-loop-g
invariant-loop-g l = l.list.items ≡ l.initial.list.items ++ flat_map pair_of (below l.g)
