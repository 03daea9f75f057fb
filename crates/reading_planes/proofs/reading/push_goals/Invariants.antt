use Rattle.std.proofs.Common.{◌≡◌, ◌++◌, map}
use Rattle.fm_base.specs.Lists.{below}
use Rattle.reading_planes.specs.declared.reading.Reading.TheVariants.{Goal}
use Rattle.reading_planes.proofs.reading.push_goals.Given as goal

-- those so far
abbrev pub invariant-loop-g : goal.invariant-loop-g
invariant-loop-g l = l.list.items ≡ l.initial.list.items ++ map (λ g. Goal g) (below l.g)
