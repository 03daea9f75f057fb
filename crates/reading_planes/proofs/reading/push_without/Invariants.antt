use Rattle.std.proofs.Common.{◌≡◌, ◌++◌, map}
use Rattle.fm_base.specs.Lists.{below}
use Rattle.reading_planes.specs.declared.reading.Reading.TheVariants.{Without}
use Rattle.reading_planes.proofs.reading.push_without.Given as goal

-- those so far
abbrev pub invariant-loop-a : goal.invariant-loop-a
invariant-loop-a l = l.list.items ≡ l.initial.list.items ++ map (λ a. Without a) (below l.a)
