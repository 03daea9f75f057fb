use Rattle.std.proofs.Common.{◌≡◌, ◌++◌, map}
use Rattle.fm_base.specs.Lists.{below}
use Rattle.reading_planes.specs.declared.reading.Reading.TheVariants.{Only}
use Rattle.reading_planes.proofs.reading.push_only.Given as goal

-- those so far
abbrev pub invariant-loop-a : goal.invariant-loop-a
invariant-loop-a l = l.list.items ≡ l.initial.list.items ++ map (λ a. Only a) (below l.a)
