use Rattle.std.proofs.Common.{◌≡◌, map, take}
use Rattle.fm_base.specs.Lists.{below}
use Rattle.fault_collapse.specs.Chosen.{planes_shown}
use Rattle.fault_collapse.proofs.spread.spread.Given as goal

abbrev pub invariant-loop-batch : goal.invariant-loop-batch
invariant-loop-batch l = take l.batch l.list ≡ map (planes_shown l.collapse l.places l.found) (below l.batch)
