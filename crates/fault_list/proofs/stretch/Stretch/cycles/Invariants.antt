use Rattle.std.proofs.Common.{◌≡◌, ◌+◌, ◌*◌, map}
use Rattle.fm_base.specs.Lists.{below}
use Rattle.fault_list.proofs.stretch.Stretch.cycles.Given as goal

abbrev pub invariant-loop-k : goal.invariant-loop-k
invariant-loop-k l = l.cycles ≡ map (λ k. l.self.first + l.self.step * k) (below l.k)
