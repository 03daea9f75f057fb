use Rattle.std.proofs.Common.{◌≡◌, false, get_or}
use Rattle.std.specs.Prelude.{filter}
use Rattle.fm_base.specs.Lists.{below}
use Rattle.wave_dump.proofs.shown.marked.Given as goal

abbrev pub invariant-loop-n : goal.invariant-loop-n
invariant-loop-n l = l.nets.items ≡ filter (λ n. get_or l.marks n false) (below l.n)
