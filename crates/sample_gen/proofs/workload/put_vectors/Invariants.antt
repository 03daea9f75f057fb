use Rattle.std.proofs.Common.{◌≡◌, ◌++◌}
use Rattle.std.specs.List.{flat_map}
use Rattle.fm_base.specs.Lists.{below}
use Rattle.sample_gen.specs.Steps.{vector_line}
use Rattle.sample_gen.proofs.workload.put_vectors.Given as goal

abbrev pub invariant-loop-t : goal.invariant-loop-t
invariant-loop-t l = l.text.items ≡ l.initial.text.items ++ flat_map vector_line (below l.t)
