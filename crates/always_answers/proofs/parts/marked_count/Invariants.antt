use Rattle.std.proofs.Common.{◌≡◌, ◌≤◌, ◌&&◌, ◌==◌, count_by, slice_index}
use Rattle.circuit.specs.Value.{bit_at}
use Rattle.fm_base.specs.Lists.{below}
use Rattle.always_answers.proofs.parts.marked_count.Given as goal

abbrev pub invariant-loop-n : goal.invariant-loop-n
invariant-loop-n l = record {
  is : l.count ≡ count_by (λ net. (slice_index l.of_nets net == l.part) && bit_at l.marks net) (below l.n);
  few : l.count ≤ l.n;
}
