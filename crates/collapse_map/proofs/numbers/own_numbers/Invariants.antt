use Rattle.std.proofs.Common.{◌≡◌, length, map}
use Rattle.circuit.specs.Circuit.{Circuit}
use Rattle.fault_list.specs.Faults.{fault_at}
use Rattle.fm_base.specs.Lists.{below}
use Rattle.collapse_map.specs.Collapsed.{AreFaultsOf, number_in_list}
use Rattle.collapse_map.proofs.numbers.own_numbers.Given as goal

abbrev pub invariant-loop-i : goal.invariant-loop-i
invariant-loop-i l = record {
  sized : length l.numbers.items ≡ l.i;
  numbers : (c : Circuit) → AreFaultsOf c l.faults → l.numbers.items ≡ map (λ i. number_in_list l.faults (fault_at l.faults i)) (below l.i);
}
