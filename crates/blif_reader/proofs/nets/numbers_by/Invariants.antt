use Rattle.std.proofs.Common.{◌≡◌, ◌+◌, ◌++◌, ◌≤◌, ◌^◌, drop, not}
use Rattle.std.specs.Prelude.{count_by}
use Rattle.blif_reader.specs.Numbers.{numbers_from}
use Rattle.blif_reader.proofs.nets.numbers_by.Given as goal

abbrev pub invariant-loop-clock : goal.invariant-loop-clock
invariant-loop-clock l = record {
  few : l.next + count_by not (drop l.clock-index l.clocks) ≤ 2 ^ 18;
  left : l.numbers.items ++ numbers_from l.next l.behind (drop l.clock-index l.clocks) ≡ numbers_from 0 l.behind l.clocks;
}
