use Rattle.std.proofs.Common.{◌≡◌, length, map, take}
use Rattle.place_set.specs.Places.{value_in}
use Rattle.golden_run.proofs.source.take_latches.Given as goal

abbrev pub invariant-loop-l : goal.invariant-loop-l
invariant-loop-l l = record {
  count : length l.raw ≡ length l.latches;
  taken : take l.l l.raw ≡ map (λ latch. value_in l.row latch.from.0) (take l.l l.latches);
}
