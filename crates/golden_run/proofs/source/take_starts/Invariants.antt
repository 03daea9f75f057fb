use Rattle.std.proofs.Common.{◌≡◌, length, map, take}
use Rattle.golden_run.proofs.source.take_starts.Given as goal

abbrev pub invariant-loop-l : goal.invariant-loop-l
invariant-loop-l l = record {
  count : length l.raw ≡ length l.latches;
  taken : take l.l l.raw ≡ map (λ latch. latch.start) (take l.l l.latches);
}
