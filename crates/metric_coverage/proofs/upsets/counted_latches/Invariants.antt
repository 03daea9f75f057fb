use Rattle.std.proofs.Common.{◌≡◌, ◌≤◌}
use Rattle.std.specs.Prelude.{count_by}
use Rattle.circuit.specs.declared.parts.Fault.TheVariants.{Flip}
use Rattle.fm_base.specs.Lists.{below}
use Rattle.coverage.specs.Upsets.{counts}
use Rattle.metric_coverage.proofs.upsets.counted_latches.Given as goal

-- the latches so far are counted
abbrev pub invariant-loop-latch : goal.invariant-loop-latch
invariant-loop-latch l = record {
  count : l.count ≡ count_by (λ latch. counts l.plan (Flip latch 0)) (below l.latch);
  few : l.count ≤ l.latch;
}
