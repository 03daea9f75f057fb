use Rattle.std.proofs.Common.{◌≡◌, ◌<◌, ℕ, length}
use Rattle.lane_words.specs.Loads.{loaded_faults}
use Rattle.classifier.specs.Batch.{alone_in}
use Rattle.row_audit.proofs.every_table.loads_of.Given as goal

-- the lanes so far hold their faults
abbrev pub invariant-loop-lane : goal.invariant-loop-lane
invariant-loop-lane l = record {
  count : length l.loads ≡ 64;
  held : (k : ℕ) → k < l.lane → loaded_faults l.loads k ≡ alone_in l.faults l.batch k;
}
