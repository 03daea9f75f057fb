use Rattle.std.proofs.Common.{◌≡◌, take}
use Rattle.std.specs.Prelude.{filter_map}
use Rattle.blif_reader.specs.Parts.{latch_in, table_in}
use Rattle.blif_reader.proofs.parts.take_cells.Given as goal

abbrev pub invariant-loop-step : goal.invariant-loop-step
invariant-loop-step l = record {
  tables : l.cells.tables ≡ filter_map (λ s. table_in l.numbers s.act) (take l.step-index l.steps);
  latches : l.cells.latches ≡ filter_map (λ s. latch_in l.numbers s.act) (take l.step-index l.steps);
}
