use Rattle.std.proofs.Common.{◌≡◌, ◌≤◌, ◌+◌, ◌-◌}
use Rattle.differential_kernel.specs.Shown.{ReadGolden}
use Rattle.differential_kernel.specs.Sweeps.{SweepsOn}
use Rattle.differential_kernel.proofs.sweep.sweep.Given as goal

abbrev pub decreases-stretches : goal.decreases-stretches
decreases-stretches g l = l.cone.table_count - l.at

-- the tables so far are evaluated, and the nets that are read outside of the cone have their golden values
abbrev pub invariant-stretches : goal.invariant-stretches
invariant-stretches g l = record {
  most : l.at ≤ l.cone.table_count;
  values : SweepsOn g.W.Word.lanes g.W.Word.lane_bit l.cycle l.forces l.cone 0 l.at l.initial.values l.values;
  read : ReadGolden g.W.Word.lanes g.W.Word.lane_bit l.cycle.row.now l.cone l.values;
  cost : l.steps ≡ l.initial.steps + l.at;
}
