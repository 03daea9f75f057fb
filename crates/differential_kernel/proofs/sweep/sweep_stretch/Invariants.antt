use Rattle.std.proofs.Common.{◌≡◌, ◌+◌, ◌-◌}
use Rattle.differential_kernel.specs.Shown.{ReadGolden}
use Rattle.differential_kernel.specs.Sweeps.{SweepsOn}
use Rattle.differential_kernel.proofs.sweep.sweep_stretch.Given as goal

-- the tables so far are evaluated, and the nets that are read outside of the cone have their golden values
abbrev pub invariant-loop-at : goal.invariant-loop-at
invariant-loop-at g l = record {
  values : SweepsOn g.W.Word.lanes g.W.Word.lane_bit l.cycle l.forces l.cone l.from l.at l.initial.values l.values;
  read : ReadGolden g.W.Word.lanes g.W.Word.lane_bit l.cycle.row.now l.cone l.values;
  cost : l.steps ≡ l.initial.steps + (l.at - l.from);
}
