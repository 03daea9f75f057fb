use Rattle.std.proofs.Common.{◌≤◌, ◌+◌, ◌-◌, ◌*◌, length}
use Rattle.workload.specs.Runs.{cycles_of, run_at}
use Rattle.classifier.specs.InRun.{in_run}
use Rattle.classifier.specs.Narrowed.{AreNarrowFor}
use Rattle.classifier.specs.Stretch.{AreAllWatched, IsStretch, under_way}
use Rattle.classifier.proofs.run.watch_run.Given as goal

-- the cycles so far are simulated, and the windows have seen them
abbrev pub invariant-stretches : goal.invariant-stretches
invariant-stretches g l = record {
  within : l.t ≤ cycles_of (run_at l.bench.runs l.run);
  narrow : AreNarrowFor l.bench.circuit l.bench.order l.narrow;
  stretch : IsStretch l.bench l.run g.W.Word.words l.decided 0 l.t (under_way (in_run g.W.Word.lanes g.W.Word.lane_bit l.initial.lanes) l.initial.windows l.initial.left)
      (under_way (in_run g.W.Word.lanes g.W.Word.lane_bit l.lanes) l.windows l.left);
  watched : AreAllWatched l.bench.points (run_at l.bench.runs l.run) g.W.Word.words l.initial.lanes.in_force l.decided l.t
      (under_way (in_run g.W.Word.lanes g.W.Word.lane_bit l.lanes) l.windows l.left);
  cost : l.steps ≤ l.initial.steps + l.t * length l.bench.circuit.tables;
}

-- the number of cycles that are left
abbrev pub decreases-stretches : goal.decreases-stretches
decreases-stretches g l = cycles_of (run_at l.bench.runs l.run) - l.t
