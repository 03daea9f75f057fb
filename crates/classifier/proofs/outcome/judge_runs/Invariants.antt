use Rattle.std.proofs.Common.{◌≡◌, ◌+◌, ◌*◌, ◌≤◌, length, take}
use Rattle.workload.specs.Runs.{all_cycles}
use Rattle.alarm_points.specs.FourWatches.{AreAllMadeFor}
use Rattle.testbench.specs.Load.{load_of}
use Rattle.classifier.specs.Narrowed.{AreNarrowFor}
use Rattle.classifier.specs.Planes.{HaveAllPlanes}
use Rattle.classifier.specs.Seen.{AllKeepIntervals}
use Rattle.classifier.proofs.outcome.judge_runs.Given as goal

-- the runs so far are judged
abbrev pub invariant-loop-run : goal.invariant-loop-run
invariant-loop-run g l = record {
  load : load_of l.lanes ≡ load_of l.initial.lanes;
  narrow : AreNarrowFor l.bench.circuit l.bench.order l.narrow;
  made : AreAllMadeFor l.bench.points l.windows;
  intervals : AllKeepIntervals l.initial.windows l.windows;
  planes : HaveAllPlanes l.bench.circuit l.bench.points (take l.run l.bench.runs) g.W.Word.words (load_of l.initial.lanes) l.initial.windows l.outcomes;
  cost : l.steps ≤ l.initial.steps + all_cycles (take l.run l.bench.runs) * length l.bench.circuit.tables;
}
