use Rattle.std.proofs.Common.{◌<◌, ℕ, List}
use Rattle.std.specs.Prelude.{Option}
use Rattle.circuit.specs.declared.parts.Fault.{Fault}
use Rattle.circuit.specs.Circuit.{Circuit}
use Rattle.workload.specs.declared.run.Run.{Run}
use Rattle.testbench.specs.Load.{in_lane}
use Rattle.alarm_points.specs.FourWatches.{AreAllMadeFor, windows_at}
use Rattle.classifier.specs.Seen.{AllKeepIntervals, HaveSeen, known_at, left_at}
use Rattle.classifier.specs.declared.decided.Decided.{Decided}
use Rattle.classifier.proofs.run.start_windows.Given as goal

-- the words so far have seen nothing
abbrev pub invariant-loop-word : goal.invariant-loop-word
invariant-loop-word l = record {
  made : AreAllMadeFor l.points l.windows;
  seen : (c : Circuit) (run : Run) (faults : List (List (Option Fault))) (decided : List Decided) (word : ℕ) → word < l.word
      → HaveSeen c l.points run (in_lane faults word) (known_at decided word) 0 (windows_at l.windows word) (left_at l.left word);
  intervals : AllKeepIntervals l.initial.windows l.windows;
}
