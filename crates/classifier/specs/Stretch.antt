-- A stretch of the cycles of a run.
use Rattle.std.specs.Prelude.{◌≡◌, ℕ, ◌<◌, List, Option, length, take}
use Rattle.circuit.specs.declared.parts.Fault.{Fault}
use Rattle.workload.specs.declared.run.Run.{Run}
use Rattle.workload.specs.Runs.{run_at}
use Rattle.workload.specs.RunsKept.{AreRuns}
use Rattle.alarm_points.specs.declared.Points.{Points}
use Rattle.alarm_points.specs.FourWatches.{AreAllMadeFor, windows_at}
use Rattle.alarm_points.specs.Watch.{Watches}
use Rattle.golden_difference.specs.Lanes.{IsMadeFor, Lanes}
use Rattle.classifier.specs.InRun.{IsForBench, LanesInRun}
use Rattle.testbench.specs.Load.{in_lane}
use Rattle.classifier.specs.Narrowed.{AreNarrowFor}
use Rattle.classifier.specs.Seen.{AllKeepIntervals, IsWatched, known_at, left_at}
use Rattle.testbench.specs.Testbench.{Testbench}
use Rattle.classifier.specs.declared.decided.Decided.{Decided}
use Rattle.classifier.specs.declared.narrow.Narrow.{Narrow}

-- lanes and the one word in which their last go on, and windows for each word, were made for the testbench
pub record AreMadeForBench {W : Type 0} (bench : Testbench) (words : ℕ) (lanes : Lanes W) (narrow : List Narrow) (windows : List Watches) : Type 0 where
  pub lanes_made : IsMadeFor bench.circuit bench.order lanes
  pub narrow_made : AreNarrowFor bench.circuit bench.order narrow
  pub count : length windows ≡ words
  pub windows_made : AreAllMadeFor bench.points windows

-- each word has what is decided before the run, windows for the points, and the lanes that have left the run
pub record AreForWords (words : ℕ) (points : Points) (decided : List Decided) (windows : List Watches) (left : List ℕ) : Type 0 where
  pub decided_count : length decided ≡ words
  pub windows_count : length windows ≡ words
  pub left_count : length left ≡ words
  pub made : AreAllMadeFor points windows

-- what is followed in a run: the lanes, and of each word its windows and the lanes that have left
pub record UnderWay : Type 1 where
  pub lanes : LanesInRun
  pub windows : List Watches
  pub left : List ℕ

abbrev pub under_way : LanesInRun → List Watches → List ℕ → UnderWay
under_way lanes windows left = record { lanes = lanes; windows = windows; left = left }

-- a run of the testbench is simulated up to its cycle t
pub record IsUnderWay (bench : Testbench) (run words : ℕ) (decided : List Decided) (t : ℕ) (s : UnderWay) : Type 0 where
  pub has_run : run < length bench.runs
  pub runs : AreRuns bench.runs
  pub made : IsForBench bench s.lanes.load
  pub cycle : s.lanes.cycle ≡ t
  pub after : s.lanes.IsAfter (take t (run_at bench.runs run).vectors)
  pub for_words : AreForWords words bench.points decided s.windows s.left

-- each word has seen the first n cycles, where these faults are followed
abbrev pub AreAllWatched : Points → Run → ℕ → List (List (Option Fault)) → List Decided → ℕ → UnderWay → Type 0
AreAllWatched points run words faults decided n s =
    (word : ℕ) → word < words
    → IsWatched s.lanes.load.circuit points run (in_lane faults word) (known_at decided word) n (s.lanes.faults word) (windows_at s.windows word) (left_at s.left word)

-- the cycles from t on, up to n, are simulated and seen
pub record IsStretch (bench : Testbench) (run words : ℕ) (decided : List Decided) (t n : ℕ) (old new : UnderWay) : Type 0 where
  pub to : IsUnderWay bench run words decided n new
  pub load : new.lanes.load ≡ old.lanes.load
  pub intervals : AllKeepIntervals old.windows new.windows
  pub watched : (faults : List (List (Option Fault)))
      → AreAllWatched bench.points (run_at bench.runs run) words faults decided t old
      → AreAllWatched bench.points (run_at bench.runs run) words faults decided n new
