-- What was seen of a run in the lanes of a word, and what is found of its batch.
use Rattle.std.specs.Prelude.{◌≡◌, ℕ, ◌<◌, List, [], length, None, slice_index_or}
use Rattle.circuit.specs.declared.parts.Fault.{Fault}
use Rattle.circuit.specs.Circuit.{Circuit}
use Rattle.workload.specs.declared.run.Run.{Run}
use Rattle.alarm_points.specs.declared.Goal.{Goal}
use Rattle.alarm_points.specs.declared.Points.{Points}
use Rattle.alarm_points.specs.Watch.{AreMadeFor, IsAfterPairs, KeepsIntervals, Pair, Watch, differs_in, raised_in, window_at}
use Rattle.fm_base.specs.Lists.{some_below}
use Rattle.fm_base.specs.Planes.{bit}
use Rattle.campaign_plan.specs.Danger.{differs, is_raised, is_silenced}
use Rattle.classifier.specs.Batch.{outcome_for}
use Rattle.row_audit.specs.declared.watcher.Watcher.{Watcher}
use Rattle.testbench.specs.Points.{goal_at}

-- the watcher of a word
abbrev pub watcher_at : List Watcher → ℕ → Watcher
watcher_at watchers word =
    slice_index_or watchers word (record {
      batch = None;
      windows = record { ftti = 0; windows = [] };
      alarms = record { raised = 0; silenced = 0 };
      planes = record { danger = 0; noticed = 0 };
    })

-- the window has seen the first n cycles of the run: where a point of the goal differs in each lane, and where an alarm is raised
pub record HasWatched (c : Circuit) (points : Points) (run : Run) (faults : ℕ → List Fault) (goal : Goal) (n : ℕ) (w : Watch) : Type 0 where
  pub pairs : List Pair
  pub count : length pairs ≡ n
  pub after : IsAfterPairs pairs w
  pub differ : (k t : ℕ) → k < 64 → t < n → differs_in pairs k t ≡ differs c goal (faults k) run t
  pub raise : (k t : ℕ) → k < 64 → t < n → raised_in pairs k t ≡ is_raised c points (faults k) run t

-- each goal's window has seen the first n cycles of the run, and the alarms of these cycles are known
pub record HaveWatched (c : Circuit) (points : Points) (run : Run) (faults : ℕ → List Fault) (n : ℕ) (w : Watcher) : Type 0 where
  pub made : AreMadeFor points w.windows
  pub seen : (g : ℕ) → g < length points.goals → HasWatched c points run faults (goal_at points.goals g) n (window_at w.windows g)
  pub raised : (k : ℕ) → k < 64 → bit w.alarms.raised k ≡ some_below n (is_raised c points (faults k) run)
  pub silenced : (k : ℕ) → k < 64 → bit w.alarms.silenced k ≡ some_below n (is_silenced c points (faults k) run)

-- so have those of each word
abbrev pub HaveAllWatched : Circuit → Points → Run → (ℕ → ℕ → List Fault) → ℕ → List Watcher → Type 0
HaveAllWatched c points run faults n watchers = (word : ℕ) → word < length watchers → HaveWatched c points run (faults word) n (watcher_at watchers word)

-- the batch, its planes and the windows' intervals are as before
pub record KeepsFound (old new : Watcher) : Type 0 where
  pub batch : new.batch ≡ old.batch
  pub windows : KeepsIntervals old.windows new.windows
  pub planes : new.planes ≡ old.planes

-- so they are in each word
abbrev pub KeepAllFound : List Watcher → List Watcher → Type 0
KeepAllFound old new = (word : ℕ) → word < length old → KeepsFound (watcher_at old word) (watcher_at new word)

-- the windows were made for these points, with this interval of the settings
pub record IsMadeWatcher (points : Points) (ftti : ℕ) (w : Watcher) : Type 0 where
  pub made : AreMadeFor points w.windows
  pub interval : w.windows.ftti ≡ ftti

-- and the planes are those of its batch
pub record IsAtHand (c : Circuit) (points : Points) (ftti : ℕ) (runs : List Run) (faults : List Fault) (w : Watcher) : Type 0 where
  pub ready : IsMadeWatcher points ftti w
  pub planes : w.planes ≡ outcome_for c points ftti runs faults w.batch

-- those of each word
abbrev pub AreAllReady : Points → ℕ → List Watcher → Type 0
AreAllReady points ftti watchers = (word : ℕ) → word < length watchers → IsMadeWatcher points ftti (watcher_at watchers word)

abbrev pub AreAllAtHand : Circuit → Points → ℕ → List Run → List Fault → List Watcher → Type 0
AreAllAtHand c points ftti runs faults watchers = (word : ℕ) → word < length watchers → IsAtHand c points ftti runs faults (watcher_at watchers word)
