-- What a step makes of the watcher of a word.
use Rattle.std.proofs.Common.{◌≡◌, ℕ, ◌+◌, ◌<◌, Bool, List, [], ◌∷◌, ◌++◌, take}
use Rattle.circuit.specs.declared.parts.Fault.{Fault}
use Rattle.circuit.specs.declared.parts.NetId.{NetId}
use Rattle.circuit.specs.After.{IsAfter}
use Rattle.circuit.specs.Circuit.{Circuit}
use Rattle.cycle_sim.specs.Sim.{IsSimulationFor, Simulation}
use Rattle.workload.specs.declared.run.Kind.{Kind}
use Rattle.workload.specs.declared.run.Run.{Run}
use Rattle.workload.specs.Runs.{cycles_of}
use Rattle.alarm_points.specs.declared.Points.{Points}
use Rattle.alarm_points.specs.Watch.{AreMadeFor}
use Rattle.classifier.specs.Batch.{alone_in, outcome_for}
use Rattle.classifier.specs.Planes.{HasPlanes}
use Rattle.row_audit.specs.declared.watcher.Watcher.{Watcher}
use Rattle.row_audit.specs.Loaded.{Loaded}
use Rattle.row_audit.specs.Watched.{HaveWatched, KeepsFound}

-- it forgets what was seen of earlier runs
pub record Starts (word : ℕ) (old new : Watcher) : Type 0 where
  pub keeps : KeepsFound old new
  pub seen : (c : Circuit) (points : Points) (run : Run) (faults : ℕ → List Fault) → AreMadeFor points old.windows → HaveWatched c points run faults 0 new

-- it sees one cycle more, where the circuits have run these vectors
pub record Sees (HaveRun : List (List Bool) → Type 0) (loaded : Loaded) (points : Points) (word : ℕ) (old new : Watcher) : Type 0 where
  pub keeps : KeepsFound old new
  pub seen : (run : Run) (t : ℕ) → t < cycles_of run → HaveRun (take (t + 1) run.vectors)
      → HaveWatched loaded.circuit points run (loaded.faults word) t old → HaveWatched loaded.circuit points run (loaded.faults word) (t + 1) new

-- a run is added to its planes
pub record Adds (kind : Kind) (word : ℕ) (old new : Watcher) : Type 0 where
  pub batch : new.batch ≡ old.batch
  pub windows : new.windows ≡ old.windows
  pub planes : (c : Circuit) (points : Points) (runs : List Run) (run : Run) (faults : ℕ → List Fault) → run.kind ≡ kind
      → HaveWatched c points run faults (cycles_of run) old
      → HasPlanes c points old.windows.ftti runs faults old.planes
      → HasPlanes c points old.windows.ftti (runs ++ run ∷ []) faults new.planes

-- it turns to a batch, of which nothing is found yet
pub record Turns (word : ℕ) (old new : Watcher) : Type 0 where
  pub windows : new.windows ≡ old.windows
  pub planes : new.planes ≡ record { danger = 0; noticed = 0 }

-- its planes are left for its batch alone
pub record Masks (faults : List Fault) (word : ℕ) (old new : Watcher) : Type 0 where
  pub batch : new.batch ≡ old.batch
  pub windows : new.windows ≡ old.windows
  pub planes : (c : Circuit) (points : Points) (ftti : ℕ) (runs : List Run) (lanes : ℕ → List Fault)
      → ((k : ℕ) → k < 64 → lanes k ≡ alone_in faults old.batch k) → HasPlanes c points ftti runs lanes old.planes
      → new.planes ≡ outcome_for c points ftti runs faults old.batch

-- ---- simulations of one circuit each

-- it goes to the initial state
pub record Begins (k : ℕ) (old new : Simulation) : Type 0 where
  pub circuit : new.circuit ≡ old.circuit
  pub order : new.order ≡ old.order
  pub after : (faults : List Fault) → IsAfter new.circuit faults [] new.moment

-- it runs a cycle, with the faults of its lane
pub record Advances (c : Circuit) (nets : List NetId) (faults : ℕ → List Fault) (inputs : List Bool) (k : ℕ) (old new : Simulation) : Type 0 where
  pub made : IsSimulationFor c nets new
  pub after : (vectors : List (List Bool)) → IsAfter c (faults k) vectors old.moment → IsAfter c (faults k) (vectors ++ inputs ∷ []) new.moment
