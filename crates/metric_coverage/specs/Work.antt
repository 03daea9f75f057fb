-- What a worker simulates with, and what it has kept.
use Rattle.std.specs.Prelude.{◌≡◌, ℕ, ◌*◌, ◌<◌, List, length}
use Rattle.batch_crew.specs.Crew.{HaveWorked}
use Rattle.batch_crew.specs.declared.rounds.WorkerShare.{WorkerShare}
use Rattle.campaign_plan.specs.Analysis.{Analysis}
use Rattle.testbench.specs.Testbench.{Testbench}
use Rattle.reading_planes.specs.Simulator.{IsSimulatorFor}
use Rattle.reading_planes.specs.declared.reading.Reading.{Reading}
use Rattle.metric_coverage.specs.Turns.{HasTurns, rounds_for, turn_at, turns_for}
use Rattle.metric_coverage.specs.declared.worker.Worker.{Worker}

-- a worker with a simulator for these readings, and with room for so many turns
pub record IsEquippedFor (bench : Testbench) (readings : List Reading) (total : ℕ) (worker : Worker) : Type 0 where
  pub simulator : IsSimulatorFor bench readings worker.simulator
  pub room : length worker.turns.items ≡ total
  pub wide : (turn : ℕ) → turn < total → length (turn_at worker.turns.items turn) ≡ length readings

-- the worker of a share has a simulator for these readings, and the planes of the batches of so many rounds, four of each
pub record HasKept (p : Analysis) (bench : Testbench) (readings : List Reading) (share : WorkerShare) (rounds : ℕ) (worker : Worker) : Type 0 where
  pub simulator : IsSimulatorFor bench readings worker.simulator
  pub turns : HasTurns p readings share (turns_for p share.workers) (4 * rounds) worker.turns.items

-- each of some workers has done all rounds of its share
pub record HaveKept (p : Analysis) (readings : List Reading) (crew : List Worker) : Type 0 where
  pub bench : Testbench
  pub some : 0 < length crew
  pub each : HaveWorked (HasKept p bench readings) (rounds_for p) crew
