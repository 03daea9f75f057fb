-- What a worker simulates with, and what it has added up.
use Rattle.std.specs.Prelude.{ℕ, ◌*◌, List}
use Rattle.batch_crew.specs.declared.rounds.WorkerShare.{WorkerShare}
use Rattle.campaign_plan.specs.Analysis.{Analysis}
use Rattle.testbench.specs.Testbench.{Testbench}
use Rattle.reading_planes.specs.Simulator.{IsSimulatorFor}
use Rattle.reading_planes.specs.declared.reading.Reading.{Reading}
use Rattle.metric_breakdown.specs.Turns.{HasSums}
use Rattle.metric_breakdown.specs.declared.worker.Worker.{Worker}

-- the worker of a share has a simulator for these readings, and has added up the batches of so many rounds, four of each
pub record HasAdded (p : Analysis) (bench : Testbench) (readings : List Reading) (share : WorkerShare) (rounds : ℕ) (worker : Worker) : Type 0 where
  pub simulator : IsSimulatorFor bench readings worker.simulator
  pub sums : HasSums p readings share (4 * rounds) worker.sums.items
