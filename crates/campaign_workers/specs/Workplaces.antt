-- What a worker of a crew works with, and what the crew was made for.
use Rattle.std.specs.Prelude.{◌≡◌, ◌<◌, [], true, false, List, length, map, All}
use Rattle.campaign_plan.specs.Analysis.{Analysis}
use Rattle.classifier.specs.Simulator.{simulator_of}
use Rattle.testbench.specs.Testbench.{Testbench, IsTestbenchFor}
use Rattle.claim_counter.specs.Seats.{Counter, Seated}
use Rattle.claim_counter.specs.Crews.{IsCrew}
use Rattle.campaign_workers.specs.declared.worker.Worker.{Worker}

abbrev pub seats_of : {F N : Type 0} → List (Worker F N) → List Seated
seats_of workers = map (λ w. w.seat) workers

-- all that a campaign needs but the board was made for this plan
-- first: the first seat holds the turn, which shows no history yet
-- some: there is a worker
pub record AreFor {F N : Type 0} (p : Analysis) (bench : Testbench) (table : Counter) (first : Seated) (workers : List (Worker F N)) : Type 0 where
  pub bench_is : IsTestbenchFor p bench
  pub simulators : All (λ w. w.simulator ≡ simulator_of bench p.settings.ftti) workers
  pub crew : IsCrew table first (seats_of workers)
  pub held : (first.view.holds ≡ true) × (first.view.fails ≡ false)
  pub none : first.view.seen ≡ []
  pub some : 0 < length workers
