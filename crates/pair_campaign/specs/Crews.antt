-- What a crew for pairs was made for.
use Rattle.std.specs.Prelude.{◌≡◌, ◌≤◌, ◌<◌, ℕ, List, length}
use Rattle.batch_crew.specs.Crew.{AreReady}
use Rattle.fault_list.specs.Faults.{batches_for}
use Rattle.campaign_plan.specs.Analysis.{Analysis}
use Rattle.pair_list.specs.Chosen.{Chosen, AreFaults, pair_count}
use Rattle.pair_campaign.specs.declared.worker.PairWorker.{PairWorker}
use Rattle.pair_campaign.specs.Work.{HasJudged}
use Rattle.testbench.specs.Testbench.{Testbench, IsTestbenchFor}

-- the plan and the pairs
pub record MadeFor : Type 0 where
  pub plan : Analysis
  pub pairs : Chosen

-- all that judging needs is there: a testbench of the plan, 1 to 32 workers, and room for the planes
pub record IsCrewFor (made : MadeFor) (bench : Testbench) (workers : List PairWorker) (planes : List ℕ) : Type 0 where
  pub faults : AreFaults made.plan made.pairs
  pub bench_is : IsTestbenchFor made.plan bench
  pub ready : AreReady (HasJudged made.plan bench made.pairs) (length workers) workers
  pub some : 0 < length workers
  pub few : length workers ≤ 32
  pub room : length planes ≡ batches_for (pair_count made.pairs)
