use Rattle.std.proofs.Common.{◌≡◌, ◌+◌, ◌^◌, length}
use Rattle.std.specs.List.{All}
use Rattle.claim_counter.specs.Crews.{IsCrew}
use Rattle.campaign_workers.specs.Workplaces.{seats_of}
use Rattle.classifier.specs.Simulator.{simulator_of}
use Rattle.campaign_workers.proofs.crew.hired.Given as goal

abbrev pub invariant-loop-number : goal.invariant-loop-number
invariant-loop-number g l = record {
  crew : IsCrew l.shared l.first (seats_of l.workers.items);
  simulators : All (λ w. w.simulator ≡ simulator_of l.bench l.plan.settings.ftti) l.workers.items;
  len : length l.workers.items ≡ l.number;
  share : l.first.view.share + l.number ≡ 2 ^ 32;
  table : l.first.table ≡ l.initial.first.table;
  holds : l.first.view.holds ≡ l.initial.first.view.holds;
  fails : l.first.view.fails ≡ l.initial.first.view.fails;
  seen : l.first.view.seen ≡ l.initial.first.view.seen;
}
