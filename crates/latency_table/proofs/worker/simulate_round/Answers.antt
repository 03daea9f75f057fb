use Rattle.std.proofs.Common.{◌≡◌, ◌+◌, ◌*◌, ◌<◌, ℕ, List, [], length, subst, ◌∙◌, arith}
use Rattle.std.proofs.lemmas.List.{length-set}
use Rattle.campaign_plan.specs.Analysis.{fault_count}
use Rattle.fault_runs.proofs.EachItem.{each_set}
use Rattle.latency_table.specs.declared.latency.Latency.{Latency}
use Rattle.latency_table.specs.Latency.{IsLatencyFor, latency_at}
use Rattle.latency_table.specs.Work.{number_in}
use Rattle.latency_table.proofs.worker.simulate_round.Goals as goal

pub returns : goal.returns
returns g c =
    let p = c.args.plan.now in
    let share = c.args.share in
    let round = c.args.round in
    let before = c.requires.before in
    let did = c.simulate_group.ensures in
    let groups : List (List Latency) = c.args.worker.now.groups.items in
    let group : List Latency = c.simulate_group.new.group in
    let inside : round < length groups = omega (arith, c.requires.round, before.equipped.rounds_are) in
    record {
      equipped = record {
        made = did.made;
        size = did.size;
        paths = before.equipped.paths;
        rounds_are = length-set groups round group ∙ before.equipped.rounds_are;
        room = λ r lt. each_set (λ m (ls : List Latency). length ls ≡ 1024) groups round group [] inside did.room r (λ apart. before.equipped.room r lt);
      };
      kept = λ r lt.
          each_set (λ m (ls : List Latency). (lane : ℕ) → lane < 1024 → number_in share m lane < fault_count p
          → IsLatencyFor p (number_in share m lane) (latency_at ls lane)) groups round group [] inside
          (λ lane small within.
          let number : c.first_batch-first.result * 64 + lane ≡ number_in share round lane = omega (arith, c.first_batch-first.ensures.batch) in
          subst (λ n. IsLatencyFor p n (latency_at group lane)) number (did.kept lane small (omega (arith, number, within))))
          r (λ apart. before.kept r (omega (arith, apart, lt)));
    }
