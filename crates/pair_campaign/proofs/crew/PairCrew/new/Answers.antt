use Rattle.std.proofs.Common.{◌≡◌, length, ap, sym, subst, arith}
use Rattle.batch_crew.specs.Crew.{AreReady}
use Rattle.testbench.specs.Testbench.{Testbench}
use Rattle.pair_campaign.specs.Crews.{IsCrewFor, MadeFor}
use Rattle.pair_campaign.specs.Work.{HasJudged}
use Rattle.pair_campaign.proofs.crew.PairCrew.new.Goals as goal

pub invariant_of-result : goal.invariant_of-result
invariant_of-result c =
    let bench : Testbench = c.in_ok-bench.bench in
    let crew = c.in_ok-workers.workers.items in
    let planes = c.in_ok-room.room in
    let made : MadeFor = record { plan = c.args.plan.now; pairs = c.args.pairs.now } in
    let own : IsCrewFor made bench crew planes.items = record {
      faults = c.requires.pairs;
      bench_is = record {
        circuit = ap (λ (b : Testbench). b.circuit) c.in_ok-bench.ensures;
        runs = ap (λ (b : Testbench). b.runs) c.in_ok-bench.ensures;
        points = ap (λ (b : Testbench). b.points) c.in_ok-bench.ensures;
      };
      ready = subst (λ n. AreReady (HasJudged made.plan bench made.pairs) n crew) (sym c.in_ok-workers.ensures.count) c.in_ok-workers.ensures.ready;
      some = omega (arith, c.in_ok-workers.ensures.count, c.requires.workers.0);
      few = omega (arith, c.in_ok-workers.ensures.count, c.requires.workers.1);
      room = omega (arith, c.in_ok-room.ensures.len, planes.ok.0, c.planes_for.ensures.planes);
    } in
    let same : record { plan = c.of.result.value; pairs = c.of-2.result.value } ≡ made = λ i. record { plan = c.of.ensures i; pairs = c.of-2.ensures i } in
    subst (λ (m : MadeFor). IsCrewFor m bench crew planes.items) (sym same) own
