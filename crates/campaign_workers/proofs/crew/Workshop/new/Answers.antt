use Rattle.std.proofs.Common.{◌<◌, length, ap, ◌∙◌, arith}
use Rattle.claim_counter.specs.declared.view.View.{View}
use Rattle.testbench.specs.Testbench.{Testbench}
use Rattle.campaign_workers.proofs.crew.Workshop.new.Goals as goal

pub invariant_of-result : goal.invariant_of-result
invariant_of-result g c =
    let seat = c.in_ok-shared.ensures.2 in
    let hired = c.in_ok-workers.ensures in
    let bench = c.in_ok-bench.ensures in
    let some : 0 < length c.in_ok-workers.workers.items = omega (arith, hired.count, c.requires.workers.0) in
    rw c.of.ensures (
      record {
        bench_is = record {
          circuit = ap (λ (b : Testbench). b.circuit) bench;
          runs = ap (λ (b : Testbench). b.runs) bench;
          points = ap (λ (b : Testbench). b.points) bench;
        };
        simulators = hired.simulators;
        crew = hired.crew;
        held = (hired.view.1 ∙ ap (λ (v : View). v.holds) seat, hired.view.2 ∙ ap (λ (v : View). v.fails) seat);
        none = hired.view.3 ∙ ap (λ (v : View). v.seen) seat;
        some = some;
      },
      c.requires.entries,
    )
