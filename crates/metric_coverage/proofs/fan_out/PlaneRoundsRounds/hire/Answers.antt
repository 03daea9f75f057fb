use Rattle.std.proofs.Common.{ap, ◌*◌, ◌∙◌, arith}
use Rattle.metric_coverage.proofs.fan_out.PlaneRoundsRounds.hire.Goals as goal

pub returns : goal.returns
returns c = λ number.
    let made = c.in_ok-worker.ensures in
    let total = ap (λ n. 4 * n) c.round_count-turns.ensures.count in
    record {
      simulator = made.simulator;
      turns = record {
        room = made.room ∙ total;
        wide = λ turn lt. made.wide turn (omega (arith, lt, total));
        kept = λ turn lt. absurd (omega (arith, lt));
      };
    }
