use Rattle.std.proofs.Common.{sym, ◌∙◌}
use Rattle.reading_planes.specs.Folded.{reading_at}
use Rattle.metric_breakdown.proofs.Adding.{turn_none}
use Rattle.metric_breakdown.proofs.worker.Worker.new.Goals as goal

pub returns : goal.returns
returns c = λ p share. record {
  simulator = c.in_ok-simulator.ensures;
  sums = record {
    count = c.in_ok-sums.ensures.count;
    each = λ r lt. c.in_ok-sums.ensures.none r ∙ sym (turn_none p (reading_at c.args.readings.now r) share);
  };
}
