use Rattle.std.proofs.Common.{◌+◌, ◌*◌, ◌<◌, ℕ, length, ap, arith}
use Rattle.campaign_plan.specs.declared.Settings.{Settings}
use Rattle.reading_planes.specs.Folded.{planes_at, reading_at}
use Rattle.metric_coverage.specs.Turns.{batch_of_turn}
use Rattle.metric_coverage.proofs.Loading.{found_of, some_words}
use Rattle.metric_coverage.proofs.worker.simulate.Goals as goal

pub returns-clause-shown : goal.returns-clause-shown
returns-clause-shown c = λ word lt.
    let p = c.args.plan.now in
    let planes = c.batches.new.self.planes.items in
    let made = c.batches.ensures.made in
    let inside : word < length planes = omega (arith, lt, made.word_planes) in
    let batch : ℕ = batch_of_turn c.args.share (c.args.turn + word) in
    record {
      count = made.planes word inside;
      each = λ r small.
          found_of p (reading_at c.args.readings.now r) c.args.bench.now c.requires.bench c.settings.result.now.ftti (ap (λ (s : Settings). s.ftti) c.settings.ensures.value)
          c.faults.result.now c.faults.ensures.value (c.batch_of-first.result + word * c.args.share.workers) batch
          (some_words c.args.turn c.args.share.workers c.args.share.number word c.batch_of-first.result c.batch_of-first.ensures)
          (planes_at planes word r) (c.batches.ensures.found word r lt small);
    }
