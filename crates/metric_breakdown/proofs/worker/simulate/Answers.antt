use Rattle.std.proofs.Common.{◌≡◌, ◌+◌, ◌*◌, ◌<◌, ℕ, length, refl, ap, arith}
use Rattle.std.proofs.Math.Nat.{add-mul}
use Rattle.campaign_plan.specs.declared.Settings.{Settings}
use Rattle.reading_planes.specs.Folded.{planes_at, reading_at}
use Rattle.reading_planes.specs.Readings.{plan_by}
use Rattle.metric_breakdown.specs.Turns.{batch_of_turn}
use Rattle.metric_breakdown.proofs.Showing.{adds_truly, found_of}
use Rattle.metric_breakdown.proofs.worker.simulate.Goals as goal

-- a batch some words behind the first
some_words : (turn workers number word first : ℕ) → first ≡ turn * workers + number → first + word * workers ≡ (turn + word) * workers + number
some_words turn workers number word first e =
    let rows : (turn + word) * workers ≡ turn * workers + word * workers = add-mul turn word workers in
    omega (arith, e, rows)

pub returns-clause-shown : goal.returns-clause-shown
returns-clause-shown c = λ word lt.
    let p = c.args.plan.now in
    let planes = c.batches.new.self.planes.items in
    let made = c.batches.ensures.made in
    let inside : word < length planes = omega (arith, lt, made.word_planes) in
    let batch : ℕ = batch_of_turn c.args.share (c.args.turn + word) in
    record {
      count = made.planes word inside;
      each = λ r small.
          let reading = reading_at c.args.readings.now r in
          adds_truly p (plan_by p reading) batch (planes_at planes word r) refl
          (found_of p reading c.args.bench.now c.requires.bench c.settings.result.now.ftti (ap (λ (s : Settings). s.ftti) c.settings.ensures.value)
          c.faults.result.now c.faults.ensures.value (c.batch_of-first.result + word * c.args.share.workers) batch
          (some_words c.args.turn c.args.share.workers c.args.share.number word c.batch_of-first.result c.batch_of-first.ensures)
          (planes_at planes word r) (c.batches.ensures.found word r lt small));
    }
