use Rattle.std.proofs.Common.{◌≡◌, ◌+◌, ◌<◌, ◌≤◌, ℕ, List, length, ap, ap₂, sym, ◌∙◌, subst, arith}
use Rattle.metric_sums.specs.declared.Sums.{Sums}
use Rattle.metric_sums.specs.Totals.{AreSmall, plus}
use Rattle.campaign_plan.specs.declared.Outcome.{Outcome}
use Rattle.campaign_plan.specs.Analysis.{Analysis, batch_count}
use Rattle.campaign_plan.specs.Batches.{own_sums}
use Rattle.classifier.specs.Planes.{outcome_at}
use Rattle.reading_planes.specs.Folded.{reading_at}
use Rattle.reading_planes.specs.declared.reading.Reading.{Reading}
use Rattle.metric_breakdown.specs.Text.{sums_at}
use Rattle.metric_breakdown.specs.Turns.{HasSums, ShowsBatch, batch_of_turn, turn_sums}
use Rattle.batch_crew.specs.declared.rounds.WorkerShare.{WorkerShare}
use Rattle.metric_breakdown.proofs.Adding.{turn_adds, turn_idle, turns_small}
use Rattle.metric_breakdown.proofs.sums.add_turn.Goals as goal

-- the sums by a reading with the batch of a turn
one_more : (p : Analysis) (readings : List Reading) (share : WorkerShare) (turn batch : ℕ) (found : List Outcome) (sums : List Sums) → batch ≡ batch_of_turn share turn
    → batch < batch_count p → ShowsBatch p readings (batch_of_turn share turn) found → HasSums p readings share turn sums → (r : ℕ) → r < length readings
    → plus (sums_at sums r) (own_sums p batch (outcome_at found r)) ≡ turn_sums p share (reading_at readings r) (turn + 1)
one_more p readings share turn batch found sums same there shows has r lt =
    let within : batch_of_turn share turn < batch_count p = subst (λ b. b < batch_count p) same there in
    ap₂ plus (has.each r lt) (ap (λ b. own_sums p b (outcome_at found r)) same ∙ shows.each r lt) ∙ sym (turn_adds p (reading_at readings r) share turn within)

pub add_batch-requires-clause-small : goal.add_batch-requires-clause-small
add_batch-requires-clause-small c = λ r lt.
    let p = c.args.plan.now in
    let share = c.args.share in
    let small : r < length c.args.readings.now = omega (arith, lt, c.requires.sums.count) in
    let there : c.batch_of-batch.result < batch_count p = omega (arith, c.if-batch-batches.true, c.batches.ensures.count) in
    subst AreSmall (sym (one_more p c.args.readings.now share c.args.turn c.batch_of-batch.result c.args.found.now c.args.sums.now c.batch_of-batch.ensures there c.requires.found c.requires.sums r small))
    (turns_small p c.batches.ensures.plan (reading_at c.args.readings.now r) share.workers share.number (c.args.turn + 1) c.requires.workers.0)

pub returns-then-batch-batches : goal.returns-then-batch-batches
returns-then-batch-batches c =
    let p = c.args.plan.now in
    let there : c.batch_of-batch.result < batch_count p = omega (arith, c.if-batch-batches.true, c.batches.ensures.count) in
    record {
      count = c.add_batch.auto.sums ∙ c.requires.sums.count;
      each = λ r small.
          let lt : r < length c.args.sums.now = omega (arith, small, c.requires.sums.count) in
          c.add_batch.ensures r lt
          ∙ one_more p c.args.readings.now c.args.share c.args.turn c.batch_of-batch.result c.args.found.now c.args.sums.now c.batch_of-batch.ensures there c.requires.found c.requires.sums r small;
    }

pub returns-else-batch-batches : goal.returns-else-batch-batches
returns-else-batch-batches c =
    let p = c.args.plan.now in
    let behind : batch_count p ≤ batch_of_turn c.args.share c.args.turn = omega (arith, c.if-batch-batches.false, c.batches.ensures.count, c.batch_of-batch.ensures) in
    record {
      count = c.requires.sums.count;
      each = λ r small. c.requires.sums.each r small ∙ sym (turn_idle p (reading_at c.args.readings.now r) c.args.share c.args.turn behind);
    }
