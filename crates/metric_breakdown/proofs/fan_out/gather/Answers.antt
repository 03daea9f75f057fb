use Rattle.std.proofs.Common.{◌≡◌, ◌+◌, ◌<◌, ◌≤◌, ℕ, List, length, ap, ap₂, sym, ◌∙◌, subst, arith}
use Rattle.metric_sums.specs.declared.Sums.{Sums}
use Rattle.metric_sums.specs.Totals.{AreSmall, plus}
use Rattle.campaign_plan.specs.Analysis.{Analysis, fault_count}
use Rattle.reading_planes.specs.Folded.{reading_at}
use Rattle.reading_planes.specs.declared.reading.Reading.{Reading}
use Rattle.metric_breakdown.specs.Text.{sums_at}
use Rattle.metric_breakdown.specs.Turns.{HasSums, HaveSums, crew_sums, turns_for}
use Rattle.metric_breakdown.specs.declared.worker.Worker.{Worker}
use Rattle.metric_breakdown.proofs.Adding.{crew_more, crew_total, crews_small}
use Rattle.metric_breakdown.proofs.Dividing.{turns_enough}
use Rattle.metric_breakdown.proofs.fan_out.gather.Goals as goal

-- the sums by a reading with those of one worker more
one_more : (p : Analysis) (readings : List Reading) (workers turns first : ℕ) (sums own added : List Sums) → HaveSums p readings workers turns first sums
    → HasSums p readings (record { number = first; workers = workers }) turns own → added ≡ own → (r : ℕ) → r < length readings
    → plus (sums_at sums r) (sums_at added r) ≡ crew_sums p (reading_at readings r) workers turns (first + 1)
one_more p readings workers turns first sums own added have has same r lt =
    ap₂ plus (have.each r lt) (ap (λ (ss : List Sums). sums_at ss r) same ∙ has.each r lt) ∙ sym (crew_more p (reading_at readings r) workers turns first)

pub add_sums-requires-clause-small : goal.add_sums-requires-clause-small
add_sums-requires-clause-small c = λ r lt.
    let p = c.args.rounds.now.plan.now in
    let workers : ℕ = length c.args.workers.now in
    let first : ℕ = c.loop-worker.worker-index in
    let inv = c.loop-worker.invariant in
    let small : r < length c.args.rounds.now.readings.now = omega (arith, lt, inv.count) in
    let next : first + 1 ≤ workers = omega (arith, c.loop-worker-test.true) in
    let has = subst (λ (one : Worker). HasSums p c.args.rounds.now.readings.now (record { number = first; workers = workers }) (turns_for p workers) one.sums.items) (sym c.worker-item.is)
    (c.requires.worked first c.worker-item.result c.loop-worker-test.true).sums in
    subst AreSmall (sym (one_more p c.args.rounds.now.readings.now workers (turns_for p workers) first c.loop-worker.sums c.worker-item.result.sums.items c.as_slice.result.now inv has c.as_slice.ensures.value r small))
    (crews_small p c.requires.plan (reading_at c.args.rounds.now.readings.now r) workers (turns_for p workers) (first + 1) next)

pub loop-worker-preserved : goal.loop-worker-preserved
loop-worker-preserved c =
    let p = c.args.rounds.now.plan.now in
    let workers : ℕ = length c.args.workers.now in
    let first : ℕ = c.loop-worker.worker-index in
    let inv = c.loop-worker.invariant in
    let has = subst (λ (one : Worker). HasSums p c.args.rounds.now.readings.now (record { number = first; workers = workers }) (turns_for p workers) one.sums.items) (sym c.worker-item.is)
    (c.requires.worked first c.worker-item.result c.loop-worker-test.true).sums in
    record {
      count = c.add_sums.auto.sums ∙ inv.count;
      each = λ r small.
          let lt : r < length c.loop-worker.sums = omega (arith, small, inv.count) in
          c.add_sums.ensures r lt
          ∙ one_more p c.args.rounds.now.readings.now workers (turns_for p workers) first c.loop-worker.sums c.worker-item.result.sums.items c.as_slice.result.now inv has c.as_slice.ensures.value r small;
    }

pub returns : goal.returns
returns c =
    let p = c.args.rounds.now.plan.now in
    let workers : ℕ = length c.args.workers.now in
    let inv = c.loop-worker.invariant in
    let end : c.loop-worker.worker-index ≡ workers = omega (arith, c.loop-worker-test.false, c.loop-worker.auto.worker-index-end) in
    record {
      count = inv.count;
      each = λ r small.
          let reading = reading_at c.args.rounds.now.readings.now r in
          inv.each r small ∙ ap (crew_sums p reading workers (turns_for p workers)) end
          ∙ crew_total p reading workers (turns_for p workers) (turns_enough (fault_count p) workers c.requires.some);
    }
