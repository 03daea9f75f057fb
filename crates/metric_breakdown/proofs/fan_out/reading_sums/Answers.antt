use Rattle.std.proofs.Common.{◌≡◌, ℕ, List, length, ap, sym, ◌∙◌, subst}
use Rattle.batch_crew.specs.Crew.{AreReady}
use Rattle.fm_base.proofs.Lists.{written_whole}
use Rattle.metric_sums.specs.declared.Sums.{Sums}
use Rattle.reading_planes.specs.Folded.{reading_at}
use Rattle.metric_breakdown.specs.Text.{AreReadingSums, sums_at}
use Rattle.metric_breakdown.specs.Turns.{turns_for}
use Rattle.metric_breakdown.specs.Work.{HasAdded}
use Rattle.metric_breakdown.specs.declared.worker.Worker.{Worker}
use Rattle.metric_breakdown.proofs.Adding.{crew_none}
use Rattle.metric_breakdown.proofs.fan_out.reading_sums.Goals as goal

pub sums_by_crew-requires-clause-ready : goal.sums_by_crew-requires-clause-ready
sums_by_crew-requires-clause-ready g c κs within =
    let has_done = HasAdded c.args.plan.now c.in_ok-bench.bench c.args.readings.now in
    subst (λ (crew : List Worker). AreReady has_done (length crew) crew) (sym c.as_mut_slice.ensures.value)
    (subst (λ n. AreReady has_done n c.in_ok-crew.crew.items) (sym c.in_ok-crew.ensures.count) c.in_ok-crew.ensures.ready)

pub sums_by_crew-requires-clause-none : goal.sums_by_crew-requires-clause-none
sums_by_crew-requires-clause-none g c κs within =
    let workers : ℕ = length c.as_mut_slice.result.now in
    record {
      count = ap length c.as_mut_slice-2.ensures.value ∙ c.in_ok-sums.ensures.count;
      each = λ r lt.
          ap (λ (sums : List Sums). sums_at sums r) c.as_mut_slice-2.ensures.value ∙ c.in_ok-sums.ensures.none r
          ∙ sym (crew_none c.args.plan.now (reading_at c.args.readings.now r) workers (turns_for c.args.plan.now workers));
    }

pub returns : goal.returns
returns g c =
    let sums = c.in_ok-sums.sums in
    let new : List Sums = c.sums_by_crew.new.sums in
    let count : length new ≡ length sums.items = c.sums_by_crew.auto.sums ∙ ap length c.as_mut_slice-2.ensures.value in
    subst (λ (all : List Sums). AreReadingSums c.args.plan.now c.args.readings.now all) (sym (written_whole new sums.items sums.len count sums.ok.0)) c.sums_by_crew.ensures
