use Rattle.std.proofs.Common.{◌≡◌, List, length, ap, sym, subst, ◌∙◌}
use Rattle.fm_base.proofs.Lists.{written_whole}
use Rattle.campaign_plan.specs.declared.Outcome.{Outcome}
use Rattle.metric_coverage.specs.Turns.{HasBatch}
use Rattle.metric_coverage.proofs.worker.keep_turn.Goals as goal

pub keep_batch-requires-clause-room : goal.keep_batch-requires-clause-room
keep_batch-requires-clause-room c = ap length c.as_mut_slice.ensures.value ∙ ap length c.turn.view_is ∙ c.requires.room

pub returns : goal.returns
returns c =
    let old = c.turn.inside.planes in
    let new : List Outcome = c.keep_batch.new.kept in
    let count : length new ≡ length old.items = c.keep_batch.auto.kept ∙ ap length c.as_mut_slice.ensures.value in
    subst (λ (kept : List Outcome). HasBatch c.args.plan.now c.args.readings.now c.args.batch kept) (sym (written_whole new old.items old.len count old.ok.0)) c.keep_batch.ensures
