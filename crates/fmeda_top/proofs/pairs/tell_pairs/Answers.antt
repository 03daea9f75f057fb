use Rattle.std.proofs.Common.{inl, refl}
use Rattle.std.proofs.lemmas.Result.{err_from_is_err_and}
use Rattle.fm_shelf.proofs.Sending.{sends_as}
use Rattle.result_file.specs.RowPlanes.{planes_in}
use Rattle.pair_campaign.specs.PairText.{pairs_text}
use Rattle.commands.specs.declared.command.Task.TheVariants as task
use Rattle.command_reads.specs.FirstRefusal.{Begun}
use Rattle.fmeda_top.proofs.RowTexts.{chosen_are_faults, judged_text}
use Rattle.fmeda_top.proofs.Telling.{told}
use Rattle.fmeda_top.proofs.pairs.tell_pairs.Goals as goal

pub new-requires-clause-pairs : goal.new-requires-clause-pairs
new-requires-clause-pairs g c =
    chosen_are_faults c.args.begun.now.planned.plan (planes_in c.args.begun.now.kept.rows) c.in_ok-pairs.pairs c.in_ok-pairs.ensures.1

pub returns-in_err-pairs : goal.returns-in_err-pairs
returns-in_err-pairs g c =
    let p = err_from_is_err_and c.from_residual.result c.from_residual.ensures.1 in
    rw (p.1, p.2) (c.in_err-pairs.ensures.0, c.in_err-pairs.ensures.1, refl)

-- want of memory for the crew
pub returns-in_err-crew : goal.returns-in_err-crew
returns-in_err-crew g c =
    let p = err_from_is_err_and c.from_residual-in_err-crew.result c.from_residual-in_err-crew.ensures.1 in
    rw (p.1, p.2) (inl tt, tt, refl)

pub returns : goal.returns
returns g c =
    let begun = c.args.begun.now in
    let chose = c.in_ok-pairs.ensures in
    told (task.Pairs c.args.workers) (Begun begun.planned.plan begun.kept) _ _ (pairs_text begun.planned.plan (planes_in begun.kept.rows)) c.write_pairs.result
    c.after_text.result chose.0 refl
    (sends_as (judged_text c.pairs_are_told.ensures begun.planned.plan begun.kept.rows c.in_ok-pairs.pairs _ chose.1 c.judge-planes.ensures) c.write_pairs.ensures)
    c.after_text.ensures.done c.after_text.ensures.failed tt
