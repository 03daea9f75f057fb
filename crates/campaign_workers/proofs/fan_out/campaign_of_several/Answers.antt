use Rattle.std.proofs.Common.{◌<◌, length, ap, ◌∙◌, arith}
use Rattle.campaign_workers.proofs.Workshops.{at_work, first_free}
use Rattle.campaign_workers.proofs.fan_out.campaign_of_several.Goals as goal
use Rattle.fm_base.proofs.Lists.{written_whole}

pub work_all-requires-clause-ready : goal.work_all-requires-clause-ready
work_all-requires-clause-ready g c = λ κs bounds.
    at_work _ c.args.plan.now c.workshop.inside.bench c.workshop.inside.shared _ _ c.as_mut_slice.result.now c.workshop.invariant.0 (c.workshop.view_is ∙ c.requires.made)
    c.as_mut_slice.ensures.value

pub board_of_all-requires-clause-first : goal.board_of_all-requires-clause-first
board_of_all-requires-clause-first g c = first_free c.workshop.inside.shared c.workshop.inside.first c.put.new.seat _ _ c.workshop.invariant.0.crew c.put.ensures.0 c.put.ensures.1

pub board_of_all-requires-clause-done : goal.board_of_all-requires-clause-done
board_of_all-requires-clause-done g c =
    let same = c.work_all.auto.workers ∙ ap length c.as_mut_slice.ensures.value in
    let whole = written_whole c.work_all.new.workers c.workshop.inside.workers.items c.workshop.inside.workers.len same c.workshop.inside.workers.ok.0 in
    let some : 0 < length c.work_all.new.workers = omega (arith, same, c.workshop.invariant.0.some) in
    rw whole (c.work_all.ensures.done, some)
