use Rattle.std.proofs.lemmas.Result.{err_from_is_err_and}
use Rattle.fault_list.specs.Faults.{fault_name, fault_at}
use Rattle.campaign_plan.specs.Analysis.{fault_numbered}
use Rattle.fm_shelf.proofs.Sending.{sends_as, sends_stop, sends_then}
use Rattle.pair_campaign.proofs.text.write_before_name.Goals as goal

pub returns-in_err-write_all : goal.returns-in_err-write_all
returns-in_err-write_all g c =
    let p = err_from_is_err_and c.from_residual.result c.from_residual.ensures.1 in
    let plan = c.args.plan.now in
    let wrote = c.in_err-write_all.ensures in
    rw p.1 (sends_stop (fault_name plan.circuit (fault_numbered plan c.args.fault)) p.0
    wrote)

pub returns : goal.returns
returns g c =
    let begun = c.in_ok-write_all.ensures in
    let named = c.write_name.ensures in
    sends_then begun
    (sends_as (λ j. fault_name (c.net.ensures.value j) (fault_at (c.faults.ensures.value j) c.args.fault))
    named)
