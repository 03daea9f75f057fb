use Rattle.std.proofs.Common.{List, ◌∙◌, ap, ◌≡◌, subst}
use Rattle.fm_shelf.specs.Outside.{Outside, outside}
use Rattle.result_file.specs.declared.Row.{Row}
use Rattle.campaign_run.specs.Ran.{Campaign, HasRun}
use Rattle.fmeda_top.proofs.Writing.{anew_ended, begun_anew}
use Rattle.fmeda_top.proofs.run.run_anew.Goals as goal

pub returns : goal.returns
returns g c =
    let planned = c.args.planned.now in
    let before : Outside = outside (g.F.Shelf.seen c.args.shelf) (g.O.Sink.seen c.args.out.now) in
    let after : Outside = outside (g.F.Shelf.seen c.run_campaign.result.shelf) (g.O.Sink.seen c.run_campaign.new.out) in
    let begun : List Row → Campaign =
    λ rows. record { name = c.args.name.now; own = planned.own; p = planned.plan; k = record { rows = rows; whole = 0 }; text = c.args.text } in
    let same : c.new-campaign.result ≡ begun_anew planned c.args.name.now c.args.text = c.new-campaign.ensures ∙ ap begun c.new.ensures in
    λ reads sound.
    anew_ended planned reads c.args.name.now c.args.workers before sound c.run_campaign.result.end c.args.text after
    (subst (λ campaign. HasRun c.run_campaign.result.end campaign before after) same c.run_campaign.ensures.run)
