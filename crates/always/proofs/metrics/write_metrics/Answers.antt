use Rattle.std.proofs.Common.{ap}
use Rattle.campaign_plan.specs.declared.Settings.{Settings}
use Rattle.fm_shelf.proofs.Sending.{sends_as}
use Rattle.always.specs.Text.{least_lines}
use Rattle.always.proofs.metrics.write_metrics.Goals as goal

pub returns : goal.returns
returns g c =
    let asil = ap (λ (own : Settings). own.asil) c.settings.ensures.value in
    sends_as (λ j. least_lines (asil j) c.args.since (c.open_sums-sums.ensures.sums j)) c.write_both.ensures
