use Rattle.std.proofs.Common.{◌∙◌}
use Rattle.fm_base.specs.Lists.{below}
use Rattle.std.specs.Prelude.{position}
use Rattle.rate_table.specs.Table.{matches}
use Rattle.campaign_tables.specs.PartTable.{row_of_net}
use Rattle.campaign_tables.proofs.Looking.{rows_push}
use Rattle.campaign_tables.proofs.look.rows_of_nets.Goals as goal

pub loop-n-init : goal.loop-n-init
unfolding below
loop-n-init c = c.new-rows.ensures.items

pub loop-n-preserved : goal.loop-n-preserved
loop-n-preserved c =
    c.in_ok-push.ensures.items ∙ rows_push (row_of_net c.args.net.now c.args.rates.now) c.loop-n.n c.loop-n.rows.items _ c.loop-n.invariant
    (c.row_of.ensures ∙ (λ j. position (λ pattern. matches pattern (c.name.ensures.value j)) (c.patterns.ensures.value j)))
