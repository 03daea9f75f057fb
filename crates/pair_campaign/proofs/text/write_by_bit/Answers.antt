use Rattle.std.proofs.Common.{[], sym, ap, ◌∙◌}
use Rattle.std.specs.Prelude.{if◌then◌else◌}
use Rattle.fm_shelf.proofs.Sending.{sends_as, sends_none}
use Rattle.pair_list.specs.Chosen.{pair_numbered}
use Rattle.pair_campaign.specs.PairText.{pair_line}
use Rattle.pair_campaign.proofs.text.write_by_bit.Goals as goal

pub returns-then-has_pair_bit : goal.returns-then-has_pair_bit
returns-then-has_pair_bit g c =
    sends_as (sym (ap (λ b. if b then pair_line c.args.plan.now (pair_numbered c.args.pairs.now c.args.pair) else [])
    (sym c.has_pair_bit.ensures ∙ c.if-has_pair_bit.true))) c.write_pair.ensures

pub returns-else-has_pair_bit : goal.returns-else-has_pair_bit
returns-else-has_pair_bit g c =
    sends_as (sym (ap (λ b. if b then pair_line c.args.plan.now (pair_numbered c.args.pairs.now c.args.pair) else [])
    (sym c.has_pair_bit.ensures ∙ c.if-has_pair_bit.false))) (sends_none _)
