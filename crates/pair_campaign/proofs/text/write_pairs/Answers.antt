use Rattle.std.proofs.Common.{ap}
use Rattle.std.specs.Prelude.{count_by}
use Rattle.std.specs.List.{flat_map}
use Rattle.std.proofs.lemmas.Result.{err_from_is_err_and}
use Rattle.fm_base.specs.Lists.{below}
use Rattle.fm_shelf.proofs.Sending.{sends_as, sends_stop, sends_then}
use Rattle.pair_list.specs.Chosen.{pair_count}
use Rattle.pair_campaign.specs.PairPlanes.{pair_bit}
use Rattle.pair_campaign.specs.PairText.{line_by_bit, pairs_line, text_by_planes}
use Rattle.pair_campaign.proofs.text.write_pairs.Goals as goal

pub returns-in_err-write_dangerous : goal.returns-in_err-write_dangerous
unfolding text_by_planes
returns-in_err-write_dangerous g c =
    let p = err_from_is_err_and c.from_residual.result c.from_residual.ensures.1 in
    let plan = c.args.plan.now in
    let pairs = c.args.pairs.now in
    rw p.1 (sends_stop (pairs_line (pair_count pairs) (count_by (pair_bit c.args.planes.now) (below (pair_count pairs)))) p.0
    (sends_as (ap (λ planes. flat_map (line_by_bit plan pairs planes) (below (pair_count pairs))) c.as_slice.ensures) c.in_err-write_dangerous.ensures))

pub returns : goal.returns
unfolding text_by_planes
returns g c =
    let plan = c.args.plan.now in
    let pairs = c.args.pairs.now in
    sends_then
    (sends_as (ap (λ planes. flat_map (line_by_bit plan pairs planes) (below (pair_count pairs))) c.as_slice.ensures) c.in_ok-write_dangerous.ensures)
    (sends_as (ap (λ planes. pairs_line (pair_count pairs) (count_by (pair_bit planes) (below (pair_count pairs)))) c.as_slice-2.ensures) c.write_numbers.ensures)
