use Rattle.std.proofs.Common.{◌≡◌, ◌<◌, ap, arith}
use Rattle.std.specs.List.{flat_map}
use Rattle.std.proofs.lemmas.Result.{err_from_is_err_and}
use Rattle.fm_base.specs.Lists.{below}
use Rattle.fm_shelf.proofs.Sending.{sends_as, sends_no_number, sends_number, sends_number_torn}
use Rattle.pair_list.specs.Chosen.{pair_count}
use Rattle.pair_campaign.specs.PairText.{line_by_bit}
use Rattle.pair_campaign.proofs.text.write_dangerous.Goals as goal

pub loop-pair-init : goal.loop-pair-init
loop-pair-init g c = sends_no_number (line_by_bit c.args.plan.now c.args.pairs.now c.args.planes.now) _

pub loop-pair-preserved : goal.loop-pair-preserved
loop-pair-preserved g c =
    sends_number (line_by_bit c.args.plan.now c.args.pairs.now c.args.planes.now) c.loop-pair.pair c.loop-pair.invariant c.in_ok-write_by_bit.ensures

pub returns-in_err-write_by_bit : goal.returns-in_err-write_by_bit
returns-in_err-write_by_bit g c =
    let p = err_from_is_err_and c.from_residual.result c.from_residual.ensures.1 in
    let pairs = c.args.pairs.now in
    let lt : c.loop-pair.pair < pair_count pairs = omega (arith, c.count-pair-end.ensures, c.loop-pair-test.true) in
    rw p.1 (sends_number_torn (line_by_bit c.args.plan.now pairs c.args.planes.now) (pair_count pairs) c.loop-pair.pair p.0 lt c.loop-pair.invariant c.in_err-write_by_bit.ensures)

pub returns : goal.returns
returns g c =
    let pairs = c.args.pairs.now in
    let end : c.loop-pair.pair ≡ pair_count pairs = omega (arith, c.count-pair-end.ensures, c.loop-pair-test.false, c.loop-pair.auto.pair-end) in
    sends_as (ap (λ n. flat_map (line_by_bit c.args.plan.now pairs c.args.planes.now) (below n)) end) c.loop-pair.invariant
