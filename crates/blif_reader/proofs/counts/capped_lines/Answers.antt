use Rattle.std.proofs.Common.{arith}
use Rattle.std.proofs.lemmas.List.{drop_all, take_rest}
use Rattle.blif_model.specs.Models.{items_of}
use Rattle.blif_reader.proofs.LinesBelow.{count_step}
use Rattle.blif_reader.proofs.counts.capped_lines.Goals as goal

pub loop-place-preserved : goal.loop-place-preserved
loop-place-preserved c =
    let step = count_step c.args.count c.args.lines.now c.loop-place.place _ c.says.result c.loop-place-test.true c.index-lines-place.is c.says.ensures in
    let own = rw take_rest at c.line_count-own.ensures in
    record { within = omega arith; left = omega arith }

pub returns : goal.returns
unfolding items_of
returns c = let left = rw (drop_all c.loop-place.place c.args.lines.now c.loop-place-test.false) at c.loop-place.invariant.left in omega arith
