use Rattle.std.proofs.Common.{arith}
use Rattle.pair_sets.specs.Pairs.{has}
use Rattle.region_search.proofs.Latches.{latch_settled, may_first, may_second}
use Rattle.region_search.specs.Going.{sets_of}
use Rattle.region_search.proofs.search.Search.narrow_latch.Goals as goal

pub returns-clause-settled : goal.returns-clause-settled
returns-clause-settled c = λ s region.
    latch_settled s (sets_of c.args.self.now.sets) (sets_of c.narrow.new.self.sets) (sets_of c.narrow-2.new.self.sets) c.args.frame c.args.latch c.args.site
    (has c.get-to.result) (has c.get-from.result) (has c.driving.result) (has c.shown.result) region c.get-to.ensures c.driving.ensures c.narrow.ensures.sets c.get-from.ensures c.shown.ensures
    c.narrow-2.ensures.sets

pub returns-clause-goes_on : goal.returns-clause-goes_on
returns-clause-goes_on c = λ s bounds l region at goes.
    c.narrow-2.ensures.goes_on s bounds (sets_of c.args.self.now.sets)
    (c.narrow.ensures.goes_on s bounds (sets_of c.args.self.now.sets) goes
    (may_first s (sets_of c.args.self.now.sets) (sets_of c.narrow.new.self.sets) (sets_of c.narrow-2.new.self.sets) c.args.frame c.args.latch c.args.site
    (has c.get-to.result) (has c.get-from.result) (has c.driving.result) (has c.shown.result) region c.get-to.ensures c.driving.ensures c.narrow.ensures.sets c.get-from.ensures c.shown.ensures
    c.narrow-2.ensures.sets l (omega (arith, goes.frames, c.requires.frame)) at))
    (may_second s (sets_of c.args.self.now.sets) (sets_of c.narrow.new.self.sets) (sets_of c.narrow-2.new.self.sets) c.args.frame c.args.latch c.args.site
    (has c.get-to.result) (has c.get-from.result) (has c.driving.result) (has c.shown.result) region c.get-to.ensures c.driving.ensures c.narrow.ensures.sets c.get-from.ensures c.shown.ensures
    c.narrow-2.ensures.sets l (omega (arith, goes.frames, c.requires.frame)) at)
