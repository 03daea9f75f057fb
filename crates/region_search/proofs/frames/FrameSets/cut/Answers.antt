use Rattle.std.proofs.Common.{arith}
use Rattle.region_search.proofs.Counting.{cut_goes}
use Rattle.region_search.proofs.Places.{cut_sets}
use Rattle.region_search.proofs.frames.FrameSets.cut.Goals as goal

pub returns-clause-sets : goal.returns-clause-sets
returns-clause-sets c =
    cut_sets c.args.self.now.nets c.args.self.now.frames c.args.self.now.sets.items c.args.frame c.args.net.0 c.place-at.result c.args.to c.and.result c.index-old.result.now
    c.args.self.now.sized c.requires.frame c.requires.net c.place-at.ensures.value c.index-old.ensures c.and.ensures

pub returns-clause-goes : goal.returns-clause-goes
returns-clause-goes c = λ _.
    cut_goes c.args.self.now.sets.items c.place-at.result c.args.to c.and.result c.index-old.result.now
    (omega (arith, c.place-at.ensures.inside, c.args.self.now.sized)) c.index-old.ensures c.and.ensures c.is_inside.result c.is_inside.ensures.value c.if-is_inside.false
