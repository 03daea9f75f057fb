use Rattle.region_search.specs.Going.{sets_of}
use Rattle.region_search.proofs.search.Search.split_at.Goals as goal

pub returns-then-lacks-clause-goes_on : goal.returns-then-lacks-clause-goes_on
returns-then-lacks-clause-goes_on c = λ s bounds sites goes.
    let q = sets_of c.args.self.now.sets in
    c.keep.ensures.goes_on s bounds q sites goes (c.lacks.ensures.none c.if-lacks.true s bounds q sites goes)

pub returns-clause-goes_on : goal.returns-clause-goes_on
returns-clause-goes_on c = λ s bounds sites goes.
    let q = sets_of c.args.self.now.sets in
    c.keep-2.ensures.goes_on s bounds q sites goes (c.lacks-2.ensures.none c.if-not-lacks.false s bounds q sites goes)
