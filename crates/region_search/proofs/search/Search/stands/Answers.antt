use Rattle.std.proofs.Common.{◌∙◌, arith}
use Rattle.fm_base.proofs.Tests.{both_true, clash, false_of, not_not, not_true}
use Rattle.pair_sets.specs.Pairs.{has}
use Rattle.region_search.proofs.Standing.{not_there}
use Rattle.region_search.specs.Going.{sets_of}
use Rattle.region_search.proofs.search.Search.stands.Goals as goal

pub returns-then-not-has-clause-none : goal.returns-then-not-has-clause-none
returns-then-not-has-clause-none c = λ _ among s bounds q sites goes.
    let pair = c.args.pair in
    not_there s bounds (sets_of c.args.self.now.sets) pair.frame pair.net.0 pair.golden pair.faulty goes.going.search.holds (omega (arith, c.requires.frame, goes.frames))
    (false_of (sets_of c.args.self.now.sets pair.frame pair.net.0 pair.golden pair.faulty) (λ e.
    clash c.has.result (c.has.ensures ∙ c.and-here.ensures pair.golden pair.faulty
    ∙ both_true (has c.get.result pair.golden pair.faulty) (has c.args.pairs pair.golden pair.faulty) (c.get.ensures pair.golden pair.faulty ∙ e) among) c.if-not-has.true))

pub returns-clause-none : goal.returns-clause-none
returns-clause-none c = λ e _ s bounds q sites goes. c.refutes.ensures.refuted (not_not c.refutes.result e) s bounds q sites goes

pub returns-clause-open : goal.returns-clause-open
returns-clause-open c = λ e s bounds q sites goes. c.refutes.ensures.open (not_true c.refutes.result e) s bounds q sites goes
