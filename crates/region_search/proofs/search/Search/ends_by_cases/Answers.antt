use Rattle.coverage_claim.specs.Rules.{only, this_pair}
use Rattle.region_search.proofs.Refuting.{none_have}
use Rattle.region_search.specs.Going.{sets_of}
use Rattle.region_search.proofs.search.Search.ends_by_cases.Goals as goal

pub returns-clause-refuted : goal.returns-clause-refuted
returns-clause-refuted c = λ e s bounds sites goes.
    let pair = c.args.pair in
    let ended = c.split_all.ensures.goes_on s (only bounds pair.frame pair.net.0 (this_pair pair.golden pair.faulty)) sites goes in
    none_have s bounds (sets_of c.split_all.new.self.sets) pair.frame pair.net.0 pair.golden pair.faulty ended.going.search.holds (ended.going.noted.none e)
