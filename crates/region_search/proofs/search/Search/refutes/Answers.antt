use Rattle.region_search.proofs.search.Search.refutes.Goals as goal

pub returns-clause-refuted : goal.returns-clause-refuted
returns-clause-refuted c = λ e s bounds q sites goes. c.ends_by_cases.ensures.refuted e s bounds sites (c.refutes_alone.ensures.goes_on s bounds q sites goes)

pub returns-clause-open : goal.returns-clause-open
returns-clause-open c = λ e s bounds q sites goes. c.refutes_alone.ensures.open c.if-refutes_alone.false s bounds q sites goes
