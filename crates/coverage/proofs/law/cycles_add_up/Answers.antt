use Rattle.coverage.proofs.Cycles.{cycles_add_up, each_upset_is_tried, tried_are_among_all}
use Rattle.coverage.proofs.Transient.{cycles_are_transient}
use Rattle.coverage.proofs.law.cycles_add_up.Goals as goal

pub returns-clause-sums : goal.returns-clause-sums
returns-clause-sums c = cycles_add_up

pub returns-clause-transient : goal.returns-clause-transient
returns-clause-transient c = cycles_are_transient c.evidence_is_of_danger.ensures.harm

pub returns-clause-within : goal.returns-clause-within
returns-clause-within c = tried_are_among_all

pub returns-clause-each : goal.returns-clause-each
returns-clause-each c = each_upset_is_tried
