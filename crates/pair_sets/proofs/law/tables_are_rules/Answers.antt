use Rattle.pair_sets.proofs.Nets.{complete, sound}
use Rattle.pair_sets.proofs.law.tables_are_rules.Goals as goal

pub returns-clause-sound : goal.returns-clause-sound
returns-clause-sound c = sound

pub returns-clause-complete : goal.returns-clause-complete
returns-clause-complete c = complete
