use Rattle.reading_planes.proofs.Laws.{pairs_plans, pairs_sound}
use Rattle.reading_planes.proofs.law.pairs_give_plans.Goals as goal

pub returns-clause-sound : goal.returns-clause-sound
returns-clause-sound c = pairs_sound

pub returns-clause-plans : goal.returns-clause-plans
returns-clause-plans c = pairs_plans
