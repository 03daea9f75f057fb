use Rattle.region_search.proofs.Places.{all_sets}
use Rattle.region_search.proofs.frames.FrameSets.new.Goals as goal

pub returns-clause-all : goal.returns-clause-all
returns-clause-all c = all_sets c.args.nets c.args.frames c.in_ok-sets.sets.items c.in_ok-sets.ensures.items
