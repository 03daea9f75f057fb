use Rattle.blif_reader.proofs.FlatSteps.{step_is}
use Rattle.blif_reader.proofs.steps.step_at.Goals as goal

pub returns : goal.returns
returns c = step_is c.args.flat.now c.args.place c.index.result.now c.requires c.index.ensures
