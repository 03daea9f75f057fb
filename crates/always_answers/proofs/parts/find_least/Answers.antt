use Rattle.std.proofs.Common.{◌+◌, arith}
use Rattle.always_answers.proofs.Bounded.{few_waiting}
use Rattle.always_answers.proofs.parts.find_least.Goals as goal

pub shorter-requires-clause-few : goal.shorter-requires-clause-few
shorter-requires-clause-few c =
    let frames = c.requires.frames in
    few_waiting c.args.searched.now c.requires.searched (c.args.posed.now.window + c.args.posed.now.ahead + 1) (omega (arith, frames))
