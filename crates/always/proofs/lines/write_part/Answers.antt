use Rattle.std.proofs.Common.{◌∙◌}
use Rattle.fm_shelf.proofs.Sending.{sends_as}
use Rattle.always.specs.Steps.{part_by}
use Rattle.always.specs.Verdict.{verdict_at}
use Rattle.always.proofs.Telling.{part_is}
use Rattle.always.proofs.lines.write_part.Goals as goal

pub returns : goal.returns
returns g c =
    sends_as
    ((λ j. part_by (c.part.ensures j) c.args.answer (c.tally_part-tally.ensures j))
    ∙ part_is c.args.plan.now (verdict_at c.args.plan.now c.args.from c.args.answers.now) c.args.answer c.args.number)
    c.write_numbers.ensures
