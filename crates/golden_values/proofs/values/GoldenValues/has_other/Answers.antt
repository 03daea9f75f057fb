use Rattle.std.proofs.Common.{◌∙◌}
use Rattle.golden_values.proofs.Exciting.{seen_other}
use Rattle.golden_values.proofs.values.GoldenValues.has_other.Goals as goal

pub returns : goal.returns
returns c = λ circuit runs has net. c.has.ensures ∙ seen_other circuit runs c.args.self.now has c.args.net net c.args.value
