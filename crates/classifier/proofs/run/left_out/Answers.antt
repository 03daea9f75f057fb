use Rattle.std.proofs.Common.{ap, sym, ◌∙◌}
use Rattle.fm_base.proofs.Bits.{bit_of_and}
use Rattle.classifier.specs.Seen.{is_decided}
use Rattle.classifier.proofs.run.left_out.Goals as goal

pub returns-in-Mission : goal.returns-in-Mission
returns-in-Mission c = λ k. bit_of_and c.args.decided.danger c.args.decided.notice k ∙ ap (λ kind. is_decided kind c.args.decided k) (sym c.in-Mission.is)
