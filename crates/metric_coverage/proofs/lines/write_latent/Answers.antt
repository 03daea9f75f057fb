use Rattle.std.proofs.Common.{◌∙◌, Bool, [], ap, sym}
use Rattle.std.specs.Prelude.{not, if◌then◌else◌}
use Rattle.fm_shelf.proofs.Sending.{sends_as, sends_none}
use Rattle.metric_coverage.specs.Text.{classes_line}
use Rattle.metric_coverage.proofs.lines.write_latent.Goals as goal

pub returns-then-is_mechanism : goal.returns-then-is_mechanism
returns-then-is_mechanism g c =
    sends_as (ap (λ (b : Bool). if not b then [] else classes_line c.args.part.now c.args.weights.now) (sym c.if-is_mechanism.true ∙ c.is_mechanism.ensures)) c.write_classes.ensures

pub returns-else-is_mechanism : goal.returns-else-is_mechanism
returns-else-is_mechanism g c =
    sends_as (ap (λ (b : Bool). if not b then [] else classes_line c.args.part.now c.args.weights.now) (sym c.if-is_mechanism.false ∙ c.is_mechanism.ensures)) (sends_none _)
