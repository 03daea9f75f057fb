use Rattle.std.proofs.Common.{◌∙◌, ap}
use Rattle.std.specs.Prelude.{Some}
use Rattle.fm_base.specs.Names.{Name}
use Rattle.blif_text.specs.declared.NetlistKind.TheVariants.{Undriven}
use Rattle.blif_model.specs.LineFault.{at_line}
use Rattle.blif_flatten.specs.Flattened.{flat_steps}
use Rattle.blif_reader.proofs.Faults.{undriven-net}
use Rattle.blif_reader.proofs.walk_faults.undriven.Goals as goal

pub returns-in_ok-name-in-Some : goal.returns-in_ok-name-in-Some
returns-in_ok-name-in-Some c =
    ap (λ (name : Name). Some (at_line c.in-Some.found.line (Undriven name))) (c.in_ok-name-in-Some.ensures ∙ c.name.ensures)
    ∙ undriven-net (flat_steps c.args.flat.now) _ (c.in-Some.ensures.visit _ c.requires)

pub returns-in-None : goal.returns-in-None
returns-in-None c = undriven-net (flat_steps c.args.flat.now) _ (c.in-None.ensures.visit _ c.requires)
