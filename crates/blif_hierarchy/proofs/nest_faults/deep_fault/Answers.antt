use Rattle.std.proofs.Common.{ℕ, ap, ◌∙◌}
use Rattle.std.specs.Prelude.{option_map}
use Rattle.blif_text.specs.declared.NetlistKind.TheVariants.{TooDeep}
use Rattle.blif_model.specs.LineFault.{at_line}
use Rattle.blif_model.specs.Models.{Model, has_nest}
use Rattle.blif_hierarchy.specs.Rounds.{one_if}
use Rattle.blif_hierarchy.proofs.Rings.{deep_lines}
use Rattle.blif_hierarchy.proofs.nest_faults.deep_fault.Goals as goal

pub returns : goal.returns
returns c =
    let nested : Model → ℕ = λ m. one_if (has_nest c.args.models.now 32 m) in
    let line = c.main_line.ensures nested (c.as_slice.ensures.value ∙ c.in_ok-numbers.ensures) in
    c.fault_at.ensures ∙ ap (option_map (λ n. at_line n TooDeep)) line ∙ deep_lines c.args.models.now
