use Rattle.std.proofs.Common.{ap, ◌∙◌}
use Rattle.std.specs.Prelude.{option_map}
use Rattle.blif_text.specs.declared.NetlistKind.TheVariants.{Recursive}
use Rattle.blif_model.specs.LineFault.{at_line}
use Rattle.blif_hierarchy.proofs.Rings.{ring_lines}
use Rattle.blif_hierarchy.proofs.nest_faults.ring_fault.Goals as goal

pub returns : goal.returns
returns c =
    let rings = ring_lines c.args.models.now c.args.callees.now c.requires.callees c.requires.within
    c.in_ok-numbers.numbers.items c.in_ok-numbers.ensures c.requires.apart in
    let line = c.ring_line.ensures rings.0 (c.as_slice.ensures.value ∙ rings.1) in
    c.fault_at.ensures ∙ ap (option_map (λ n. at_line n Recursive)) line ∙ rings.2
