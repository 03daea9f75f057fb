use Rattle.std.proofs.Common.{ap, ◌∙◌}
use Rattle.blif_hierarchy.specs.Links.{link_fault}
use Rattle.blif_hierarchy.proofs.Bindings.{link_faults}
use Rattle.blif_hierarchy.proofs.port_faults.link_fault.Goals as goal

pub returns : goal.returns
returns c = c.fault.ensures ∙ ap link_fault c.in_ok-links.ensures ∙ link_faults c.args.models.now
