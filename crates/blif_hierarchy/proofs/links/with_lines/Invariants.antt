use Rattle.std.proofs.Common.{◌≡◌, filter_map, take}
use Rattle.blif_hierarchy.specs.Lines.{instance_at}
use Rattle.blif_hierarchy.specs.Links.{with_instances}
use Rattle.blif_hierarchy.proofs.links.with_lines.Given as goal

abbrev pub invariant-loop-line : goal.invariant-loop-line
invariant-loop-line l = l.links ≡ with_instances l.models l.fn.first (filter_map instance_at (take l.line-index l.lines))
