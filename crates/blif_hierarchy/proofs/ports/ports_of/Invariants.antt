use Rattle.std.proofs.Common.{◌≡◌, flat_map, take}
use Rattle.blif_model.specs.ModelSteps.{formal_names, port_names}
use Rattle.blif_hierarchy.specs.Ports.{once}
use Rattle.blif_hierarchy.proofs.ports.ports_of.Given as goal

abbrev pub invariant-loop-line : goal.invariant-loop-line
invariant-loop-line l = record {
  formals : l.ports.formals ≡ once (flat_map (λ line. port_names line.says) (take l.line-index l.lines));
  inputs : l.ports.inputs ≡ once (flat_map (λ line. formal_names line.says) (take l.line-index l.lines));
}
