use Rattle.std.proofs.Common.{◌≡◌, map, take}
use Rattle.fm_base.specs.Names.{has_repeat}
use Rattle.blif_model.specs.Meant.{bindings_of}
use Rattle.blif_model.specs.Tokens.{texts_of}
use Rattle.blif_hierarchy.specs.Ports.{once}
use Rattle.blif_hierarchy.proofs.ports.bound_names.Given as goal

abbrev pub invariant-loop-binding : goal.invariant-loop-binding
invariant-loop-binding l = record {
  formals : l.bound.formals ≡ once (map (λ binding. binding.formal) (bindings_of (texts_of (take l.binding-index l.bindings))));
  twice : l.bound.is_twice ≡ has_repeat (map (λ binding. binding.formal) (bindings_of (texts_of (take l.binding-index l.bindings))));
}
