use Rattle.std.proofs.Common.{◌≡◌}
use Rattle.blif_model.specs.ModelFault.{two_models}
use Rattle.blif_hierarchy.proofs.SecondNames.{names_to, second_from}
use Rattle.blif_hierarchy.proofs.port_faults.two_models.Given as goal

abbrev pub invariant-loop-model : goal.invariant-loop-model
invariant-loop-model l = record {
  names : l.names ≡ names_to l.model-items l.model-index;
  left : second_from l.model-items l.model-index ≡ two_models l.models;
}
