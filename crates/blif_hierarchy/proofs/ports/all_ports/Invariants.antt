use Rattle.std.proofs.Common.{◌≡◌, map, take}
use Rattle.blif_model.specs.Grouped.{models_seen}
use Rattle.blif_hierarchy.specs.Ports.{ports_of}
use Rattle.blif_hierarchy.proofs.ports.all_ports.Given as goal

abbrev pub invariant-loop-model : goal.invariant-loop-model
invariant-loop-model l = l.all.items ≡ map ports_of (models_seen (take l.model-index l.models))
