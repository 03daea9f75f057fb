use Rattle.std.proofs.Common.{◌≡◌, fold, take}
use Rattle.blif_model.specs.Grouped.{models_seen}
use Rattle.blif_model.specs.Models.{instances}
use Rattle.blif_hierarchy.specs.Links.{no_links, with_instances}
use Rattle.blif_hierarchy.proofs.links.file_links.Given as goal

abbrev pub invariant-loop-model : goal.invariant-loop-model
invariant-loop-model l =
    l.links ≡ fold (λ first m. with_instances l.models first (instances m)) no_links (models_seen (take l.model-index l.model-items))
