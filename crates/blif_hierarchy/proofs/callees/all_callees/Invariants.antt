use Rattle.std.proofs.Common.{◌<◌, length, take}
use Rattle.std.specs.Prelude.{All}
use Rattle.blif_model.specs.Grouped.{models_seen}
use Rattle.blif_hierarchy.specs.Callees.{AllCallees}
use Rattle.blif_hierarchy.proofs.callees.all_callees.Given as goal

abbrev pub invariant-loop-model : goal.invariant-loop-model
invariant-loop-model l = record {
  within : All (λ c. All (λ k. k < length l.models) c.items) l.all.items;
  sums : AllCallees l.models (models_seen (take l.model-index l.model-items)) l.all.items;
}
