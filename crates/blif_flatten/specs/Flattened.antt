-- The steps that a flattened model stands for.
use Rattle.std.specs.Prelude.{List}
use Rattle.blif_model.specs.Walk.{Step}
use Rattle.blif_flatten.specs.declared.flat.FlatModel.{FlatModel}
use Rattle.blif_flatten.specs.Flat.{steps_by}

abbrev pub flat_steps : FlatModel → List Step
flat_steps f = steps_by f.names f.steps.items
