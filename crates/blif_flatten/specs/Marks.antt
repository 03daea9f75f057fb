-- A mark for each name of a flattened model.
use Rattle.std.specs.Prelude.{◌≡◌, Bool, true, List, fold, map, slice_set}
use Rattle.fm_base.specs.Names.{is_one_of}
use Rattle.blif_flatten.specs.declared.flat.FlatModel.{FlatModel}
use Rattle.blif_flatten.specs.declared.flat.NameId.{NameId}
use Rattle.blif_flatten.specs.declared.sorts.Sort.{Sort}
use Rattle.blif_flatten.specs.Flat.{all_names}
use Rattle.blif_flatten.specs.Flattened.{flat_steps}
use Rattle.blif_flatten.specs.Sorts.{names_by}

-- whether each name is one of the names of this sort
abbrev pub AreMarksOf : FlatModel → Sort → List Bool → Type 0
AreMarksOf f sort marks = marks ≡ map (is_one_of (names_by sort (flat_steps f))) (all_names (flat_steps f))

-- these numbers are marked
abbrev pub marked : List Bool → List NameId → List Bool
marked marks ids = fold (λ ms id. slice_set ms id.0 true) marks ids
