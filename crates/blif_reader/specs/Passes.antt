-- TwoDrivers by numbers: what is driven is marked, as the clock names are from the start.
use Rattle.std.specs.Prelude.{◌≡◌, Bool, true, false, not, ◌||◌, List, [], ◌∷◌, ◌++◌, filter, map, slice_index_or, slice_set}
use Rattle.fm_base.specs.Names.{Name, is_one_of}
use Rattle.blif_model.specs.Walk.{Step, Visit, clock_names, drives_of}
use Rattle.blif_model.specs.WalkSteps.{is_clock}
use Rattle.blif_flatten.specs.declared.flat.FlatModel.{FlatModel}
use Rattle.blif_flatten.specs.declared.flat.NameId.{NameId}
use Rattle.blif_flatten.specs.declared.flat.NumberedAct.{NumberedAct}
use Rattle.blif_flatten.specs.declared.flat.NumberedAct.TheVariants.{Inputs, Table, Latch}
use Rattle.blif_flatten.specs.Flat.{all_names}
use Rattle.blif_flatten.specs.Flattened.{flat_steps}

-- the numbers without those of clock names
abbrev pub unmarked : List Bool → List NameId → List NameId
unmarked clocks ids = filter (λ id. not (slice_index_or clocks id.0 false)) ids

-- what a line drives, inputs that are clock names aside
abbrev pub driven_ids : List Bool → NumberedAct → List NameId
driven_ids clocks (Inputs ids) = unmarked clocks ids
driven_ids clocks (Table t) = t.out ∷ []
driven_ids clocks (Latch l) = l.to ∷ []
driven_ids clocks _ = []

-- one of these numbers is marked, or stands twice
abbrev pub drives_twice : List Bool → List NameId → Bool
drives_twice marks [] = false
drives_twice marks (id ∷ ids) = slice_index_or marks id.0 false || drives_twice (slice_set marks id.0 true) ids

-- the clock names, and the names that are driven
abbrev pub settled : List Step → List Visit → List Name
settled steps drives = clock_names steps ++ map (λ d. d.name) drives

-- which names are clock names
abbrev pub AreClockMarks : FlatModel → List Bool → Type 0
AreClockMarks f marks = marks ≡ map (is_clock (flat_steps f)) (all_names (flat_steps f))

-- which names are clock names or driven
abbrev pub AreSettledMarks : FlatModel → List Bool → Type 0
AreSettledMarks f marks = marks ≡ map (is_one_of (settled (flat_steps f) (drives_of (flat_steps f)))) (all_names (flat_steps f))
