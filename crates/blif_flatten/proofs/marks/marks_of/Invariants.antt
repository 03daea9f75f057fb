use Rattle.std.proofs.Common.{◌≡◌, map, take}
use Rattle.fm_base.specs.Names.{is_one_of}
use Rattle.blif_flatten.specs.Flat.{steps_by}
use Rattle.blif_flatten.specs.Sorts.{names_by}
use Rattle.blif_flatten.proofs.marks.marks_of.Given as goal

abbrev pub invariant-loop-step : goal.invariant-loop-step
invariant-loop-step l =
    l.marks.items ≡ map (is_one_of (names_by l.sort (steps_by l.flat.names (take l.step-index l.flat.steps.items)))) l.flat.names
