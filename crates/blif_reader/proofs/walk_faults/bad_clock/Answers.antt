use Rattle.std.proofs.Common.{◌∙◌}
use Rattle.blif_model.specs.WalkFault.{bad_clock}
use Rattle.blif_flatten.specs.Sorts.{names_by}
use Rattle.blif_reader.proofs.walk_faults.bad_clock.Goals as goal

pub returns : goal.returns
unfolding bad_clock names_by
returns c = c.line_fault.ensures _ (c.as_slice.ensures.value ∙ c.in_ok-inputs.ensures)
