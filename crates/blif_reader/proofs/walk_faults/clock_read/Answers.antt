use Rattle.blif_model.specs.WalkFault.{clock_read}
use Rattle.blif_reader.proofs.walk_faults.clock_read.Goals as goal

pub returns : goal.returns
unfolding clock_read
returns c = c.line_fault.ensures _ c.requires
