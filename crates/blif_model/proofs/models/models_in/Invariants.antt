use Rattle.std.proofs.Common.{◌≡◌, ◌++◌, length}
use Rattle.blif_model.specs.Models.{models_of}
use Rattle.blif_model.specs.Grouped.{models_seen}
use Rattle.blif_model.proofs.models.models_in.Given as goal

abbrev pub invariant-lines : goal.invariant-lines
invariant-lines l = models_seen l.models.items ++ models_of l.rest ≡ models_of l.lines

abbrev pub decreases-lines : goal.decreases-lines
decreases-lines l = length l.rest
