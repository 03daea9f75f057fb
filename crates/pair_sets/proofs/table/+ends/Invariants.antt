use Rattle.std.proofs.Common.{◌+◌, ◌*◌, length}
use Rattle.pair_sets.proofs.table.+ends.Given as goal

abbrev pub decreases-has_end : goal.decreases-has_end
decreases-has_end l = 2 * length l.sets.now

abbrev pub decreases-ends_with : goal.decreases-ends_with
decreases-ends_with l = 2 * length l.rest.now + 1
