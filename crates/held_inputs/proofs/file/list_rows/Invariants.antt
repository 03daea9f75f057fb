use Rattle.std.proofs.Common.{◌≤◌, length}
use Rattle.fm_base.specs.Names.{Bytes}
use Rattle.held_inputs.specs.Steps.{IsHalfway}
use Rattle.held_inputs.proofs.file.list_rows.Given as goal

-- rows stay few, and none of those so far has a fault
abbrev pub invariant-each : goal.invariant-each
invariant-each l = (length l.listed ≤ 1024) × ((bytes : Bytes) → IsHalfway l.net bytes l.initial.listed l.initial.rows → IsHalfway l.net bytes l.listed l.rows)

abbrev pub decreases-each : goal.decreases-each
decreases-each l = length l.rows
