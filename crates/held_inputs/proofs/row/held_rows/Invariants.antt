use Rattle.std.proofs.Common.{◌≡◌, map, take}
use Rattle.held_inputs.specs.HeldFile.{held_row}
use Rattle.held_inputs.proofs.row.held_rows.Given as goal

abbrev pub invariant-loop-row : goal.invariant-loop-row
invariant-loop-row l = l.held ≡ map (held_row l.net) (take l.row-index l.rows)
