use Rattle.std.proofs.Common.{◌≤◌, ◌^◌, length}
use Rattle.circuit.specs.Circuit.{Circuit}
use Rattle.fm_base.specs.Names.{Bytes}
use Rattle.alarm_points.specs.Listed.{IsHalfway}
use Rattle.alarm_points.proofs.file.list_rows.Given as goal

-- nets and rows stay few, and none of the rows so far has a fault
abbrev pub invariant-each : goal.invariant-each
invariant-each l =
    (length l.listed.nets ≤ 2 ^ 18) × (length l.listed.rows ≤ 1024)
    × ((c : Circuit) (bytes : Bytes) → IsHalfway c bytes l.initial.listed l.initial.rows → IsHalfway c bytes l.listed l.rows)

abbrev pub decreases-each : goal.decreases-each
decreases-each l = length l.rows
