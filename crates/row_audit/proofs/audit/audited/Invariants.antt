use Rattle.std.proofs.Common.{◌≡◌, ◌+◌, ◌≤◌, length, drop}
use Rattle.row_audit.specs.Audited.{each_nth, each_nth_from}
use Rattle.row_audit.proofs.audit.audited.Given as goal

-- those so far, and those to come
abbrev pub invariant-loop-number : goal.invariant-loop-number
invariant-loop-number l = record {
  few : l.count ≤ l.number;
  whole : l.count + length (each_nth_from l.every l.number (drop l.number l.rows)) ≡ length (each_nth l.every l.rows);
}
