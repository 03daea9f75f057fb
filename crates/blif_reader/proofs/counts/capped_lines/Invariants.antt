use Rattle.std.proofs.Common.{◌≡◌, ◌+◌, ◌≤◌, drop, min}
use Rattle.blif_reader.proofs.LinesBelow.{counted}
use Rattle.blif_reader.proofs.counts.capped_lines.Given as goal

abbrev pub invariant-loop-place : goal.invariant-loop-place
invariant-loop-place l = record {
  within : l.total ≤ l.cap;
  left : min l.cap (l.total + counted l.count (drop l.place l.lines)) ≡ min l.cap (counted l.count l.lines);
}
