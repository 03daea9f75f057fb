use Rattle.std.proofs.Common.{◌≡◌, ◌+◌, ◌≤◌, length}
use Rattle.bench_reader.specs.Gather.{gathered_from, no_lines}
use Rattle.bench_reader.specs.LineFault.{line_fault, numbered_lines}
use Rattle.bench_reader.proofs.Reading.{said_from}
use Rattle.bench_reader.proofs.read.gather.Given as goal

abbrev pub invariant-lines : goal.invariant-lines
invariant-lines l = record {
  counted : l.line + length l.rest ≤ 1 + length l.bytes;
  fault : line_fault (said_from l.line l.rest) ≡ line_fault (numbered_lines l.bytes);
  told : gathered_from l.gathered (said_from l.line l.rest) ≡ gathered_from no_lines (numbered_lines l.bytes);
}

abbrev pub decreases-lines : goal.decreases-lines
decreases-lines l = length l.rest
