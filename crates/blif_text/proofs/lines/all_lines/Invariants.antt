use Rattle.std.proofs.Common.{◌≡◌, ◌+◌, ◌<◌, ◌≤◌, ◌^◌, length}
use Rattle.std.specs.List.{enumerate_from}
use Rattle.blif_text.specs.Lines.{is_feed}
use Rattle.blif_text.specs.Placed.{pieces, placed_lines}
use Rattle.blif_text.specs.Read.{line_of, lines_seen}
use Rattle.blif_text.specs.Left.{lines_left}
use Rattle.blif_text.proofs.lines.all_lines.Given as goal

abbrev pub invariant-lines : goal.invariant-lines
invariant-lines l = record {
  in_file : l.place + length l.rest < 2 ^ 31;
  counted : l.number + length l.rest ≤ 2 ^ 31;
  told : lines_left (lines_seen l.done.items) (line_of l.line) (enumerate_from l.number (pieces is_feed l.place l.rest)) ≡ placed_lines l.bytes;
}

abbrev pub decreases-lines : goal.decreases-lines
decreases-lines l = length l.rest
