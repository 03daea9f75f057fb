use Rattle.std.proofs.Common.{[], sym, ◌∙◌, arith}
use Rattle.std.proofs.lemmas.List.{append-nil}
use Rattle.blif_text.specs.Lines.{is_feed}
use Rattle.blif_text.specs.Placed.{placed_lines, pieces}
use Rattle.blif_text.specs.Read.{line_of, lines_seen}
use Rattle.blif_text.proofs.Cuts.{left_last, left_new, pieces_last}
use Rattle.blif_text.proofs.lines.all_lines.Goals as goal

pub lines-init : goal.lines-init
unfolding placed_lines
lines-init c =
    let told = left_new [] (line_of c.new_line-line.result) 1 (pieces is_feed 0 c.args.bytes.now) c.new_line-line.ensures in
    record { in_file = omega arith; counted = omega arith; told = rw c.new-done.ensures.items told }

pub returns-then-n-rest : goal.returns-then-n-rest
returns-then-n-rest c =
    let last = pieces_last is_feed c.lines.place c.lines.rest.now c.feed_place-n.result c.feed_place-n.ensures.place c.if-n-rest.true in
    sym (append-nil (lines_seen c.put_line.new.done.items)) ∙ c.in_ok-put_line.ensures []
    ∙ sym (left_last (lines_seen c.take_line.new.done.items) (line_of c.in_ok-line.line))
    ∙ sym (c.in_ok-line.ensures []) ∙ (rw last at c.lines.invariant.told)
