use Rattle.std.proofs.Common.{◌+◌, sym, ◌∙◌}
use Rattle.std.specs.List.{enumerate_from}
use Rattle.blif_text.specs.Placed.{placed_joined}
use Rattle.blif_text.specs.Read.{line_of, lines_seen, pieces_of}
use Rattle.blif_text.proofs.Cuts.{left_joined, left_ended, left_new}
use Rattle.blif_text.proofs.lines.take_line.Goals as goal

pub returns-then-is_joined : goal.returns-then-is_joined
returns-then-is_joined c = λ ps.
    left_joined (lines_seen c.args.done.now.items) (line_of c.args.line) c.args.number
    (record { start = c.args.place; text = c.args.text.now }) (enumerate_from (c.args.number + 1) ps) _
    (sym c.ink_of-is_joined.ensures.joined ∙ c.if-is_joined.true) (cc (c.in_ok-put_tokens.ensures, c.ink_of-is_joined.ensures.ink))

pub returns : goal.returns
returns c = λ ps.
    left_ended (lines_seen c.args.done.now.items) (line_of c.args.line) c.args.number
    (record { start = c.args.place; text = c.args.text.now }) (enumerate_from (c.args.number + 1) ps)
    (record { number = c.args.line.number; tokens = pieces_of c.put_tokens.new.tokens.items })
    (sym c.ink_of-is_joined.ensures.joined ∙ c.if-is_joined.false) (cc (c.in_ok-put_tokens.ensures, c.ink_of-is_joined.ensures.ink))
    ∙ sym (c.in_ok-put_line.ensures (placed_joined (enumerate_from (c.args.number + 1) ps)))
    ∙ sym (left_new (lines_seen c.put_line.new.done.items) (line_of c.new_line.result) (c.args.number + 1) ps c.new_line.ensures)
