use Rattle.std.proofs.Common.{sym, ◌++◌, ◌∷◌, []}
use Rattle.std.proofs.lemmas.Result.{err_from_is_err_and}
use Rattle.fm_shelf.proofs.Sending.{sends_as, sends_stop, sends_then}
use Rattle.fm_shelf.proofs.Spacing.{line_parts}
use Rattle.fm_shelf.proofs.lines.write_line.Goals as goal

pub returns-in_err-write_words : goal.returns-in_err-write_words
returns-in_err-write_words g c =
    let p = err_from_is_err_and c.from_residual.result c.from_residual.ensures.1 in
    let e = line_parts c.args.words.now c.in-Some.words.now c.in-Some.last.now c.in-Some.ensures.cases.0 in
    rw p.1 (sends_as (sym e) (sends_stop (c.in-Some.last.now.now ++ 10 ∷ []) p.0 c.in_err-write_words.ensures))

pub returns : goal.returns
returns g c =
    let e = line_parts c.args.words.now c.in-Some.words.now c.in-Some.last.now c.in-Some.ensures.cases.0 in
    let wrote = c.write_pieces.ensures in
    sends_as (sym e) (sends_then c.in_ok-write_words.ensures
    wrote)
