use Rattle.std.proofs.lemmas.Result.{err_from_is_err_and}
use Rattle.fm_shelf.specs.Spaces.{with_space}
use Rattle.fm_shelf.proofs.Sending.{sends_none, sends_more, sends_torn}
use Rattle.fm_shelf.proofs.lines.write_words.Goals as goal

pub loop-word-init : goal.loop-word-init
loop-word-init g c = sends_none _

pub loop-word-preserved : goal.loop-word-preserved
loop-word-preserved g c =
    let wrote = c.in_ok-write_pieces.ensures in
    sends_more with_space c.args.words.now c.loop-word.word-index _ c.loop-word-test.true c.loop-word.invariant
    wrote

pub returns-in_err-write_pieces : goal.returns-in_err-write_pieces
returns-in_err-write_pieces g c =
    let p = err_from_is_err_and c.from_residual.result c.from_residual.ensures.1 in
    let wrote = c.in_err-write_pieces.ensures in
    rw p.1 (sends_torn with_space c.args.words.now c.loop-word.word-index _ c.loop-word-test.true p.0 c.loop-word.invariant
    wrote)
