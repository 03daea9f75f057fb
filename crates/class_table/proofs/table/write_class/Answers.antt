use Rattle.std.proofs.Common.{◌∙◌, ap, refl}
use Rattle.std.proofs.lemmas.Result.{err_from_is_err_and}
use Rattle.metric_sums.specs.Words.{class_word}
use Rattle.fm_shelf.proofs.Sending.{sends_as, sends_stop, sends_then}
use Rattle.class_table.proofs.ClassLines.{class_pieces}
use Rattle.class_table.proofs.table.write_class.Goals as goal

pub returns-in_err-write_name : goal.returns-in_err-write_name
returns-in_err-write_name g c =
    let p = err_from_is_err_and c.from_residual.result c.from_residual.ensures.1 in
    rw p.1 (sends_as (class_pieces c.args.net.now c.args.faults.now c.args.planes c.args.i _ refl) (sends_stop _ _ c.in_err-write_name.ensures))

pub returns : goal.returns
returns g c =
    sends_as (class_pieces c.args.net.now c.args.faults.now c.args.planes c.args.i c.class_word.result.now (c.class_word.ensures ∙ ap class_word c.class_in.ensures))
    (sends_then {v = tt} c.in_ok-write_name.ensures c.write_pieces.ensures)
