use Rattle.std.proofs.Common.{◌∙◌, ap, length, ◌++◌, ◌∷◌, []}
use Rattle.std.specs.Prelude.{codes, decimal}
use Rattle.fm_base.specs.Text.{line}
use Rattle.class_table.specs.ClassLines.{class_lines}
use Rattle.std.proofs.lemmas.Result.{err_from_is_err_and}
use Rattle.fm_shelf.proofs.Sending.{sends_as, sends_stop, sends_then}
use Rattle.class_table.proofs.table.write_classes.Goals as goal

pub returns-in_err-write_each : goal.returns-in_err-write_each
returns-in_err-write_each g c =
    let p = err_from_is_err_and c.from_residual.result c.from_residual.ensures.1 in
    rw p.1 (sends_stop _ _ c.in_err-write_each.ensures)

pub returns : goal.returns
returns g c =
    let count = c.len-count.ensures.count ∙ ap length c.faults.ensures in
    sends_as (ap (λ n. class_lines c.args.simulator.now ++ line (codes "end" ∷ decimal n ∷ [])) count) (sends_then c.in_ok-write_each.ensures c.write_end.ensures)
