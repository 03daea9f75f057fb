use Rattle.std.proofs.Common.{◌++◌}
use Rattle.std.specs.Prelude.{codes}
use Rattle.std.proofs.lemmas.Result.{err_from_is_err_and}
use Rattle.fm_shelf.proofs.Sending.{sends_as, sends_stop, sends_then}
use Rattle.wave_dump.proofs.Writing.{scope_pieces}
use Rattle.wave_dump.proofs.header.write_scope.Goals as goal

pub returns-in_err-write_pieces : goal.returns-in_err-write_pieces
returns-in_err-write_pieces g c =
    let p = err_from_is_err_and c.from_residual.result c.from_residual.ensures.1 in
    rw p.1 (sends_as (scope_pieces c.args.scene.now c.args.scope)
    (sends_stop _ p.0 (sends_as (λ j. codes "$scope module " ++ ((c.scope_name.ensures j) ++ codes " $end\n")) c.in_err-write_pieces.ensures)))

pub returns-in_err-write_wires : goal.returns-in_err-write_wires
returns-in_err-write_wires g c =
    let p = err_from_is_err_and c.from_residual-in_err-write_wires.result c.from_residual-in_err-write_wires.ensures.1 in
    rw p.1 (sends_as (scope_pieces c.args.scene.now c.args.scope)
    (sends_then (sends_as (λ j. codes "$scope module " ++ ((c.scope_name.ensures j) ++ codes " $end\n")) c.in_ok-write_pieces.ensures)
    (sends_stop (codes "$upscope $end\n") p.0 c.in_err-write_wires.ensures)))

pub returns : goal.returns
returns g c =
    sends_as (scope_pieces c.args.scene.now c.args.scope)
    (sends_then (sends_as (λ j. codes "$scope module " ++ ((c.scope_name.ensures j) ++ codes " $end\n")) c.in_ok-write_pieces.ensures)
    (sends_then c.in_ok-write_wires.ensures c.write_all.ensures))
