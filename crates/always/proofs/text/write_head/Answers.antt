use Rattle.std.proofs.Common.{ap}
use Rattle.std.proofs.lemmas.Result.{err_from_is_err_and}
use Rattle.circuit.specs.Circuit.{Circuit}
use Rattle.fm_shelf.proofs.Sending.{sends_as, sends_stop, sends_then}
use Rattle.always.specs.Asked.{terms_of}
use Rattle.always.specs.Text.{sizes_line, terms_lines}
use Rattle.always.proofs.Telling.{head_is}
use Rattle.always.proofs.text.write_head.Goals as goal

pub returns-in_err-write_line : goal.returns-in_err-write_line
returns-in_err-write_line g c =
    let e = err_from_is_err_and c.from_residual.result c.from_residual.ensures.1 in
    let p = c.args.plan.now in
    let terms = terms_of c.args.asked.now in
    rw e.1 (sends_as (head_is p terms) (sends_stop (terms_lines p.circuit terms) e.0 (sends_stop (sizes_line p) e.0 c.in_err-write_line.ensures)))

pub returns-in_err-write_sizes : goal.returns-in_err-write_sizes
returns-in_err-write_sizes g c =
    let e = err_from_is_err_and c.from_residual-in_err-write_sizes.result c.from_residual-in_err-write_sizes.ensures.1 in
    let p = c.args.plan.now in
    let terms = terms_of c.args.asked.now in
    rw e.1 (sends_as (head_is p terms) (sends_stop (terms_lines p.circuit terms) e.0 (sends_then c.in_ok-write_line.ensures c.in_err-write_sizes.ensures)))

pub returns : goal.returns
returns g c =
    let terms = terms_of c.args.asked.now in
    sends_as (head_is c.args.plan.now terms)
    (sends_then (sends_then c.in_ok-write_line.ensures c.in_ok-write_sizes.ensures) (sends_as (ap (λ (own : Circuit). terms_lines own terms) c.net.ensures.value) c.write_terms.ensures))
