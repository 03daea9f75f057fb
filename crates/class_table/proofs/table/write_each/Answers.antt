use Rattle.std.proofs.Common.{◌≡◌, ◌∙◌, ap, sym, subst, ◌<◌, length, arith}
use Rattle.std.proofs.lemmas.Result.{err_from_is_err_and}
use Rattle.class_table.proofs.ClassLines.{written_none, written_more, written_torn, written_all}
use Rattle.class_table.proofs.table.write_each.Goals as goal

pub loop-i-init : goal.loop-i-init
loop-i-init g c = written_none _ _

pub returns-in_err-write_class : goal.returns-in_err-write_class
returns-in_err-write_class g c =
    let p = err_from_is_err_and c.from_residual.result c.from_residual.ensures.1 in
    let net = c.net.ensures ∙ ap (λ s. s.circuit) c.batch-planes.ensures.same in
    let faults = c.faults-in-loop-i.ensures ∙ ap (λ s. s.faults) c.batch-planes.ensures.same in
    let count = c.len-i-end.ensures.count ∙ ap length c.faults.ensures in
    rw p.1 (written_torn c.args.simulator.now c.loop-i.simulator _ _ _ c.batch-planes.result c.loop-i.i _ _ c.loop-i.invariant
    c.batch-planes.ensures.outcome (subst (λ n. c.loop-i.i < n) count c.loop-i-test.true) (rw (sym net, sym faults) c.in_err-write_class.ensures))

pub loop-i-preserved : goal.loop-i-preserved
loop-i-preserved g c =
    let net = c.net.ensures ∙ ap (λ s. s.circuit) c.batch-planes.ensures.same in
    let faults = c.faults-in-loop-i.ensures ∙ ap (λ s. s.faults) c.batch-planes.ensures.same in
    written_more c.args.simulator.now c.loop-i.simulator _ _ _ _ c.batch-planes.result c.loop-i.i _ c.loop-i.invariant
    c.batch-planes.ensures.same c.batch-planes.ensures.outcome (rw (sym net, sym faults) c.in_ok-write_class.ensures)

pub returns : goal.returns
returns g c =
    let count = c.len-i-end.ensures.count ∙ ap length c.faults.ensures in
    let at_end : c.loop-i.i ≡ c.len-i-end.result = omega (arith, c.loop-i-test.false, c.loop-i.auto.i-end) in
    written_all c.args.simulator.now c.loop-i.simulator _ _ c.loop-i.i c.loop-i.invariant (at_end ∙ count)
