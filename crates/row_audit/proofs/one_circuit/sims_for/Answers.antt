use Rattle.std.proofs.Common.{length, ap, ◌∙◌, arith}
use Rattle.std.proofs.lemmas.List.{length_push}
use Rattle.std.proofs.lemmas.List.Elements.{All-push}
use Rattle.cycle_sim.specs.Sim.{IsSimulationFor}
use Rattle.row_audit.proofs.one_circuit.sims_for.Goals as goal

pub loop-preserved : goal.loop-preserved
loop-preserved c =
    let i = c.loop.invariant in
    let now = c.in_ok-push.ensures.items in
    let old = c.loop.sims.items in
    let sim = c.in_ok-new.field-0 in
    record {
      each = rw now (All-push (IsSimulationFor c.args.net.now c.args.order.now) old sim i.each c.in_ok-new.ensures);
      count = ap length now ∙ length_push old sim ∙ omega (arith, i.count);
    }
