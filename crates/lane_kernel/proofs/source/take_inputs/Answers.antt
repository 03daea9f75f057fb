use Rattle.std.proofs.Common.{◌≡◌, false, below_more, ap, sym, ◌∙◌, arith}
use Rattle.circuit.specs.Value.{bit_at, driven, driver_at}
use Rattle.circuit.specs.Order.{net_at}
use Rattle.lane_kernel.proofs.source.take_inputs.Goals as goal

pub loop-j-preserved : goal.loop-j-preserved
loop-j-preserved g c = λ k x lt forces ins are.
    let net = net_at c.args.nets.now c.loop-j.j in
    let own_is : g.W.Word.lane_bit c.input_word.result k ≡ driven x.state x.inputs (λ j. false) (driver_at x.circuit net.0) =
    c.input_word.ensures k lt ∙ ap (λ bits. bit_at bits c.loop-j.j) (sym ins)
    ∙ sym (ap (driven x.state x.inputs (λ j. false)) (are c.loop-j.j (omega arith))) in
    below_more _ _
    (λ i within. c.store_source.ensures.keeps k (net_at c.args.nets.now i).0 x lt forces own_is (c.loop-j.invariant k x lt forces ins are i within))
    (c.store_source.ensures.right k x lt forces own_is)
