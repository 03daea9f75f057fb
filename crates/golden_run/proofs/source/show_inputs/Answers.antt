use Rattle.std.proofs.Common.{◌≡◌, ◌≢◌, ◌<◌, ◌==◌, cond, List, length, refl, ap, sym, subst, ◌∙◌, arith}
use Rattle.circuit.specs.declared.parts.Driver.TheVariants.{Input, Latch as FromLatch}
use Rattle.circuit.specs.declared.parts.NetId.{NetId}
use Rattle.circuit.specs.Order.{net_at}
use Rattle.circuit.specs.Value.{driver_at}
use Rattle.place_set.specs.Places.{value_in}
use Rattle.golden_run.specs.Events.{ordered_of}
use Rattle.golden_run.proofs.Settling.{at_other, source_changed}
use Rattle.golden_run.proofs.Sources.{input_driver, input_net, input_source, input_within, shown_more}
use Rattle.golden_run.proofs.source.show_inputs.Goals as goal

pub change-requires-clause-net : goal.change-requires-clause-net
change-requires-clause-net c =
    let circuit = c.args.wiring.now.netlist.now in
    let are : c.inputs-net-items.result.now ≡ circuit.inputs = c.inputs-net-items.ensures.value in
    let size : length c.inputs-net-items.result.now ≡ length circuit.inputs = ap (λ (nets : List NetId). length nets) are in
    subst (λ (nets : List NetId). (net_at nets c.loop-i.i).0 < length circuit.drivers) (sym are)
    (input_within circuit c.requires.wiring.program.sound c.loop-i.i (omega (arith, size, c.loop-i-test.true)))

pub loop-i-preserved : goal.loop-i-preserved
loop-i-preserved c =
    let circuit = c.args.wiring.now.netlist.now in
    let sound = c.requires.wiring.program.sound in
    let items = c.inputs-net-items.result.now in
    let i = c.loop-i.i in
    let net = (net_at items i).0 in
    let old = c.loop-i.values.row.items in
    let new = c.change.new.values.row.items in
    let are : items ≡ circuit.inputs = c.inputs-net-items.ensures.value in
    let size : length items ≡ length circuit.inputs = ap (λ (nets : List NetId). length nets) are in
    let driver : driver_at circuit net ≡ Input i =
    subst (λ (nets : List NetId). driver_at circuit (net_at nets i).0 ≡ Input i) (sym are) (input_driver circuit sound i (omega (arith, size, c.loop-i-test.true))) in
    record {
      values = source_changed (ordered_of c.args.wiring.now) sound c.requires.wiring.program.ordered net c.bit_of.result c.loop-i.values c.change.new.values
          c.loop-i.invariant.values (input_source circuit net i driver) c.change.ensures;
      shown = shown_more circuit (λ k. Input k) net i c.args.inputs.now old new (λ k. refl) driver
          (λ n within is. (input_net circuit sound n i within is).1 ∙ ap (λ (nets : List NetId). (net_at nets i).0) (sym are))
          (λ n. c.change.ensures.values n ∙ ap (λ b. cond (n == net) b (value_in old n)) c.bit_of.ensures) c.loop-i.invariant.shown;
      others = λ n k latch.
          let apart : n ≢ net = λ same. let e : Input i ≡ FromLatch k = sym driver ∙ ap (driver_at circuit) (sym same) ∙ latch in cc in
          at_other old new net c.bit_of.result n c.change.ensures.values apart ∙ c.loop-i.invariant.others n k latch;
    }

pub returns-clause-shown : goal.returns-clause-shown
returns-clause-shown c = λ n k within driver.
    let size : length c.inputs-net-items.result.now ≡ length c.args.wiring.now.netlist.now.inputs = ap (λ (nets : List NetId). length nets) c.inputs-net-items.ensures.value in
    c.loop-i.invariant.shown n k within driver
    (omega (arith, size, c.loop-i-test.false, (input_net c.args.wiring.now.netlist.now c.requires.wiring.program.sound n k within driver).0))
