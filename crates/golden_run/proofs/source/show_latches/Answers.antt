use Rattle.std.proofs.Common.{◌≡◌, ◌<◌, ◌==◌, false, cond, List, length, refl, ap, sym, subst, ◌∙◌, arith}
use Rattle.circuit.specs.declared.parts.Driver.TheVariants.{Latch as FromLatch}
use Rattle.circuit.specs.declared.parts.Latch.{Latch}
use Rattle.circuit.specs.Value.{driver_at}
use Rattle.lane_words.specs.Gates.{latch_at}
use Rattle.lane_words.proofs.Latches.{latches_driven, latches_inside}
use Rattle.place_set.specs.Places.{value_in}
use Rattle.golden_run.specs.Events.{ordered_of}
use Rattle.golden_run.proofs.Settling.{source_changed}
use Rattle.golden_run.proofs.Sources.{latch_net, latch_source, shown_more}
use Rattle.golden_run.proofs.source.show_latches.Goals as goal

pub change-requires-clause-net : goal.change-requires-clause-net
change-requires-clause-net c =
    let circuit = c.args.wiring.now.netlist.now in
    let are : c.latches-latch-items.result.now ≡ circuit.latches = c.latches-latch-items.ensures.value in
    let size : length c.latches-latch-items.result.now ≡ length circuit.latches = ap (λ (latches : List Latch). length latches) are in
    subst (λ (latches : List Latch). (latch_at latches c.loop-l.l).to.0 < length circuit.drivers) (sym are)
    (latches_inside circuit c.requires.wiring.program.sound c.loop-l.l (record { from = record { 0 = 0 }; to = record { 0 = 0 }; start = false }) (omega (arith, size, c.loop-l-test.true)))

pub loop-l-preserved : goal.loop-l-preserved
loop-l-preserved c =
    let circuit = c.args.wiring.now.netlist.now in
    let sound = c.requires.wiring.program.sound in
    let items = c.latches-latch-items.result.now in
    let l = c.loop-l.l in
    let net = (latch_at items l).to.0 in
    let old = c.loop-l.values.row.items in
    let new = c.change.new.values.row.items in
    let are : items ≡ circuit.latches = c.latches-latch-items.ensures.value in
    let size : length items ≡ length circuit.latches = ap (λ (latches : List Latch). length latches) are in
    let driver : driver_at circuit net ≡ FromLatch l =
    subst (λ (latches : List Latch). driver_at circuit (latch_at latches l).to.0 ≡ FromLatch l) (sym are) (latches_driven circuit sound l (omega (arith, size, c.loop-l-test.true))) in
    record {
      values = source_changed (ordered_of c.args.wiring.now) sound c.requires.wiring.program.ordered net c.bit_of.result c.loop-l.values c.change.new.values
          c.loop-l.invariant.values (latch_source circuit net l driver) c.change.ensures;
      shown = shown_more circuit (λ k. FromLatch k) net l c.args.raw.now old new (λ k. refl) driver
          (λ n within is. (latch_net circuit sound n l within is).1 ∙ ap (λ (latches : List Latch). (latch_at latches l).to.0) (sym are))
          (λ n. c.change.ensures.values n ∙ ap (λ b. cond (n == net) b (value_in old n)) c.bit_of.ensures) c.loop-l.invariant.shown;
    }

pub returns-clause-shown : goal.returns-clause-shown
returns-clause-shown c = λ n k within driver.
    let size : length c.latches-latch-items.result.now ≡ length c.args.wiring.now.netlist.now.latches = ap (λ (latches : List Latch). length latches) c.latches-latch-items.ensures.value in
    c.loop-l.invariant.shown n k within driver
    (omega (arith, size, c.loop-l-test.false, (latch_net c.args.wiring.now.netlist.now c.requires.wiring.program.sound n k within driver).0))
