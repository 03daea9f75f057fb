use Rattle.std.proofs.Common.{◌≡◌, ◌<◌, ◌/◌, inl, inr, ℕ, false, List, length, ap, sym, subst, ◌∙◌, arith}
use Rattle.std.proofs.lemmas.Bool.{cases_Bool}
use Rattle.std.proofs.lemmas.Grind.{common_steps}
use Rattle.std.specs.Vec.{with_items}
use Rattle.circuit.specs.Value.{bit_at}
use Rattle.fanout.specs.Readers.{Ordered}
use Rattle.lane_words.specs.Gates.{latch_at, plane}
use Rattle.place_set.specs.Places.{Places, has}
use Rattle.differential_kernel.specs.Cone.{AreEnds, IsConeOf}
use Rattle.differential_kernel.specs.Differences.{DifferOnlyIn, read_in}
use Rattle.differential_kernel.specs.Shown.{shown_of, told_in}
use Rattle.differential_kernel.proofs.Cones.{latch_out}
use Rattle.differential_kernel.proofs.Ends.{end_out}
use Rattle.differential_kernel.proofs.Notes.{only_in_more}
use Rattle.differential_kernel.proofs.Told.{told_out}
use Rattle.differential_kernel.proofs.Valued.{latch_told}
use Rattle.differential_kernel.proofs.cycle.run_cone.Goals as goal

pub sweep_cone-requires-clause-raw : goal.sweep_cone-requires-clause-raw
sweep_cone-requires-clause-raw g c =
    let cone = c.args.cone.now in
    let latches = c.args.latches.now in
    let bound = c.requires.fit.cone.ends.bound ∙ ap (λ (o : Ordered). length o.circuit.latches) c.requires.fit.golden.fanout ∙ sym c.requires.latches.raw in
    subst (λ (ws : List g.row.W.Denot). DifferOnlyIn g.W.Word.lanes g.W.Word.lane_bit cone.latches ws) (sym c.deref.ensures.value)
    (only_in_more g.W.Word.lanes g.W.Word.lane_bit latches.live cone.latches latches.raw.items c.requires.holds.live bound c.requires.latches.live)

pub sweep_cone-requires-clause-room : goal.sweep_cone-requires-clause-room
sweep_cone-requires-clause-room g c =
    ap (λ (ws : List g.row.W.Denot). length ws) c.deref_mut.ensures.value ∙ c.requires.nets.values ∙ ap (λ (o : Ordered). length o.circuit.drivers) c.requires.fit.golden.fanout

pub take_ends-requires-clause-ends : goal.take_ends-requires-clause-ends
take_ends-requires-clause-ends g c = subst (λ (o : Ordered). AreEnds o.circuit c.args.cone.now) c.requires.fit.golden.fanout c.requires.fit.cone.ends

pub take_ends-requires-clause-raw : goal.take_ends-requires-clause-raw
take_ends-requires-clause-raw g c =
    let cone = c.args.cone.now in
    let latches = c.args.latches.now in
    let bound = c.requires.fit.cone.ends.bound ∙ ap (λ (o : Ordered). length o.circuit.latches) c.requires.fit.golden.fanout ∙ sym c.requires.latches.raw in
    subst (λ (ws : List g.row.W.Denot). DifferOnlyIn g.W.Word.lanes g.W.Word.lane_bit cone.latches ws) (sym c.deref_mut-2.ensures.value)
    (only_in_more g.W.Word.lanes g.W.Word.lane_bit latches.live cone.latches latches.raw.items c.requires.holds.live bound c.requires.latches.live)

pub tell_by_values-requires : goal.tell_by_values-requires
tell_by_values-requires g c = c.requires.fit.cone.nets ∙ sym c.requires.nets.own.words ∙ sym c.requires.nets.own.touched.bound

pub returns-clause-nets : goal.returns-clause-nets
returns-clause-nets g c =
    let nets = c.args.nets.now in
    let values : (with_items nets.values c.sweep_cone.new.values).items ≡ c.sweep_cone.new.values = grind (arith, common_steps) in
    c.tell_by_values.ensures.nets c.args.cycle.now.fanout.now c.requires.holds.touched
    (record {
      own = c.requires.nets.own;
      values = ap (λ (ws : List g.row.W.Denot). length ws) values ∙ c.sweep_cone.auto.values ∙ ap (λ (ws : List g.row.W.Denot). length ws) c.deref_mut.ensures.value ∙ c.requires.nets.values;
      row = c.requires.nets.row;
    })

pub returns-clause-run : goal.returns-clause-run
returns-clause-run g c =
    let lanes = g.W.Word.lanes in
    let bit = g.W.Word.lane_bit in
    let nets = c.args.nets.now in
    let latches = c.args.latches.now in
    let cone = c.args.cone.now in
    let row = c.args.cycle.now.row.now in
    let circuit = c.args.cycle.now.netlist.now in
    let own : Ordered = record { circuit = circuit; order = c.args.cycle.now.order.now } in
    let are_cone : IsConeOf own cone = subst (λ (o : Ordered). IsConeOf o cone) c.requires.fit.golden.fanout c.requires.fit.cone in
    let drivers = ap (λ (o : Ordered). length o.circuit.drivers) c.requires.fit.golden.fanout in
    let sound = c.requires.fit.golden.sound in
    let new = c.sweep_cone.new.values in
    let values : (with_items nets.values new).items ≡ new = grind (arith, common_steps) in
    let raw : (with_items latches.raw c.take_ends.new.raw).items ≡ c.take_ends.new.raw = grind (arith, common_steps) in
    let size : length new ≡ length circuit.drivers =
    c.sweep_cone.auto.values ∙ ap (λ (ws : List g.row.W.Denot). length ws) c.deref_mut.ensures.value ∙ c.requires.nets.values ∙ drivers in
    let told : (k n : ℕ) → n < length circuit.drivers → shown_of bit c.tell_by_values.new.nets k n ≡ told_in bit k row cone.nets new n = λ k n net.
    (let within : n / 64 < length nets.row.items = omega (arith, net, c.requires.nets.row, drivers) in
    c.tell_by_values.ensures.told k n within ∙ ap (λ (ws : List g.row.W.Denot). told_in bit k row cone.nets ws n) values) in
    let taken : (k l : ℕ) → k < lanes → l < length circuit.latches
    → bit_at (plane bit k c.take_ends.new.raw) l ≡ told_in bit k row cone.nets new (latch_at circuit.latches l).from.0 = λ k l lt within.
    (elim (cases_Bool (has cone.latches l)) [
      | inl there ↦
          c.take_ends.ensures.taken k l lt within there
          ∙ ap (λ (ws : List g.row.W.Denot). read_in bit k row ws (latch_at circuit.latches l).from.0) (c.deref-2.ensures.value ∙ values)
          ∙ latch_told bit k circuit own.order sound c.requires.fit.golden.ordered row cone.read cone.nets new are_cone.reads.found
          (λ n net is none. c.sweep_cone.ensures.read k n lt (omega (arith, net, size)) is none) l within (sym (are_cone.ends.latches l within) ∙ there)
      | inr out ↦
          c.take_ends.ensures.raw.same l out k lt
          ∙ sym (told_out bit k row cone.nets new (latch_at circuit.latches l).from.0 (latch_out own cone.nets are_cone.closed l within (end_out circuit cone are_cone.ends l within out)))
    ]) in
    record {
      values = λ k x golden lt pair are holds n net.
          told k n net
          ∙ c.sweep_cone.ensures.values k x golden lt pair are (λ l within. ap (λ ws. bit_at (plane bit k ws) l) c.deref.ensures.value ∙ holds l within) n net;
      raw = λ k l lt within.
          ap (λ ws. bit_at (plane bit k ws) l) raw ∙ taken k l lt within
          ∙ sym (told k (latch_at circuit.latches l).from.0 (sound.sources l (record { from = record { 0 = 0 }; to = record { 0 = 0 }; start = false }) within));
      latches = record {
        raw = ap (λ (ws : List g.row.W.Denot). length ws) raw ∙ c.take_ends.auto.raw ∙ ap (λ (ws : List g.row.W.Denot). length ws) c.deref_mut-2.ensures.value ∙ c.requires.latches.raw;
        live = subst (λ (set : Places). DifferOnlyIn lanes bit set (with_items latches.raw c.take_ends.new.raw).items) (sym c.copy_from.ensures)
            (subst (λ (ws : List g.row.W.Denot). DifferOnlyIn lanes bit cone.latches ws) (sym raw) c.take_ends.ensures.raw);
      };
    }
