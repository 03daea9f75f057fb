use Rattle.std.proofs.Common.{◌≡◌, ◌+◌, ◌/◌, List, length, ap, sym, ◌∙◌, subst, arith}
use Rattle.std.proofs.lemmas.Bool.{false≢true}
use Rattle.circuit.specs.declared.parts.Latch.{Latch}
use Rattle.circuit.specs.declared.parts.NetId.{NetId}
use Rattle.circuit.specs.Circuit.{Circuit}
use Rattle.circuit.specs.Order.{IsOrder}
use Rattle.circuit.specs.Sound.{IsNetlist}
use Rattle.circuit.proofs.FewTables.{few_tables}
use Rattle.differential_kernel.specs.declared.cone.Cone.{Cone}
use Rattle.differential_kernel.specs.Cone.{IsConeOf, IsNewCone}
use Rattle.differential_kernel.specs.Parts.{IsProgramOf}
use Rattle.differential_kernel.proofs.Cones.{new_cone}
use Rattle.differential_kernel.proofs.Stepped.{ordered}
use Rattle.differential_kernel.proofs.lanes.DifferentialLanes.new.Goals as goal

pub new-requires-5-clause-places : goal.new-requires-5-clause-places
new-requires-5-clause-places g c =
    let sound = c.nets-net_count.ensures.sound in
    let order : length c.nets-table_count.result.now ≡ length c.args.order.now = ap (λ (nets : List NetId). length nets) c.nets-table_count.ensures in
    let latches : length c.latches-latch_count.result.now ≡ length c.args.netlist.now.latches = ap (λ (ls : List Latch). length ls) c.latches-latch_count.ensures.value in
    omega (arith, order, latches, few_tables c.args.netlist.now sound, sound.few, sound.few_latches, c.requires.count)

pub invariant_of-result : goal.invariant_of-result
invariant_of-result g c =
    let lanes = g.W.Word.lanes in
    let bit = g.W.Word.lane_bit in
    let circuit : c.of.result.value ≡ c.args.netlist.now = c.of.ensures in
    let order : c.of-2.result.value ≡ c.args.order.now = c.of-2.ensures in
    let nets : c.nets-net_count.result ≡ length c.of.result.value.drivers = c.nets-net_count.ensures.count ∙ ap (λ (m : Circuit). length m.drivers) (sym circuit) in
    let latches : length c.latches-latch_count.result.now ≡ length c.of.result.value.latches =
    ap (λ (ls : List Latch). length ls) c.latches-latch_count.ensures.value ∙ ap (λ (m : Circuit). length m.latches) (sym circuit) in
    let tables : length c.nets-table_count.result.now ≡ length c.of-2.result.value = ap (λ (ns : List NetId). length ns) (c.nets-table_count.ensures ∙ sym order) in
    record {
      sound = subst IsNetlist (sym circuit) c.nets-net_count.ensures.sound;
      ordered = subst (λ (m : Circuit). IsOrder m c.of-2.result.value) (sym circuit) (subst (λ (o : List NetId). IsOrder c.args.netlist.now o) (sym order) c.requires);
      program = subst (λ (m : Circuit). IsProgramOf lanes bit m c.of-2.result.value c.in_ok-program.program) (sym circuit)
          (subst (λ (o : List NetId). IsProgramOf lanes bit c.args.netlist.now o c.in_ok-program.program) (c.nets.ensures ∙ sym order) c.in_ok-program.ensures);
      given = omega (arith, c.in_ok-loads.ensures.count, c.count.ensures);
      whole = λ whole. absurd (false≢true whole);
      loads = omega (arith, c.in_ok-in_force.ensures.count, c.count-2.ensures);
      acts_bound = c.in_ok-acts.ensures.bound;
      stuck = λ noted. absurd (false≢true noted);
      noted = λ noted. absurd (false≢true noted);
      forces = record {
        named = c.in_ok-forces.ensures.named ∙ nets;
        each = c.in_ok-forces.ensures.each ∙ nets;
        idle = λ n lt none. c.in_ok-forces.ensures.idle n lt;
        zeros = c.in_ok-forces.ensures.zeros ∙ nets;
        ones = c.in_ok-forces.ensures.ones ∙ nets;
      };
      latches = record { raw = c.in_ok-latches.ensures.raw ∙ latches; live = c.in_ok-latches.ensures.live };
      nets = record {
        own = record {
          words = c.in_ok-nets.ensures.words ∙ nets;
          touched = c.in_ok-nets.ensures.touched;
          marks = omega (arith, c.in_ok-nets.ensures.marks, tables, latches);
        };
        values = c.in_ok-nets.ensures.values ∙ nets;
        row = c.in_ok-nets.ensures.row ∙ ap (λ n. n / 64 + 1) nets;
      };
      cone = subst (λ (cone : Cone). IsConeOf (ordered c.of.result.value c.of-2.result.value) cone) (sym c.new-7.ensures)
          (new_cone (ordered c.of.result.value c.of-2.result.value) c.in_ok-cone.cone
          (subst (λ n. IsNewCone n (length c.of-2.result.value) (length c.of.result.value.latches) c.in_ok-cone.cone) nets
          (subst (λ n. IsNewCone c.nets-net_count.result n (length c.of.result.value.latches) c.in_ok-cone.cone) tables
          (subst (λ n. IsNewCone c.nets-net_count.result (length c.nets-table_count.result.now) n c.in_ok-cone.cone) latches c.in_ok-cone.ensures))));
    }
