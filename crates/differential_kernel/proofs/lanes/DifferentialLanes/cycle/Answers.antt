use Rattle.std.proofs.Common.{◌≡◌, ◌<◌, ◌+◌, ◌++◌, ◌∷◌, [], ℕ, Bool, false, List, Option, length, get_or, refl, ap, ap₂, sym, ◌∙◌, subst, arith}
use Rattle.circuit.specs.declared.parts.Fault.{Fault}
use Rattle.circuit.specs.declared.parts.NetId.{NetId}
use Rattle.circuit.specs.Circuit.{Circuit}
use Rattle.circuit.specs.Effects.{affected}
use Rattle.circuit.specs.Order.{IsOrder}
use Rattle.circuit.specs.Sound.{IsNetlist}
use Rattle.circuit.specs.Trace.{flipped}
use Rattle.circuit.specs.Value.{bit_at}
use Rattle.fanout.specs.Readers.{Ordered}
use Rattle.golden_difference.specs.Beside.{AreBetween, IsGoldenRow, Stand, stand_in}
use Rattle.golden_difference.specs.Lanes.{Lanes}
use Rattle.lane_words.specs.Gates.{latch_at, plane}
use Rattle.lane_words.specs.Loads.{loaded_faults}
use Rattle.lane_words.proofs.Planes.{length_plane}
use Rattle.differential_kernel.specs.Cone.{IsConeOf}
use Rattle.differential_kernel.specs.Forces.{has_acts, has_stuck}
use Rattle.differential_kernel.specs.Kernel.{lanes_of}
use Rattle.differential_kernel.specs.Noted.{AreFaultsNoted}
use Rattle.differential_kernel.specs.Parts.{AreForcesOf, AreLatchesOf, IsProgramOf}
use Rattle.differential_kernel.specs.Shown.{AreShownNetsOf, all_shown, shown_of}
use Rattle.differential_kernel.specs.Walk.{IsPair}
use Rattle.differential_kernel.proofs.Stepped.{same_ordered, stepped}
use Rattle.differential_kernel.proofs.Told.{at_shown}
use Rattle.differential_kernel.proofs.lanes.DifferentialLanes.cycle.Goals as goal

pub prepare-self-inside-requires-clause-forces : goal.prepare-self-inside-requires-clause-forces
prepare-self-inside-requires-clause-forces g c =
    subst (λ n. AreForcesOf g.W.Word.lanes g.W.Word.lane_bit n c.self.inside.forces) (sym c.self.invariant.forces.each) c.self.invariant.forces

pub prepare-self-inside-requires-clause-noted : goal.prepare-self-inside-requires-clause-noted
prepare-self-inside-requires-clause-noted g c = λ noted.
    let s = c.self.inside in
    subst (λ (ls : List (List (Option Fault))). AreFaultsNoted g.W.Word.lanes g.W.Word.lane_bit ls s.stale s.acts s.forces) (sym c.deref-2.ensures.value) (c.self.invariant.noted noted)

pub flip-requires-clause-acting : goal.flip-requires-clause-acting
flip-requires-clause-acting g c =
    let t = c.self.inside.cycle in
    let few : t < 65536 = omega (arith, c.requires.few, ap (λ (lanes : Lanes g.row.W.Denot). lanes.cycle) c.self.view_is) in
    c.has-acting.ensures ∙ c.prepare-self-inside.ensures.noted.acts t (omega (arith, few, c.prepare-self-inside.ensures.noted.bound))
    ∙ ap (λ (ls : List (List (Option Fault))). has_acts ls t) (c.deref-2.ensures.value ∙ sym c.deref-3.ensures.value)

pub advance-requires-clause-fit : goal.advance-requires-clause-fit
advance-requires-clause-fit g c =
    let s = c.self.inside in
    let kept = c.self.invariant in
    let lanes = g.W.Word.lanes in
    let bit = g.W.Word.lane_bit in
    let prepared = c.prepare-self-inside in
    let circuit : s.circuit.value ≡ c.args.netlist.now = ap (λ (lanes : Lanes g.row.W.Denot). lanes.circuit) c.self.view_is ∙ c.requires.made.circuit in
    let order : s.order.value ≡ c.nets.result.now = ap (λ (lanes : Lanes g.row.W.Denot). lanes.order) c.self.view_is ∙ c.requires.made.order ∙ sym c.nets.ensures in
    record {
      golden = record {
        sound = subst IsNetlist circuit kept.sound;
        ordered = subst (λ (m : Circuit). IsOrder m c.nets.result.now) circuit (subst (IsOrder s.circuit.value) order kept.ordered);
        fanout = c.requires.fanout ∙ same_ordered c.args.netlist.now c.args.netlist.now c.args.order.now c.nets.result.now refl (sym c.nets.ensures);
      };
      program = subst (λ (m : Circuit). IsProgramOf lanes bit m c.nets.result.now s.program) circuit (subst (λ (o : List NetId). IsProgramOf lanes bit s.circuit.value o s.program) order kept.program);
      forces = subst (λ n. AreForcesOf lanes bit n prepared.new.forces) (kept.forces.each ∙ ap (λ (m : Circuit). length m.drivers) circuit) prepared.ensures.forces;
      changed = prepared.ensures.changed;
    }

pub advance-requires-clause-latches : goal.advance-requires-clause-latches
advance-requires-clause-latches g c =
    let circuit : c.self.inside.circuit.value ≡ c.args.netlist.now = ap (λ (lanes : Lanes g.row.W.Denot). lanes.circuit) c.self.view_is ∙ c.requires.made.circuit in
    record {
      raw = c.flip.ensures.raw ∙ c.self.invariant.latches.raw ∙ ap (λ (m : Circuit). length m.latches) circuit;
      live = c.flip.ensures.live;
    }

pub advance-requires-clause-nets : goal.advance-requires-clause-nets
advance-requires-clause-nets g c =
    let s = c.self.inside in
    let circuit : s.circuit.value ≡ c.args.netlist.now = ap (λ (lanes : Lanes g.row.W.Denot). lanes.circuit) c.self.view_is ∙ c.requires.made.circuit in
    let order : s.order.value ≡ c.args.order.now = ap (λ (lanes : Lanes g.row.W.Denot). lanes.order) c.self.view_is ∙ c.requires.made.order in
    let own : Ordered = record { circuit = s.circuit.value; order = s.order.value } in
    let same : own ≡ c.args.fanout.now = same_ordered s.circuit.value c.args.netlist.now s.order.value c.args.order.now circuit order ∙ sym c.requires.fanout in
    subst (λ (o : Ordered). AreShownNetsOf g.W.Word.lanes g.W.Word.lane_bit o s.nets) same c.self.invariant.nets

pub advance-requires-clause-cone : goal.advance-requires-clause-cone
advance-requires-clause-cone g c =
    let s = c.self.inside in
    let circuit : s.circuit.value ≡ c.args.netlist.now = ap (λ (lanes : Lanes g.row.W.Denot). lanes.circuit) c.self.view_is ∙ c.requires.made.circuit in
    let order : s.order.value ≡ c.args.order.now = ap (λ (lanes : Lanes g.row.W.Denot). lanes.order) c.self.view_is ∙ c.requires.made.order in
    subst (λ (o : Ordered). IsConeOf o s.pace.cone) (same_ordered s.circuit.value c.args.netlist.now s.order.value c.args.order.now circuit order ∙ sym c.requires.fanout) c.self.invariant.cone

pub invariant_of-self : goal.invariant_of-self
invariant_of-self g c =
    let s = c.self.inside in
    let kept = c.self.invariant in
    let lanes = g.W.Word.lanes in
    let bit = g.W.Word.lane_bit in
    let prepared = c.prepare-self-inside in
    let circuit : s.circuit.value ≡ c.args.netlist.now = ap (λ (lanes : Lanes g.row.W.Denot). lanes.circuit) c.self.view_is ∙ c.requires.made.circuit in
    let order : s.order.value ≡ c.args.order.now = ap (λ (lanes : Lanes g.row.W.Denot). lanes.order) c.self.view_is ∙ c.requires.made.order in
    let own : Ordered = record { circuit = s.circuit.value; order = s.order.value } in
    let same : own ≡ c.args.fanout.now = same_ordered s.circuit.value c.args.netlist.now s.order.value c.args.order.now circuit order ∙ sym c.requires.fanout in
    record {
      sound = kept.sound;
      ordered = kept.ordered;
      program = kept.program;
      given = kept.given;
      whole = kept.whole;
      loads = kept.loads;
      acts_bound = prepared.ensures.noted.bound;
      stuck = λ noted. c.has_some_stuck-self-inside.ensures ∙ ap has_stuck c.deref.ensures.value;
      noted = λ noted. subst (λ (ls : List (List (Option Fault))). AreFaultsNoted lanes bit ls prepared.result prepared.new.cycles prepared.new.forces) c.deref-2.ensures.value prepared.ensures.noted;
      forces = subst (λ n. AreForcesOf lanes bit n prepared.new.forces) kept.forces.each prepared.ensures.forces;
      latches = subst (λ (m : Circuit). AreLatchesOf lanes bit m c.advance.new.latches) (sym circuit) c.advance.ensures.run.latches;
      nets = subst (λ (o : Ordered). AreShownNetsOf lanes bit o c.advance.new.nets) (sym same) c.advance.ensures.nets;
      cone = subst (λ (o : Ordered). IsConeOf o c.advance.new.pace.cone) (sym same) c.advance.ensures.cone;
    }

pub returns-clause-step : goal.returns-clause-step
returns-clause-step g c = λ vectors inputs stood golden k lt.
    let s = c.self.inside in
    let between : AreBetween g.W.Word.lanes g.W.Word.lane_bit vectors (lanes_of g.W.Word.lanes g.W.Word.lane_bit s) =
    subst (λ (lanes : Lanes g.row.W.Denot). AreBetween g.W.Word.lanes g.W.Word.lane_bit vectors lanes) (sym c.self.view_is) stood in
    let bit = g.W.Word.lane_bit in
    let circuit = s.circuit.value in
    let faults = loaded_faults s.in_force.items k in
    let row = c.args.row.now in
    let made : circuit ≡ c.args.netlist.now = ap (λ (lanes : Lanes g.row.W.Denot). lanes.circuit) c.self.view_is ∙ c.requires.made.circuit in
    let new : Stand = record { cycle = s.cycle + 1; raw = plane bit k c.advance.new.latches.raw.items; nets = bit_at (get_or (all_shown g.W.Word.lanes bit (length circuit.drivers) c.advance.new.nets) k []) } in
    let at : (n : ℕ) → n < length circuit.drivers → new.nets n ≡ shown_of bit c.advance.new.nets k n = λ n within. at_shown g.W.Word.lanes bit (length circuit.drivers) c.advance.new.nets k n lt within in
    stepped circuit faults vectors inputs row (stand_in bit k (lanes_of g.W.Word.lanes bit s)) new c.self.invariant.sound (between k lt)
    (length_plane bit k s.latches.raw.items ∙ c.self.invariant.latches.raw)
    (subst (λ (m : Circuit). IsGoldenRow m (vectors ++ inputs ∷ []) (length vectors) row) (sym made) golden)
    (λ x other pair faults_are number_is holds m net.
    at m net
    ∙ c.advance.ensures.run.values k x other lt (subst (λ (e : Circuit). IsPair e row x other) made pair)
    (λ n d own within.
    c.prepare-self-inside.ensures.armed k n d own lt within
    ∙ ap₂ (λ fs t. affected fs t n own) (ap (λ (ls : List (List (Option Fault))). loaded_faults ls k) c.deref-2.ensures.value ∙ sym faults_are) (sym number_is))
    (λ l within.
    ap (λ (bits : List Bool). bit_at bits l)
    (c.flip.ensures.flipped k lt
    ∙ ap (λ (ls : List (List (Option Fault))). flipped (loaded_faults ls k) s.cycle (plane bit k s.latches.raw.items)) c.deref-3.ensures.value)
    ∙ holds l (subst (λ (e : Circuit). l < length e.latches) (sym made) within))
    m (subst (λ (e : Circuit). m < length e.drivers) made net))
    (λ l within.
    c.advance.ensures.run.raw k l lt (subst (λ (e : Circuit). l < length e.latches) made within)
    ∙ ap (λ (e : Circuit). shown_of bit c.advance.new.nets k (latch_at e.latches l).from.0) (sym made)
    ∙ sym (at (latch_at circuit.latches l).from.0 (c.self.invariant.sound.sources l (record { from = record { 0 = 0 }; to = record { 0 = 0 }; start = false }) within)))
    refl
