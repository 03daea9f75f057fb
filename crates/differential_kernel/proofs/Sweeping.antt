-- A sweep over the tables of a cone, table by table.
use Rattle.std.proofs.Common.{◌≡◌, ◌≢◌, ◌<◌, ◌≤◌, ◌+◌, ℕ, Bool, true, false, [], List, length, get_or, set, take, ap, sym, subst, ◌∙◌, arith}
use Rattle.std.proofs.lemmas.Bool.{true≢false}
use Rattle.std.proofs.lemmas.List.{length-set, take_all}
use Rattle.circuit.specs.declared.parts.NetId.{NetId}
use Rattle.circuit.specs.Circuit.{Circuit}
use Rattle.circuit.specs.Order.{IsOrder, net_at}
use Rattle.circuit.specs.Value.{Cycle, bit_at, driven, driver_at, net_value, table_gives}
use Rattle.fanout.specs.Readers.{Ordered}
use Rattle.golden_difference.proofs.Walked.{Walked, walked_all}
use Rattle.lane_words.specs.Gates.{IsGate, op_value, plane}
use Rattle.lane_words.specs.declared.force.Force.{Force}
use Rattle.lane_words.specs.Forces.{AreForces, force_value}
use Rattle.place_set.specs.Places.{has}
use Rattle.differential_kernel.specs.declared.cone.Cone.{Cone}
use Rattle.differential_kernel.specs.declared.force.Forces.{Forces}
use Rattle.differential_kernel.specs.declared.golden_cycle.GoldenCycle.{GoldenCycle}
use Rattle.differential_kernel.specs.Cone.{IsConeOf, IsConeTable, IsPlain, cone_table}
use Rattle.differential_kernel.specs.Cycle.{CanSweep}
use Rattle.differential_kernel.specs.Differences.{Grows}
use Rattle.differential_kernel.specs.Shown.{ReadGolden, told_in, valued_in}
use Rattle.differential_kernel.specs.Sweeps.{IsSweptTo, SweepsOn, place_of}
use Rattle.differential_kernel.specs.Walk.{IsPair}
use Rattle.differential_kernel.proofs.Listing.{next_above, next_end, next_here, next_within, none_first, none_next}
use Rattle.differential_kernel.proofs.Notes.{at_set_other, at_set_same, grows_none}
use Rattle.differential_kernel.proofs.Outside.{quiet_outs}
use Rattle.differential_kernel.proofs.Told.{told_out, valued_stays, valued_there}
use Rattle.differential_kernel.proofs.Valued.{given_there}
use Rattle.differential_kernel.proofs.Walking.{evaluated_by, some_force}

module _ {W : Type 0} (lanes : ℕ) (bit : W → ℕ → Bool) (cycle : GoldenCycle) (forces : Forces W) (cone : Cone) (fit : CanSweep lanes bit cycle forces cone) where
  -- the cone is one of the cycle's circuit and order
  cone_here : IsConeOf (record { circuit = cycle.netlist.now; order = cycle.order.now }) cone
  cone_here = subst (λ (o : Ordered). IsConeOf o cone) fit.golden.fanout fit.cone

  grows_here : Grows forces.named cone.nets
  grows_here n there = cone_here.sources.inside n (fit.named n there)

  -- a table of the cone
  pub gate_here : (at : ℕ) → at < cone.table_count → IsGate cycle.netlist.now (cone_table cone.gates.items at).gate
  gate_here at lt = (cone_here.gates.each at lt).gate

  -- where its net wasn't named no force is on it
  pub free_here : (at : ℕ) → at < cone.table_count → (cone_table cone.gates.items at).forced ≡ false → has forces.named (cone_table cone.gates.items at).gate.to ≡ false
  free_here at lt is = grows_none forces.named cone.named (cone_table cone.gates.items at).gate.to fit.named (sym (cone_here.gates.each at lt).forced ∙ is)

  -- what a table of a stretch gives
  pub plain_gives : (at op : ℕ) → at < cone.table_count → IsPlain op (cone_table cone.gates.items at) → (values : List W) (v : W)
      → ((k : ℕ) → k < lanes → bit v k
      ≡ op_value op (bit_at (plane bit k values) (cone_table cone.gates.items at).gate.a) (bit_at (plane bit k values) (cone_table cone.gates.items at).gate.b))
      → (k : ℕ) (d : Force W) (state inputs : List Bool) → k < lanes
      → bit v k ≡ force_value bit k (get_or forces.by_net.items (cone_table cone.gates.items at).gate.to d)
      (driven state inputs (table_gives cycle.netlist.now (bit_at (plane bit k values))) (driver_at cycle.netlist.now (cone_table cone.gates.items at).gate.to))
  plain_gives at op lt plain values v gives k d state inputs lt_k =
      let gate = (cone_table cone.gates.items at).gate in
      let read : ℕ → Bool = bit_at (plane bit k values) in
      let is : IsGate cycle.netlist.now gate = gate_here at lt in
      let own : Bool = driven state inputs (table_gives cycle.netlist.now read) (driver_at cycle.netlist.now gate.to) in
      gives k lt_k
      ∙ ap (λ o. op_value o (read gate.a) (read gate.b)) (sym plain.same)
      ∙ is.means (subst (λ o. o < 16) (sym plain.same) plain.narrow) state inputs read
      ∙ sym (fit.forces.idle gate.to (omega (arith, is.inside.to, fit.forces.each)) (free_here at lt plain.free) k d own lt_k)

  -- before the first table of the cone
  pub swept_first : (k : ℕ) (x golden : Cycle) → k < lanes → IsPair cycle.netlist.now cycle.row.now x golden → AreForces bit k forces.by_net.items x
      → (values : List W) → Walked x (valued_in bit k cycle.row.now cone.nets values) [] 0 → IsSweptTo bit k cycle cone x 0 values
  swept_first k x golden lt pair are values first =
      let is : ℕ → Bool = λ p. has cone.nets (net_at cycle.order.now p).0 in
      let to = place_of cycle cone 0 in
      quiet_outs lanes bit k lt cycle.netlist.now cycle.order.now fit.golden.sound fit.golden.ordered cycle.row.now forces.by_net.items fit.forces.each x golden pair are
      (told_in bit k cycle.row.now cone.nets values) cone.nets 0 to (omega arith) (next_within is cone.tables.items cone.table_count (length cycle.order.now) 0 cone_here.tables) cone_here.closed
      (λ n none. told_out bit k cycle.row.now cone.nets values n none)
      (λ n within out. fit.forces.idle n within (grows_none forces.named cone.nets n grows_here out))
      (λ q low less. none_first is cone.tables.items cone.table_count (length cycle.order.now) q cone_here.tables less)
      first

  -- behind the last one
  pub swept_all : (k at : ℕ) (x golden : Cycle) → k < lanes → IsPair cycle.netlist.now cycle.row.now x golden → cone.table_count ≤ at
      → (values : List W) → IsSweptTo bit k cycle cone x at values
      → (n : ℕ) → n < length cycle.netlist.now.drivers → valued_in bit k cycle.row.now cone.nets values n ≡ net_value x n
  swept_all k at x golden lt pair behind values swept n net =
      let order = cycle.order.now in
      let end : place_of cycle cone at ≡ length order = next_end cone.tables.items cone.table_count (length order) at behind in
      walked_all x (valued_in bit k cycle.row.now cone.nets values) order (subst (λ (m : Circuit). IsOrder m order) (sym pair.circuit) fit.golden.ordered)
      (subst (λ (nets : List NetId). Walked x (valued_in bit k cycle.row.now cone.nets values) nets (length order)) (take_all (length order) order (omega arith))
      (subst (λ j. Walked x (valued_in bit k cycle.row.now cone.nets values) (take j order) j) end swept)) n
      (subst (λ (m : Circuit). n < length m.drivers) (sym pair.circuit) net)

  -- ONE TABLE
  module _ (at : ℕ) (lt_at : at < cone.table_count) (values : List W) (size : length values ≡ length cycle.netlist.now.drivers)
      (read : ReadGolden lanes bit cycle.row.now cone values) where
    abbrev slot : ℕ
    slot = (cone_table cone.gates.items at).gate.to

    abbrev place : ℕ
    place = get_or cone.tables.items at 0

    table : IsConeTable (record { circuit = cycle.netlist.now; order = cycle.order.now }) cone.named place (cone_table cone.gates.items at)
    table = cone_here.gates.each at lt_at

    within : place < length cycle.order.now
    within = cone_here.tables.below at lt_at

    net_within : (net_at cycle.order.now place).0 < length cycle.netlist.now.drivers
    net_within = fit.golden.ordered.nets place (record { 0 = 0 }) within

    own : has cone.nets (net_at cycle.order.now place).0 ≡ true
    own = cone_here.tables.each at lt_at

    others : (v : W) (k m : ℕ) → m ≢ (net_at cycle.order.now place).0 → bit_at (plane bit k (set values slot v)) m ≡ bit_at (plane bit k values) m
    others v k m other = at_set_other bit k values slot m v (λ e. other (e ∙ table.to))

    -- its value is written: what is read outside of the cone stays
    pub read_on : (v : W) → ReadGolden lanes bit cycle.row.now cone (set values slot v)
    read_on v k m lt net there none =
        let other : m ≢ (net_at cycle.order.now place).0 = λ same. true≢false (sym own ∙ ap (has cone.nets) (sym same) ∙ none) in
        others v k m other ∙ read k m lt (omega (arith, net, length-set values slot v)) there none

    -- and it is swept
    pub swept_on : (v : W)
        → ((k : ℕ) (d : Force W) (state inputs : List Bool) → k < lanes
        → bit v k ≡ force_value bit k (get_or forces.by_net.items slot d) (driven state inputs (table_gives cycle.netlist.now (bit_at (plane bit k values))) (driver_at cycle.netlist.now slot)))
        → SweepsOn lanes bit cycle forces cone at (at + 1) values (set values slot v)
    swept_on v gives k x other lt pair are swept =
        let circuit = cycle.netlist.now in
        let order = cycle.order.now in
        let row = cycle.row.now in
        let by_net = forces.by_net.items in
        let golden = fit.golden in
        let is : ℕ → Bool = λ q. has cone.nets (net_at order q).0 in
        let n = (net_at order place).0 in
        let new = set values slot v in
        let to : slot ≡ n = table.to in
        let inside : n < length by_net = omega (arith, net_within, fit.forces.each) in
        let room : slot < length values = omega (arith, to, net_within, size) in
        let now : place_of cycle cone at ≡ place = next_here cone.tables.items cone.table_count (length order) at lt_at in
        let d : Force W = some_force by_net n inside in
        let next = place_of cycle cone (at + 1) in
        quiet_outs lanes bit k lt circuit order golden.sound golden.ordered row by_net fit.forces.each x other pair are
        (told_in bit k row cone.nets new) cone.nets (place + 1) next (next_above is cone.tables.items cone.table_count (length order) at cone_here.tables lt_at)
        (next_within is cone.tables.items cone.table_count (length order) (at + 1) cone_here.tables) cone_here.closed
        (λ m none. told_out bit k row cone.nets new m none)
        (λ m inner out. fit.forces.idle m inner (grows_none forces.named cone.nets m grows_here out))
        (λ q low less. none_next is cone.tables.items cone.table_count (length order) at q cone_here.tables lt_at (omega (arith, low)) less)
        (evaluated_by lanes bit k lt circuit order golden.sound golden.ordered row by_net fit.forces.each x other pair are d
        (valued_in bit k row cone.nets values) (valued_in bit k row cone.nets new) place within
        (λ state inputs.
        valued_there bit k row cone.nets new n own
        ∙ ap (bit_at (plane bit k new)) (sym to) ∙ at_set_same bit k values slot v room
        ∙ gives k d state inputs lt
        ∙ ap (λ m. force_value bit k (get_or by_net m d) (driven state inputs (table_gives circuit (bit_at (plane bit k values))) (driver_at circuit m))) to
        ∙ ap (force_value bit k (get_or by_net n d))
        (given_there bit k circuit order golden.sound golden.ordered row cone.read cone.nets values cone_here.reads.found
        (λ m net there none. read k m lt (omega (arith, net, size)) there none) place state inputs within own))
        (λ m apart. valued_stays bit k row cone.nets values new m (others v k m apart))
        (subst (λ j. Walked x (valued_in bit k row cone.nets values) (take j order) j) now swept))
