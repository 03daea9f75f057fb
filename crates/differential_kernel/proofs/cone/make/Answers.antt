use Rattle.std.proofs.Common.{◌≡◌, ◌<◌, ℕ, List, length, get_or, ap, sym, subst, ◌∙◌, arith}
use Rattle.std.proofs.lemmas.Grind.{common_steps}
use Rattle.std.specs.Vec.{with_items}
use Rattle.circuit.specs.declared.parts.Latch.{Latch}
use Rattle.circuit.specs.Order.{net_at}
use Rattle.circuit.proofs.FewTables.{few_tables}
use Rattle.fanout.specs.Readers.{Ordered}
use Rattle.lane_words.specs.declared.gate.Gate.{Gate}
use Rattle.lane_words.specs.Gates.{IsGate, gate_at, latch_at}
use Rattle.place_set.specs.Places.{has}
use Rattle.differential_kernel.specs.Cone.{AreStretches, IsClosed, IsConeOf, IsUnread, cone_table}
use Rattle.differential_kernel.specs.Places.{AreThose}
use Rattle.differential_kernel.specs.declared.cone.Cone.{Cone}
use Rattle.differential_kernel.specs.declared.cone.ConeTable.{ConeTable}
use Rattle.differential_kernel.proofs.cone.make.Goals as goal

pub list_tables-cone-requires-clause-few : goal.list_tables-cone-requires-clause-few
list_tables-cone-requires-clause-few c =
    let sound = c.requires.golden.sound in
    omega (arith, few_tables c.args.cycle.now.netlist.now sound, c.requires.golden.ordered.count)

pub copy_tables-requires-clause-places : goal.copy_tables-requires-clause-places
copy_tables-requires-clause-places c =
    let cone = c.args.cone.now in
    let tables : (with_items cone.tables c.list_tables-cone.new.tables).items ≡ c.list_tables-cone.new.tables = grind (arith, common_steps) in
    let size : length c.deref.result.now ≡ length c.args.cycle.now.order.now =
    ap (λ (list : List ℕ). length list) (c.deref.ensures.value ∙ tables) ∙ c.list_tables-cone.auto.tables ∙ ap (λ (list : List ℕ). length list) c.deref_mut.ensures.value
    ∙ c.requires.cone.room ∙ ap (λ (o : Ordered). length o.order) c.requires.golden.fanout in
    omega (arith, size, c.list_tables-cone.ensures.few)

pub copy_tables-requires-clause-room : goal.copy_tables-requires-clause-room
copy_tables-requires-clause-room c =
    let size : length c.deref_mut-5.result.now ≡ length c.args.cycle.now.order.now =
    ap (λ (list : List ConeTable). length list) c.deref_mut-5.ensures.value ∙ c.requires.cone.gates.room ∙ ap (λ (o : Ordered). length o.order) c.requires.golden.fanout in
    omega (arith, size, c.list_tables-cone.ensures.few)

pub copy_tables-requires-clause-below : goal.copy_tables-requires-clause-below
copy_tables-requires-clause-below c = λ i lt.
    let cone = c.args.cone.now in
    let tables : (with_items cone.tables c.list_tables-cone.new.tables).items ≡ c.list_tables-cone.new.tables = grind (arith, common_steps) in
    omega (arith, ap (λ (list : List ℕ). get_or list i 0) (c.deref.ensures.value ∙ tables), c.list_tables-cone.ensures.below i lt, c.requires.gates.count)

pub find_stretches-requires-clause-few : goal.find_stretches-requires-clause-few
find_stretches-requires-clause-few c =
    let sound = c.requires.golden.sound in
    omega (arith, few_tables c.args.cycle.now.netlist.now sound, c.requires.golden.ordered.count, c.list_tables-cone.ensures.few)

pub find_stretches-requires-clause-tables : goal.find_stretches-requires-clause-tables
find_stretches-requires-clause-tables c =
    let cone = c.args.cone.now in
    let gates : (with_items cone.gates c.copy_tables.new.tables).items ≡ c.copy_tables.new.tables = grind (arith, common_steps) in
    let size : length c.deref-2.result.now ≡ length c.args.cycle.now.order.now =
    ap (λ (list : List ConeTable). length list) (c.deref-2.ensures.value ∙ gates) ∙ c.copy_tables.auto.tables ∙ ap (λ (list : List ConeTable). length list) c.deref_mut-5.ensures.value
    ∙ c.requires.cone.gates.room ∙ ap (λ (o : Ordered). length o.order) c.requires.golden.fanout in
    omega (arith, size, c.list_tables-cone.ensures.few)

pub find_stretches-requires-clause-room : goal.find_stretches-requires-clause-room
find_stretches-requires-clause-room c =
    let size : length c.deref_mut-6.result.now ≡ length c.args.cycle.now.order.now =
    ap (λ (list : List ℕ). length list) c.deref_mut-6.ensures.value ∙ c.requires.cone.stretches.room ∙ ap (λ (o : Ordered). length o.order) c.requires.golden.fanout in
    omega (arith, size, c.list_tables-cone.ensures.few)

pub returns : goal.returns
returns c =
    let cone = c.args.cone.now in
    let circuit = c.args.cycle.now.netlist.now in
    let order = c.args.cycle.now.order.now in
    let tables : (with_items cone.tables c.list_tables-cone.new.tables).items ≡ c.list_tables-cone.new.tables = grind (arith, common_steps) in
    let ends : (with_items cone.ends c.list_all-cone.new.list).items ≡ c.list_all-cone.new.list = grind (arith, common_steps) in
    let reads : (with_items cone.reads c.list_all-cone-2.new.list).items ≡ c.list_all-cone-2.new.list = grind (arith, common_steps) in
    let sources : (with_items cone.sources c.list_all-cone-3.new.list).items ≡ c.list_all-cone-3.new.list = grind (arith, common_steps) in
    let gates : (with_items cone.gates c.copy_tables.new.tables).items ≡ c.copy_tables.new.tables = grind (arith, common_steps) in
    let stretches : (with_items cone.stretches c.find_stretches.new.ends).items ≡ c.find_stretches.new.ends = grind (arith, common_steps) in
    let fanout = c.requires.golden.fanout in
    let drivers = ap (λ (o : Ordered). length o.circuit.drivers) fanout in
    let source_bound : c.find_sources.new.set.bound ≡ length circuit.drivers = c.find_sources.ensures.bound ∙ c.requires.cone.sources.bound ∙ drivers in
    let program = c.args.gates.now in
    let named = c.keep_named.new.own in
    let places = (with_items cone.tables c.list_tables-cone.new.tables).items in
    let listed = (with_items cone.gates c.copy_tables.new.tables).items in
    let gate_is : (i : ℕ) → i < c.list_tables-cone.result → (cone_table listed i).gate ≡ gate_at program (get_or places i 0) = λ i lt.
    ap (λ (ts : List ConeTable). (cone_table ts i).gate) gates ∙ c.copy_tables.ensures.gates i lt ∙ ap (λ (ps : List ℕ). gate_at program (get_or ps i 0)) c.deref.ensures.value in
    let forced_is : (i : ℕ) → i < c.list_tables-cone.result → (cone_table listed i).forced ≡ has named (gate_at program (get_or places i 0)).to = λ i lt.
    ap (λ (ts : List ConeTable). (cone_table ts i).forced) gates ∙ c.copy_tables.ensures.forced i lt ∙ ap (λ (ps : List ℕ). has named (gate_at program (get_or ps i 0)).to) c.deref.ensures.value in
    let program_has : (i : ℕ) → i < c.list_tables-cone.result → get_or places i 0 < length program = λ i lt.
    omega (arith, ap (λ (list : List ℕ). get_or list i 0) tables, c.list_tables-cone.ensures.below i lt, c.requires.gates.count) in
    let read_bound : c.find_reads.new.set.bound ≡ length circuit.drivers =
    c.find_reads.ensures.bound ∙ c.requires.cone.reads.bound ∙ ap (λ (o : Ordered). length o.circuit.drivers) fanout in
    let latches : c.latches.result.now ≡ circuit.latches = c.latches.ensures.value in
    let bound : c.find_latches.new.set.bound ≡ length circuit.latches =
    c.find_latches.ensures.bound ∙ c.requires.cone.ends.bound ∙ ap (λ (o : Ordered). length o.circuit.latches) fanout in
    let made : Cone = record {
      nets = c.reach.new.nets;
      left = c.reach.new.left;
      tables = with_items cone.tables c.list_tables-cone.new.tables;
      table_count = c.list_tables-cone.result;
      latches = c.find_latches.new.set;
      ends = with_items cone.ends c.list_all-cone.new.list;
      end_count = c.list_all-cone.result;
      read = c.find_reads.new.set;
      reads = with_items cone.reads c.list_all-cone-2.new.list;
      read_count = c.list_all-cone-2.result;
      named = named;
      source = c.find_sources.new.set;
      sources = with_items cone.sources c.list_all-cone-3.new.list;
      source_count = c.list_all-cone-3.result;
      gates = with_items cone.gates c.copy_tables.new.tables;
      stretches = with_items cone.stretches c.find_stretches.new.ends;
    } in
    subst (λ (o : Ordered). IsConeOf o made) (sym fanout)
    (record {
      nets = c.reach.ensures.nets ∙ c.requires.cone.nets ∙ ap (λ (o : Ordered). length o.circuit.drivers) fanout;
      left = c.reach.ensures.left ∙ c.requires.cone.left ∙ ap (λ (o : Ordered). length o.circuit.drivers) fanout;
      closed = subst (λ (o : Ordered). IsClosed o c.reach.new.nets) fanout c.reach.ensures.closed;
      room =
          ap (λ (list : List ℕ). length list) tables ∙ c.list_tables-cone.auto.tables ∙ ap (λ (list : List ℕ). length list) c.deref_mut.ensures.value
          ∙ c.requires.cone.room ∙ ap (λ (o : Ordered). length o.order) fanout;
      tables = subst (λ list. AreThose (λ place. has c.reach.new.nets (net_at order place).0) (length order) list c.list_tables-cone.result) (sym tables) c.list_tables-cone.ensures;
      ends = record {
        bound = bound;
        latches = λ l lt.
            c.find_latches.ensures.each l (omega (arith, lt, ap (λ (ls : List Latch). length ls) latches))
            ∙ ap (λ (ls : List Latch). has c.reach.new.nets (latch_at ls l).to.0) latches;
        room =
            ap (λ (list : List ℕ). length list) ends ∙ c.list_all-cone.auto.list ∙ ap (λ (list : List ℕ). length list) c.deref_mut-2.ensures.value
            ∙ c.requires.cone.ends.room ∙ ap (λ (o : Ordered). length o.circuit.latches) fanout;
        listed = subst (λ list. AreThose (has c.find_latches.new.set) (length circuit.latches) list c.list_all-cone.result) (sym ends)
            (subst (λ n. AreThose (has c.find_latches.new.set) n c.list_all-cone.new.list c.list_all-cone.result) bound c.list_all-cone.ensures);
      };
      reads = record {
        bound = read_bound;
        found = λ n lt none. subst (λ (o : Ordered). IsUnread o c.reach.new.nets n) fanout
            (c.find_reads.ensures.each n (omega (arith, lt, c.requires.cone.reads.bound, ap (λ (o : Ordered). length o.circuit.drivers) fanout)) none);
        room =
            ap (λ (list : List ℕ). length list) reads ∙ c.list_all-cone-2.auto.list ∙ ap (λ (list : List ℕ). length list) c.deref_mut-3.ensures.value
            ∙ c.requires.cone.reads.room ∙ ap (λ (o : Ordered). length o.circuit.drivers) fanout;
        listed = subst (λ list. AreThose (has c.find_reads.new.set) (length circuit.drivers) list c.list_all-cone-2.result) (sym reads)
            (subst (λ n. AreThose (has c.find_reads.new.set) n c.list_all-cone-2.new.list c.list_all-cone-2.result) read_bound c.list_all-cone-2.ensures);
      };
      sources = record {
        named = c.keep_named.ensures.bound ∙ c.requires.cone.sources.named ∙ drivers;
        inside = c.keep_named.ensures.inside;
        bound = source_bound;
        each = λ n lt. c.find_sources.ensures.each n (omega (arith, lt, c.requires.cone.sources.bound, drivers));
        room =
            ap (λ (list : List ℕ). length list) sources ∙ c.list_all-cone-3.auto.list ∙ ap (λ (list : List ℕ). length list) c.deref_mut-4.ensures.value
            ∙ c.requires.cone.sources.room ∙ drivers;
        listed = subst (λ list. AreThose (has c.find_sources.new.set) (length circuit.drivers) list c.list_all-cone-3.result) (sym sources)
            (subst (λ n. AreThose (has c.find_sources.new.set) n c.list_all-cone-3.new.list c.list_all-cone-3.result) source_bound c.list_all-cone-3.ensures);
      };
      gates = record {
        room =
            ap (λ (list : List ConeTable). length list) gates ∙ c.copy_tables.auto.tables ∙ ap (λ (list : List ConeTable). length list) c.deref_mut-5.ensures.value
            ∙ c.requires.cone.gates.room ∙ ap (λ (o : Ordered). length o.order) fanout;
        each = λ i lt. record {
          gate = subst (λ (gate : Gate). IsGate circuit gate) (sym (gate_is i lt)) (c.requires.gates.gates_are (get_or places i 0) (program_has i lt));
          to = ap (λ (gate : Gate). gate.to) (gate_is i lt) ∙ c.requires.gates.nets (get_or places i 0) (program_has i lt);
          forced = forced_is i lt ∙ ap (λ (gate : Gate). has named gate.to) (sym (gate_is i lt));
        };
      };
      stretches = record {
        room =
            ap (λ (list : List ℕ). length list) stretches ∙ c.find_stretches.auto.ends ∙ ap (λ (list : List ℕ). length list) c.deref_mut-6.ensures.value
            ∙ c.requires.cone.stretches.room ∙ ap (λ (o : Ordered). length o.order) fanout;
        ends = subst (λ list. AreStretches listed c.list_tables-cone.result list) (sym stretches)
            (subst (λ (ts : List ConeTable). AreStretches ts c.list_tables-cone.result c.find_stretches.new.ends) c.deref-2.ensures.value c.find_stretches.ensures);
      };
    })
