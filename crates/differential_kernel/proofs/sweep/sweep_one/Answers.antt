use Rattle.std.proofs.Common.{◌≡◌, ◌+◌, false, List, length, get_or, set, ap, sym, subst, ◌∙◌, arith}
use Rattle.circuit.specs.Value.{bit_at, driven, driver_at, table_gives}
use Rattle.lane_words.specs.Forces.{force_value}
use Rattle.lane_words.specs.Gates.{IsGate, plane}
use Rattle.place_set.specs.Places.{has}
use Rattle.differential_kernel.specs.declared.cone.ConeTable.{ConeTable}
use Rattle.differential_kernel.specs.Cone.{cone_table}
use Rattle.differential_kernel.specs.Shown.{ReadGolden}
use Rattle.differential_kernel.specs.Sweeps.{SweepsOn}
use Rattle.differential_kernel.proofs.Sweeping.{free_here, gate_here, read_on, swept_on}
use Rattle.differential_kernel.proofs.sweep.sweep_one.Goals as goal

pub bounds-tables-at : goal.bounds-tables-at
bounds-tables-at g c =
    omega (arith, c.requires.at, c.requires.fit.cone.tables.few, c.requires.fit.cone.gates.room, ap (λ (ts : List ConeTable). length ts) c.as_slice-tables.ensures.value)

pub table_word-requires-clause-gate : goal.table_word-requires-clause-gate
table_word-requires-clause-gate g c =
    let at = c.args.at in
    subst (λ (ts : List ConeTable). IsGate c.args.cycle.now.netlist.now (cone_table ts at).gate) (sym c.as_slice-tables.ensures.value)
    (gate_here g.W.Word.lanes g.W.Word.lane_bit c.args.cycle.now c.args.forces.now c.args.cone.now c.requires.fit at c.requires.at)

pub table_word-requires-clause-named : goal.table_word-requires-clause-named
table_word-requires-clause-named g c =
    let at = c.args.at in
    subst (λ (ts : List ConeTable). (cone_table ts at).forced ≡ false → has c.args.forces.now.named (cone_table ts at).gate.to ≡ false) (sym c.as_slice-tables.ensures.value)
    (free_here g.W.Word.lanes g.W.Word.lane_bit c.args.cycle.now c.args.forces.now c.args.cone.now c.requires.fit at c.requires.at)

pub returns-clause-values : goal.returns-clause-values
returns-clause-values g c =
    let lanes = g.W.Word.lanes in
    let bit = g.W.Word.lane_bit in
    let cycle = c.args.cycle.now in
    let circuit = cycle.netlist.now in
    let forces = c.args.forces.now in
    let cone = c.args.cone.now in
    let at = c.args.at in
    let values = c.args.values.now in
    let v = c.table_word.result in
    let slot : (cone_table cone.gates.items at).gate.to ≡ (cone_table c.as_slice-tables.result.now at).gate.to =
    ap (λ (ts : List ConeTable). (cone_table ts at).gate.to) (sym c.as_slice-tables.ensures.value) in
    subst (λ j. SweepsOn lanes bit cycle forces cone at (at + 1) values (set values j v)) slot
    (swept_on lanes bit cycle forces cone c.requires.fit at c.requires.at values c.requires.room c.requires.read v
    (λ k d state inputs lt. c.table_word.ensures k d state inputs lt
    ∙ ap (λ n. force_value bit k (get_or forces.by_net.items n d) (driven state inputs (table_gives circuit (bit_at (plane bit k values))) (driver_at circuit n))) (sym slot)))

pub returns-clause-read : goal.returns-clause-read
returns-clause-read g c =
    let lanes = g.W.Word.lanes in
    let bit = g.W.Word.lane_bit in
    let cycle = c.args.cycle.now in
    let cone = c.args.cone.now in
    let at = c.args.at in
    let values = c.args.values.now in
    let v = c.table_word.result in
    let slot : (cone_table cone.gates.items at).gate.to ≡ (cone_table c.as_slice-tables.result.now at).gate.to =
    ap (λ (ts : List ConeTable). (cone_table ts at).gate.to) (sym c.as_slice-tables.ensures.value) in
    subst (λ j. ReadGolden lanes bit cycle.row.now cone (set values j v)) slot
    (read_on lanes bit cycle c.args.forces.now cone c.requires.fit at c.requires.at values c.requires.room c.requires.read v)
