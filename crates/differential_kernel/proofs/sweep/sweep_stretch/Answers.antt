use Rattle.std.proofs.Common.{◌≡◌, ◌<◌, ◌+◌, List, length, set, ap, sym, subst, ◌∙◌, arith}
use Rattle.circuit.specs.Value.{bit_at}
use Rattle.lane_words.specs.Gates.{op_value, plane}
use Rattle.differential_kernel.specs.declared.cone.ConeTable.{ConeTable}
use Rattle.differential_kernel.specs.Cone.{cone_table}
use Rattle.differential_kernel.specs.Shown.{ReadGolden}
use Rattle.differential_kernel.specs.Sweeps.{SweepsOn}
use Rattle.differential_kernel.proofs.Sweeping.{plain_gives, read_on, swept_on}
use Rattle.differential_kernel.proofs.sweep.sweep_stretch.Goals as goal

pub bounds-tables-at : goal.bounds-tables-at
bounds-tables-at g c =
    omega (arith, c.loop-at-test.true, c.requires.to, c.requires.fit.cone.tables.few, c.requires.fit.cone.gates.room, ap (λ (ts : List ConeTable). length ts) c.as_slice-tables.ensures.value)

pub word_by_op-requires-clause-narrow : goal.word_by_op-requires-clause-narrow
word_by_op-requires-clause-narrow g c = (c.requires.stretch c.loop-at.at (omega arith) (omega (arith, c.loop-at-test.true))).narrow

pub loop-at-preserved : goal.loop-at-preserved
loop-at-preserved g c =
    let lanes = g.W.Word.lanes in
    let bit = g.W.Word.lane_bit in
    let cycle = c.args.cycle.now in
    let forces = c.args.forces.now in
    let cone = c.args.cone.now in
    let fit = c.requires.fit in
    let at = c.loop-at.at in
    let values = c.loop-at.values in
    let v = c.word_by_op.result in
    let lt_at : at < cone.table_count = omega (arith, c.loop-at-test.true, c.requires.to) in
    let size : length values ≡ length cycle.netlist.now.drivers = c.loop-at.auto.values ∙ c.requires.room in
    let tables = c.as_slice-tables.ensures.value in
    let slot : (cone_table cone.gates.items at).gate.to ≡ (cone_table c.as_slice-tables.result.now at).gate.to = ap (λ (ts : List ConeTable). (cone_table ts at).gate.to) (sym tables) in
    let plain = c.requires.stretch at (omega arith) (omega (arith, c.loop-at-test.true)) in
    let gives = plain_gives lanes bit cycle forces cone fit at g.row.OP lt_at plain values v
    (λ k lt. c.word_by_op.ensures k lt
    ∙ ap (λ (ts : List ConeTable). op_value g.row.OP (bit_at (plane bit k values) (cone_table ts at).gate.a) (bit_at (plane bit k values) (cone_table ts at).gate.b)) tables) in
    record {
      values = λ k x golden lt pair are first.
          subst (λ j. SweepsOn lanes bit cycle forces cone at (at + 1) values (set values j v)) slot
          (swept_on lanes bit cycle forces cone fit at lt_at values size c.loop-at.invariant.read v gives)
          k x golden lt pair are (c.loop-at.invariant.values k x golden lt pair are first);
      read = subst (λ j. ReadGolden lanes bit cycle.row.now cone (set values j v)) slot (read_on lanes bit cycle forces cone fit at lt_at values size c.loop-at.invariant.read v);
      cost = omega (arith, c.tick.ensures, c.loop-at.invariant.cost);
    }

pub returns-clause-values : goal.returns-clause-values
returns-clause-values g c =
    let e : c.loop-at.at ≡ c.args.to = omega arith in
    subst (λ j. SweepsOn g.W.Word.lanes g.W.Word.lane_bit c.args.cycle.now c.args.forces.now c.args.cone.now c.args.from j c.args.values.now c.loop-at.values) e c.loop-at.invariant.values
