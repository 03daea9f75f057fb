use Rattle.std.proofs.Common.{◌≤◌, ℕ, List, length, get_or, ap, sym, subst, arith}
use Rattle.differential_kernel.specs.declared.cone.ConeTable.{ConeTable}
use Rattle.differential_kernel.specs.Cone.{IsStretch, cone_table}
use Rattle.differential_kernel.proofs.sweep.sweep_next.Goals as goal

pub bounds-ends-at : goal.bounds-ends-at
bounds-ends-at g c =
    omega (arith, c.requires.at, c.requires.fit.cone.tables.few, c.requires.fit.cone.stretches.room, ap (λ (list : List ℕ). length list) c.as_slice-ends.ensures.value)

pub bounds-tables-at : goal.bounds-tables-at
bounds-tables-at g c =
    omega (arith, c.requires.at, c.requires.fit.cone.tables.few, c.requires.fit.cone.gates.room, ap (λ (ts : List ConeTable). length ts) c.as_slice-tables.ensures.value)

pub sweep_by_op-requires-clause-to : goal.sweep_by_op-requires-clause-to
sweep_by_op-requires-clause-to g c =
    subst (λ (list : List ℕ). get_or list c.args.at 0 ≤ c.args.cone.now.table_count) (sym c.as_slice-ends.ensures.value) (c.requires.fit.cone.stretches.ends.most c.args.at c.requires.at)

pub sweep_by_op-requires-clause-stretch : goal.sweep_by_op-requires-clause-stretch
sweep_by_op-requires-clause-stretch g c =
    let at = c.args.at in
    let items = c.args.cone.now.gates.items in
    subst (λ (list : List ℕ). IsStretch items (cone_table c.as_slice-tables.result.now at).gate.op at (get_or list at 0)) (sym c.as_slice-ends.ensures.value)
    (subst (λ (ts : List ConeTable). IsStretch items (cone_table ts at).gate.op at (get_or c.args.cone.now.stretches.items at 0)) (sym c.as_slice-tables.ensures.value)
    (c.requires.fit.cone.stretches.ends.each at c.requires.at))
