use Rattle.std.proofs.Common.{◌≡◌, ◌<◌, ◌≤◌, ◌+◌, ◌-◌, ◌*◌, ◌∙◌, ℕ, List, [], ◌∷◌, ◌++◌, length, map, take, get_or, set, ap, sym, subst, arith, refl}
use Rattle.std.proofs.Common.{false, true}
use Rattle.circuit.specs.declared.parts.Driver.TheVariants.{Table as FromTable}
use Rattle.circuit.specs.declared.parts.Driver.{Driver}
use Rattle.circuit.specs.declared.parts.NetId.{NetId}
use Rattle.circuit.specs.Value.{driver_at}
use Rattle.collapse_map.specs.Collapsed.{Collapsed}
use Rattle.circuit.specs.Order.{net_at}
use Rattle.collapse_map.specs.Looks.{is_one_look}
use Rattle.collapse_map.specs.Settled.{AreSeen, collapsed}
use Rattle.collapse_map.specs.declared.looks.Looks.TheVariants.{Nobody}
use Rattle.collapse_map.proofs.Passes.{step_more, step_one, table_done}
use Rattle.collapse_map.proofs.links.link_table.Goals as goal
use Rattle.collapse_map.proofs.links.link_table.Goals.{then-is_one, else-is_one}

-- the net at a place of the order is driven by a table
pub returns-in_default : goal.returns-in_default
returns-in_default c = λ faults watched order at given lt at_is settled.
    let table = given.ordered.tables at lt in
    absurd (c.in_default.not-Table table.0 (c.driver.ensures.value ∙ ap (λ (net : NetId). driver_at c.args.net.now net.0) (sym at_is) ∙ table.1))

pub loop-place-preserved : goal.loop-place-preserved
loop-place-preserved c = λ faults watched order at given lt at_is settled.
    let s : Collapsed = collapsed c.args.net.now faults watched in
    let place : ℕ = c.loop-place.place in
    let k : ℕ = c.in-Table.k in
    let seen = c.loop-place.invariant faults watched order at given lt at_is settled in
    let inside : place < length c.table-table.result.now.ins = omega (arith, c.loop-place-test.true, ap length c.as_slice-read-items.ensures) in
    let test : is_one_look (get_or c.args.looks.now (net_at c.table-table.result.now.ins place).0 Nobody) ≡ c.is_one.result =
    ap (λ (nets : List NetId). is_one_look (get_or c.args.looks.now (net_at nets place).0 Nobody)) (sym c.as_slice-read-items.ensures) ∙ sym c.is_one.ensures in
    elim c.if-is_one.branch as (λ _. AreSeen s order at (take (place + 1) c.table-table.result.now.ins) c.if-is_one.reps) [
      | then-is_one w ↦
          step_one s c.args.looks.now order at k c.args.to c.driver.ensures.sound given c.requires.looks lt at_is c.requires.to
          (sym c.in-Table.ensures.value) c.in-Table.ensures.fits place c.table-table.result.now c.loop-place.reps w.link.new.reps c.if-is_one.reps c.table-table.ensures.value inside
          (test ∙ w.if-is_one.true) w.link.ensures (w.reps-is ∙ w.link-then-is_one.ensures) seen
      | else-is_one w ↦
          subst (AreSeen s order at (take (place + 1) c.table-table.result.now.ins)) (sym w.reps-is)
          (step_more s c.args.looks.now order at k c.args.to c.driver.ensures.sound given c.requires.looks lt at_is c.requires.to
          (sym c.in-Table.ensures.value) c.in-Table.ensures.fits place c.table-table.result.now c.loop-place.reps c.table-table.ensures.value inside (test ∙ w.if-is_one.false) seen)
    ]

pub returns : goal.returns
returns c = λ faults watched order at given lt at_is settled.
    let s : Collapsed = collapsed c.args.net.now faults watched in
    let end : length c.table-table.result.now.ins ≤ c.loop-place.place = omega (arith, c.loop-place-test.false, ap length c.as_slice-read-items.ensures) in
    table_done s c.args.looks.now order at c.in-Table.k c.args.to c.driver.ensures.sound given c.requires.looks lt at_is c.requires.to
    (sym c.in-Table.ensures.value) c.in-Table.ensures.fits c.loop-place.place c.table-table.result.now c.loop-place.reps c.table-table.ensures.value end
    (c.loop-place.invariant faults watched order at given lt at_is settled)
