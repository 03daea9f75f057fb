use Rattle.std.proofs.Common.{◌≡◌, ◌≤◌, ◌^◌, [], ◌∷◌, length, sym, subst}
use Rattle.alarm_points.specs.Listed.{IsHalfway}
use Rattle.alarm_points.proofs.Whole.{halfway_step, room, row_refused}
use Rattle.alarm_points.proofs.file.list_rows.Goals as goal

-- a row has a fault
pub returns-in-Some-fault : goal.returns-in-Some-fault
returns-in-Some-fault c =
    let read : c.each.rows ≡ c.in-Some.row ∷ c.next.new.self = rw c.in-Some.is at c.in_ok-row.ensures.row in
    λ net bytes halfway. rw (c.refusal.ensures, c.len.ensures)
    (row_refused net bytes c.each.listed c.in-Some.row c.each.rows c.next.new.self c.in-Some-fault.kind (c.each.invariant.2 net bytes halfway) read (sym c.in-Some-fault.ensures))

-- it has none
pub each-preserved : goal.each-preserved
each-preserved c =
    let read : c.each.rows ≡ c.in-Some.row ∷ c.next.new.self = rw c.in-Some.is at c.in_ok-row.ensures.row in
    let none = sym c.in_default-fault.ensures in
    let added = c.in_ok-add.ensures in
    let few : length c.add.new.self.nets ≤ 2 ^ 18 = rw added.nets c.each.invariant.0 in (
      few,
      room c.each.listed c.add.new.self c.in-Some.row none added,
      λ net bytes halfway. halfway_step net bytes c.each.listed c.add.new.self c.in-Some.row c.each.rows c.next.new.self (c.each.invariant.2 net bytes halfway) read none added,
    )

-- there is no further row
pub returns : goal.returns
returns c =
    let read : (c.each.rows ≡ []) × (c.next.new.self ≡ []) = rw c.in_default.is at c.in_ok-row.ensures.row in
    λ net bytes halfway. subst (IsHalfway net bytes c.each.listed) read.0 (c.each.invariant.2 net bytes halfway)
