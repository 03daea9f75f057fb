use Rattle.std.proofs.Common.{◌≡◌, ◌∙◌, ◌≤◌, [], ◌∷◌, length, sym, subst, ap, arith, length-append}
use Rattle.std.specs.Prelude.{None}
use Rattle.held_inputs.specs.Steps.{IsHalfway, fault_by}
use Rattle.held_inputs.proofs.Kept.{passes}
use Rattle.held_inputs.proofs.Whole.{row_refused, step}
use Rattle.held_inputs.proofs.file.list_rows.Goals as goal

-- a row has a fault
pub returns-in-Some-fault : goal.returns-in-Some-fault
returns-in-Some-fault c =
    let read : c.each.rows ≡ c.in-Some.row ∷ c.next.new.self = rw c.in-Some.is at c.in_ok-row.ensures.row in
    λ bytes halfway. rw (c.refusal.ensures, c.len.ensures)
    (row_refused c.args.net.now bytes c.each.listed c.in-Some.row c.each.rows c.next.new.self c.in-Some-fault.kind (c.each.invariant.1 bytes halfway) read (ap (λ some. fault_by c.args.net.now some c.in-Some.row) (sym c.as_slice.ensures) ∙ sym c.in-Some-fault.ensures))

-- it has none
pub each-preserved : goal.each-preserved
each-preserved c =
    let read : c.each.rows ≡ c.in-Some.row ∷ c.next.new.self = rw c.in-Some.is at c.in_ok-row.ensures.row in
    let none : fault_by c.args.net.now c.each.listed c.in-Some.row ≡ None =
    ap (λ some. fault_by c.args.net.now some c.in-Some.row) (sym c.as_slice.ensures) ∙ sym c.in_default-fault.ensures in
    let added = c.in_ok-push.ensures.ok in
    let p = passes c.args.net.now c.each.listed c.in-Some.row none in (
      omega (arith, ap length added, length-append c.each.listed (c.in-Some.row ∷ []), p.1),
      λ bytes halfway.
          step c.args.net.now bytes c.each.listed c.push.new.self c.in-Some.row c.each.rows c.next.new.self (c.each.invariant.1 bytes halfway) read none added,
    )

-- there is no further row
pub returns : goal.returns
returns c =
    let read : (c.each.rows ≡ []) × (c.next.new.self ≡ []) = rw c.in_default.is at c.in_ok-row.ensures.row in
    λ bytes halfway. subst (IsHalfway c.args.net.now bytes c.each.listed) read.0 (c.each.invariant.1 bytes halfway)
