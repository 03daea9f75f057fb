use Rattle.std.proofs.Common.{◌≡◌, ◌<◌, ◌≤◌, ◌+◌, ◌∙◌, ℕ, List, [], ◌∷◌, ◌++◌, length, map, take, get_or, set, ap, sym, subst, arith, refl}
use Rattle.std.proofs.Common.{◌-◌, false, ap₂, ◌⊎◌, inl, inr}
use Rattle.fault_list.specs.Faults.{fault_at}
use Rattle.collapse_map.specs.Collapsed.{same_fault}
use Rattle.collapse_map.specs.Numbers.{are_beside}
use Rattle.collapse_map.proofs.Beside.{far_apart, number_is}
use Rattle.collapse_map.proofs.numbers.first_like.Goals as goal

pub returns-after-loop-j : goal.returns-after-loop-j
returns-after-loop-j c = λ circuit listed.
    let inv = c.loop-j.invariant in
    number_is c.args.faults.now c.args.i c.loop-j.first c.requires inv.within inv.same (λ q lt. let none : c.loop-j.j ≤ q = omega arith in inv.before q none lt)

pub returns-then-not-are_beside : goal.returns-then-not-are_beside
returns-then-not-are_beside c = λ circuit listed.
    let inv = c.loop-j.invariant in
    let i : ℕ = c.args.i in
    let j : ℕ = c.loop-j.j - 1 in
    let some : 0 < c.loop-j.j = c.loop-j-test.true in
    let upto : c.loop-j.j ≤ i = c.loop-j.auto.j in
    let apart : are_beside (fault_at c.args.faults.now i) (fault_at c.args.faults.now j) ≡ false =
    ap₂ are_beside (sym c.fault-fault.ensures) (sym c.fault-other.ensures) ∙ sym c.are_beside.ensures ∙ c.if-not-are_beside.true in
    number_is c.args.faults.now i c.loop-j.first c.requires inv.within inv.same (λ q lt.
    let split : (q ≤ j) ⊎ (c.loop-j.j ≤ q) = grind arith in
    elim split as (λ _. same_fault (fault_at c.args.faults.now i) (fault_at c.args.faults.now q) ≡ false) [
      | inl low ↦ far_apart circuit c.args.faults.now q j i listed low (omega (arith, some, upto)) c.requires apart
      | inr high ↦ inv.before q high lt
    ])
