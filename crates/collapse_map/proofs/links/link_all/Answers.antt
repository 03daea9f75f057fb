use Rattle.std.proofs.Common.{◌≡◌, ◌<◌, ◌≤◌, ◌+◌, ◌-◌, ◌*◌, ◌∙◌, ℕ, List, [], ◌∷◌, ◌++◌, length, map, take, get_or, set, ap, sym, subst, arith, refl}
use Rattle.circuit.specs.declared.parts.NetId.{NetId}
use Rattle.collapse_map.specs.Collapsed.{Collapsed}
use Rattle.collapse_map.specs.Settled.{AreAllReached, collapsed}
use Rattle.collapse_map.proofs.links.link_all.Goals as goal

pub loop-at-preserved : goal.loop-at-preserved
loop-at-preserved c = λ faults watched given settled.
    let s : Collapsed = collapsed c.args.net.now faults watched in
    let order : List NetId = c.args.order.now in
    let at : ℕ = c.loop-at.at - 1 in
    let some : 0 < c.loop-at.at = c.loop-at-test.true in
    let back : c.loop-at.at ≡ at + 1 = omega arith in
    let upto : c.loop-at.at ≤ length order = omega (arith, c.loop-at.auto.at, ap length c.nets-nets.ensures) in
    c.in_ok-link_table.ensures faults watched order at given (omega (arith, some, upto)) (ap (λ (nets : List NetId). get_or nets at (record { 0 = 0 })) (sym c.nets-nets.ensures))
    (subst (λ n. AreAllReached s order n c.loop-at.reps) back (c.loop-at.invariant faults watched given settled))

pub returns : goal.returns
returns c = λ faults watched given settled.
    let s : Collapsed = collapsed c.args.net.now faults watched in
    let end : c.loop-at.at ≡ 0 = omega (arith, c.loop-at-test.false) in
    subst (λ n. AreAllReached s c.args.order.now n c.loop-at.reps) end (c.loop-at.invariant faults watched given settled)
