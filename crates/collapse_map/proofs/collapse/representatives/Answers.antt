use Rattle.std.proofs.Common.{◌≡◌, ◌<◌, ◌≤◌, ◌+◌, ◌-◌, ◌*◌, ◌∙◌, ℕ, List, [], ◌∷◌, ◌++◌, length, map, take, drop, get_or, set, ap, sym, subst, arith, refl}
use Rattle.std.proofs.lemmas.Grind.{common_steps}
use Rattle.circuit.specs.declared.parts.NetId.{NetId}
use Rattle.collapse_map.specs.Collapsed.{Collapsed, watched}
use Rattle.collapse_map.specs.Looks.{AreLooks, looked_at}
use Rattle.collapse_map.specs.Settled.{AreGiven, AreAllReached, collapsed}
use Rattle.collapse_map.specs.declared.looks.Looks.{Looks}
use Rattle.collapse_map.proofs.Linking.{first_settled, last_settled, stuck_first}
use Rattle.collapse_map.proofs.collapse.representatives.Goals as goal

pub link_all-requires-clause-reps : goal.link_all-requires-clause-reps
link_all-requires-clause-reps c =
    let s : Collapsed = collapsed c.args.net.now c.args.faults.now (watched c.args.points.now) in
    let stuck = stuck_first s c.args.order.now c.in_ok-looks.ensures.sound c.requires.order c.requires.faults in
    omega (arith, stuck, ap length c.deref_mut.ensures.value, c.in_ok-reps.ensures.sized)

pub returns-clause-numbers : goal.returns-clause-numbers
returns-clause-numbers c =
    let s : Collapsed = collapsed c.args.net.now c.args.faults.now (watched c.args.points.now) in
    let order : List NetId = c.args.order.now in
    let given : AreGiven s c.deref.result.now order = record {
      listed = c.requires.faults;
      looked = subst (λ (looks : List Looks). AreLooks (looked_at s.circuit s.watched) looks) (sym c.deref.ensures.value) c.in_ok-looks.ensures.looks;
      ordered = c.requires.order;
    } in
    let first : AreAllReached s order (length order) c.deref_mut.result.now =
    subst (AreAllReached s order (length order)) (sym (c.deref_mut.ensures.value ∙ c.in_ok-reps.ensures.numbers c.args.net.now c.requires.faults))
    (first_settled s order c.in_ok-looks.ensures.sound c.requires.order c.requires.faults) in
    let back : take c.in_ok-reps.reps.len (c.link_all.new.reps ++ drop (length c.link_all.new.reps) c.in_ok-reps.reps.items) ≡ c.link_all.new.reps = grind (arith, common_steps) in
    back
    ∙ last_settled s order c.in_ok-looks.ensures.sound c.requires.order c.requires.faults c.link_all.new.reps (c.in_ok-link_all.ensures c.args.faults.now (watched c.args.points.now) given first)
