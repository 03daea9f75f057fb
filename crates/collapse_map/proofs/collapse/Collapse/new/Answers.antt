use Rattle.std.proofs.Common.{◌≡◌, ◌<◌, ◌≤◌, ◌+◌, ◌-◌, ◌*◌, ◌∙◌, ℕ, List, [], ◌∷◌, ◌++◌, length, map, take, drop, get_or, set, ap, sym, subst, arith, refl}
use Rattle.std.proofs.lemmas.List.FromFn.{length-map-range_with_len}
use Rattle.std.specs.Prelude.{count_by, ◌==◌}
use Rattle.circuit.specs.declared.parts.NetId.{NetId}
use Rattle.circuit.specs.declared.parts.Fault.{Fault}
use Rattle.circuit.specs.Circuit.{Circuit}
use Rattle.alarm_points.specs.declared.Points.{Points}
use Rattle.fm_base.specs.Lists.{below}
use Rattle.collapse_map.specs.Collapsed.{Collapsed, HoldsRepresentatives, rep_of, watched}
use Rattle.collapse_map.specs.Settled.{collapsed}
use Rattle.collapse_map.proofs.Looking.{watched_nets}
use Rattle.collapse_map.proofs.Owned.{holds_all}
use Rattle.collapse_map.proofs.collapse.Collapse.new.Goals as goal

-- as many numbers as faults
sized : (s : Collapsed) (reps lent : List ℕ) → lent ≡ reps → reps ≡ map (rep_of s) (below (length s.faults)) → length lent ≡ length s.faults
unfolding below
sized s reps lent same numbers = ap length (same ∙ numbers) ∙ length-map-range_with_len (rep_of s) 0 (length s.faults)

pub count_own-count-requires : goal.count_own-count-requires
count_own-count-requires c =
    let s : Collapsed = collapsed c.args.net.now c.args.faults.now (watched c.args.points.now) in
    let size = sized s c.in_ok-reps.reps.items c.deref.result.now c.deref.ensures.value c.in_ok-reps.ensures.numbers in
    omega (arith, size, c.in_ok-reps.ensures.few)

pub invariant_of-result : goal.invariant_of-result
invariant_of-result c =
    let s : Collapsed = collapsed c.args.net.now c.args.faults.now (watched c.args.points.now) in
    let lent : List ℕ = c.deref.result.now in
    let size : length lent ≡ length s.faults = sized s c.in_ok-reps.reps.items lent c.deref.ensures.value c.in_ok-reps.ensures.numbers in
    let numbers : lent ≡ map (rep_of s) (below (length lent)) = c.deref.ensures.value ∙ c.in_ok-reps.ensures.numbers ∙ ap (λ n. map (rep_of s) (below n)) (sym size) in
    let own : c.count_own-count.result ≡ count_by (λ i. rep_of s i == i) (below (length s.faults)) =
    c.count_own-count.ensures (rep_of s) numbers ∙ ap (λ n. count_by (λ i. rep_of s i == i) (below n)) size in
    let made : HoldsRepresentatives s c.from_vec.result c.count_own-count.result =
    holds_all s c.args.order.now c.from_vec.result c.count_own-count.result c.in_ok-reps.ensures.sound c.requires.order c.requires.faults (watched_nets c.args.net.now c.args.points.now c.requires.points)
    (c.from_vec.ensures ∙ c.in_ok-reps.ensures.numbers) own in
    subst (λ (circuit : Circuit). HoldsRepresentatives (record { circuit = circuit; faults = c.of-2.result.value; watched = watched c.of-3.result.value }) c.from_vec.result c.count_own-count.result) (sym c.of.ensures)
    (subst (λ (faults : List Fault). HoldsRepresentatives (record { circuit = c.args.net.now; faults = faults; watched = watched c.of-3.result.value }) c.from_vec.result c.count_own-count.result) (sym c.of-2.ensures)
    (subst (λ (points : Points). HoldsRepresentatives (record { circuit = c.args.net.now; faults = c.args.faults.now; watched = watched points }) c.from_vec.result c.count_own-count.result) (sym c.of-3.ensures) made))
