use Rattle.std.proofs.Common.{◌≡◌, ◌<◌, ◌≤◌, ◌+◌, ◌∙◌, ℕ, List, [], ◌∷◌, ◌++◌, length, map, take, get_or, set, ap, sym, subst, arith, refl}
use Rattle.std.specs.Prelude.{flat_map}
use Rattle.std.specs.List.{All}
use Rattle.std.proofs.lemmas.List.{take_all}
use Rattle.circuit.specs.declared.parts.NetId.{NetId}
use Rattle.alarm_points.specs.declared.Goal.{Goal}
use Rattle.collapse_map.specs.Looks.{AreLooks}
use Rattle.collapse_map.proofs.Looking.{goal_nets, parts_more}
use Rattle.collapse_map.proofs.looks.look_by_goals.Goals as goal

pub look_at-requires : goal.look_at-requires
look_at-requires c =
    let goals : List Goal = c.as_slice-goals.result.now in
    let i : ℕ = c.loop-goal.goal-index in
    let item : Goal = c.goal-item.result in
    let points : All (λ (net : NetId). net.0 < length c.loop-goal.looks) (flat_map (λ goal. goal.observe) goals) =
    subst (λ (gs : List Goal). All (λ (net : NetId). net.0 < length c.loop-goal.looks) (flat_map (λ goal. goal.observe) gs)) (sym c.as_slice-goals.ensures)
    (subst (λ n. All (λ (net : NetId). net.0 < n) (flat_map (λ goal. goal.observe) c.args.points.now.goals)) (sym c.loop-goal.auto.looks) c.requires) in
    goal_nets (length c.loop-goal.looks) i goals item c.as_slice.result.now c.loop-goal-test.true (c.as_slice.ensures ∙ ap (λ (g : Goal). g.observe) c.goal-item.is) points

pub loop-goal-preserved : goal.loop-goal-preserved
loop-goal-preserved c = λ seen are.
    let goals : List Goal = c.as_slice-goals.result.now in
    let i : ℕ = c.loop-goal.goal-index in
    let item : Goal = c.goal-item.result in
    let before : List NetId = seen ++ flat_map (λ goal. goal.observe) (take i goals) in
    let nets : c.as_slice.result.now ≡ (get_or goals i item).observe = c.as_slice.ensures ∙ ap (λ (g : Goal). g.observe) c.goal-item.is in
    subst (λ (xs : List NetId). AreLooks xs c.look_at.new.looks)
    (ap (λ (xs : List NetId). before ++ xs) nets ∙ parts_more (λ (g : Goal). g.observe) seen goals i item c.loop-goal-test.true)
    (c.look_at.ensures before (c.loop-goal.invariant seen are))

pub returns : goal.returns
returns c = λ seen are.
    subst (λ (xs : List Goal). AreLooks (seen ++ flat_map (λ goal. goal.observe) xs) c.loop-goal.looks)
    (take_all c.loop-goal.goal-index c.as_slice-goals.result.now c.loop-goal-test.false ∙ c.as_slice-goals.ensures) (c.loop-goal.invariant seen are)
