use Rattle.std.proofs.Common.{◌≡◌, ◌≢◌, ◌<◌, ℕ, Bool, List, [], length, get_or, refl, ap, sym, ◌∙◌, subst, not, arith, get_or-set_other, length-set}
use Rattle.std.specs.List.{All, list_any}
use Rattle.std.proofs.lemmas.List.{get_or_default}
use Rattle.circuit.specs.declared.parts.Fault.{Fault}
use Rattle.circuit.specs.declared.parts.NetId.{NetId}
use Rattle.circuit.specs.Sound.{IsNet}
use Rattle.alarm_points.specs.declared.Goal.{Goal}
use Rattle.campaign_plan.specs.Danger.{differs, golden, with_faults}
use Rattle.fm_base.specs.Lists.{same_bit}
use Rattle.lane_words.specs.Loads.{loaded_faults}
use Rattle.fault_runs.specs.First.{FirstCycles, fault_in, first_of}
use Rattle.fault_runs.specs.Records.{IsGoalKnown, goal_cycles}
use Rattle.fault_runs.proofs.EachItem.{each_set}
use Rattle.fault_runs.proofs.see.see_goals.Goals as goal
use Rattle.first_cycles.specs.FirstCycles.{first_with}
use Rattle.testbench.specs.Points.{goal_at}

pub loop-g-init : goal.loop-g-init
loop-g-init o c = record {
  count = c.requires.count;
  places = λ h. refl;
  known = c.requires.known;
  done = λ run draw row h k less. absurd (omega (arith, less));
  others = λ h i none. refl;
  left = λ h le. refl;
}

pub differ_in-differ-requires : goal.differ_in-differ-requires
differ_in-differ-requires o c =
    let goals = c.args.goals.now in
    let g = c.loop-g.g in
    let own = c.index-goals-g.result in
    let nets : c.as_slice.result.now ≡ (goal_at goals g).observe =
    c.as_slice.ensures ∙ ap (λ (o : Goal). o.observe) (c.index-goals-g.is ∙ get_or_default goals g own _ c.loop-g-test.true) in
    subst (λ (ns : List NetId). All (IsNet c.args.lanes.now.circuit) ns) (sym nets) (c.requires.nets g c.loop-g-test.true)

pub see-requires-clause-group : goal.see-requires-clause-group
see-requires-clause-group o c = λ k d lt.
    let g = c.loop-g.g in
    let inv = c.loop-g.invariant in
    let firsts = c.loop-g.firsts in
    let inside : g < length firsts = omega (arith, inv.count, c.loop-g-test.true) in
    subst (λ (f : FirstCycles). get_or c.args.group.now k d < length f.cycles)
    (sym (get_or_default firsts g _ (goal_cycles [] 0) inside ∙ inv.left g (omega arith)))
    (c.requires.group g c.loop-g-test.true k d lt)

pub see-requires-clause-known : goal.see-requires-clause-known
see-requires-clause-known o c =
    let g = c.loop-g.g in
    let inv = c.loop-g.invariant in
    let firsts = c.loop-g.firsts in
    let inside : g < length firsts = omega (arith, inv.count, c.loop-g-test.true) in
    subst (λ (f : FirstCycles). IsGoalKnown c.args.group.now f) (sym (get_or_default firsts g _ (goal_cycles [] 0) inside)) (inv.known g c.loop-g-test.true)

pub loop-g-preserved : goal.loop-g-preserved
loop-g-preserved o c =
    let goals = c.args.goals.now in
    let group = c.args.group.now in
    let g = c.loop-g.g in
    let t = c.args.t in
    let own = c.index-goals-g.result in
    let inv = c.loop-g.invariant in
    let firsts = c.loop-g.firsts in
    let was = c.args.firsts.now in
    let new : FirstCycles = c.see.new.self in
    let none : FirstCycles = goal_cycles [] 0 in
    let circuit = c.args.lanes.now.circuit in
    let force = c.args.lanes.now.in_force in
    let inside : g < length firsts = omega (arith, inv.count, c.loop-g-test.true) in
    let nets : c.as_slice.result.now ≡ (goal_at goals g).observe =
    c.as_slice.ensures ∙ ap (λ (o : Goal). o.observe) (c.index-goals-g.is ∙ get_or_default goals g own _ c.loop-g-test.true) in
    record {
      count = length-set firsts g new ∙ inv.count;
      places = λ h.
          each_set (λ (j : ℕ) (f : FirstCycles). length f.cycles ≡ length (goal_cycles was j).cycles) firsts g new none inside
          (c.see.ensures.count ∙ ap (λ (f : FirstCycles). length f.cycles) (get_or_default firsts g _ none inside) ∙ inv.places g) h (λ apart. inv.places h);
      known = λ h lt. each_set (λ (j : ℕ) (f : FirstCycles). IsGoalKnown group f) firsts g new none inside c.see.ensures.known h (λ apart. inv.known h lt);
      done = λ run draw row h k less after in_group.
          let seen : ℕ → ℕ → Bool = λ j i. differs circuit (goal_at goals j) (loaded_faults draw i) run t in
          each_set (λ (j : ℕ) (f : FirstCycles). first_of f (fault_in group k) ≡ first_with (first_of (goal_cycles was j) (fault_in group k)) (seen j (fault_in group k)) t) firsts g new none inside
          (c.see.ensures.seen (seen g)
          (λ m in_it.
          c.differ_in-differ.ensures run t m after.within after.beside (omega (arith, in_it, c.requires.few))
          ∙ ap (λ (ns : List NetId). list_any (λ (n : NetId). not (same_bit (with_faults circuit (loaded_faults force m) run t n) (golden circuit run t n))) ns) nets
          ∙ ap (λ (x : List Fault). differs circuit (goal_at goals g) x run t) (after.in_force m in_it))
          k in_group
          ∙ ap (λ (f : FirstCycles). first_with (first_of f (fault_in group k)) (seen g (fault_in group k)) t) (get_or_default firsts g _ none inside ∙ inv.left g (omega arith)))
          h (λ apart. let before : h < g = omega (arith, less, apart) in inv.done run draw row h k before after in_group);
      others = λ h i outside.
          each_set (λ (j : ℕ) (f : FirstCycles). first_of f i ≡ first_of (goal_cycles was j) i) firsts g new none inside
          (c.see.ensures.others i outside ∙ ap (λ (f : FirstCycles). first_of f i) (get_or_default firsts g _ none inside) ∙ inv.others g i outside)
          h (λ apart. inv.others h i outside);
      left = λ h le.
          let other : h ≢ g = omega (arith, le) in
          get_or-set_other firsts g h new none other ∙ inv.left h (omega (arith, le));
    }

pub returns-clause-seen : goal.returns-clause-seen
returns-clause-seen o c = λ run draw row h k lt after in_group.
    let done : h < c.loop-g.g = omega (arith, lt, c.loop-g-test.false) in
    c.loop-g.invariant.done run draw row h k done after in_group
