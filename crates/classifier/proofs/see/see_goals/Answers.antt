use Rattle.std.proofs.Common.{◌≡◌, ◌≢◌, ◌+◌, ◌<◌, ℕ, List, [], length, ap, sym, ◌∙◌, subst, below_more, not, arith}
use Rattle.std.specs.List.{All, list_any}
use Rattle.std.specs.Prelude.{slice_index_or}
use Rattle.std.proofs.lemmas.List.{get_or_default}
use Rattle.circuit.specs.declared.parts.Fault.{Fault}
use Rattle.circuit.specs.declared.parts.NetId.{NetId}
use Rattle.circuit.specs.Sound.{IsNet}
use Rattle.alarm_points.specs.declared.Goal.{Goal}
use Rattle.alarm_points.specs.FourWatches.{windows_at}
use Rattle.alarm_points.specs.Watch.{window_at}
use Rattle.campaign_plan.specs.Danger.{golden, is_raised, with_faults}
use Rattle.fm_base.specs.Lists.{same_bit}
use Rattle.classifier.specs.Noise.{noise_at}
use Rattle.classifier.specs.Seen.{HasSeen}
use Rattle.classifier.proofs.Stretches.{intervals_more, made_still}
use Rattle.classifier.proofs.Views.{sees_more}
use Rattle.classifier.proofs.WindowCounts.{window_count}
use Rattle.classifier.proofs.see.see_goals.Goals as goal
use Rattle.testbench.specs.Points.{goal_at}

pub differing-differs-requires : goal.differing-differs-requires
differing-differs-requires o c =
    let goals = c.as_slice-goals.result.now in
    let g = c.loop-g.g in
    let own = c.index-goals-g.result in
    let are : goals ≡ c.args.points.now.goals = c.as_slice-goals.ensures in
    let within : g < length c.args.points.now.goals = subst (λ (gs : List Goal). g < length gs) are c.loop-g-test.true in
    let nets : c.as_slice.result.now ≡ (goal_at c.args.points.now.goals g).observe =
    c.as_slice.ensures ∙ ap (λ (o : Goal). o.observe) (c.index-goals-g.is ∙ get_or_default goals g own _ c.loop-g-test.true ∙ ap (λ (gs : List Goal). goal_at gs g) are) in
    subst (λ (ns : List NetId). All (IsNet (o.F.Followed.in_run c.args.lanes.now).load.circuit) ns) (sym nets) (c.requires.points.goals g (goal_at [] 0) within).nets

pub see_goal-requires-clause-goal : goal.see_goal-requires-clause-goal
see_goal-requires-clause-goal o c = λ word lt.
    let points = c.args.points.now in
    let began = c.args.windows.now in
    let ws = c.loop-g.windows in
    let first : word < length began = omega (arith, lt, c.loop-g.auto.windows) in
    let made = made_still points (windows_at began word) (windows_at ws word) (c.loop-g.invariant.keeps word) (c.requires.made word first) in
    let within : c.loop-g.g < length points.goals = subst (λ (gs : List Goal). c.loop-g.g < length gs) c.as_slice-goals.ensures c.loop-g-test.true in
    subst (λ n. c.loop-g.g < n) (sym (window_count points (windows_at ws word) made)) within

pub loop-g-preserved : goal.loop-g-preserved
loop-g-preserved o c =
    let goals = c.as_slice-goals.result.now in
    let points = c.args.points.now in
    let g = c.loop-g.g in
    let own = c.index-goals-g.result in
    let inv = c.loop-g.invariant in
    let began = c.args.windows.now in
    let ws = c.loop-g.windows in
    let new = c.see_goal.new.windows in
    let net = (o.F.Followed.in_run c.args.lanes.now).load.circuit in
    let are : goals ≡ points.goals = c.as_slice-goals.ensures in
    let inside : g < length points.goals = subst (λ (gs : List Goal). g < length gs) are c.loop-g-test.true in
    let nets : c.as_slice.result.now ≡ (goal_at points.goals g).observe =
    c.as_slice.ensures ∙ ap (λ (o : Goal). o.observe) (c.index-goals-g.is ∙ get_or_default goals g own _ c.loop-g-test.true ∙ ap (λ (gs : List Goal). goal_at gs g) are) in
    record {
      keeps = intervals_more began ws new inv.keeps c.see_goal.ensures.keeps;
      done = λ run faults known word t left h within at less loud watched lt.
          let ftti = (windows_at began word).ftti in
          let has : word < length ws = omega (arith, less, c.requires.count, c.loop-g.auto.windows) in
          below_more (λ (m : ℕ). HasSeen net points ftti run faults known (goal_at points.goals m) (t + 1) (window_at (windows_at new word) m)) g
          (λ m early.
          let other : m ≢ g = omega (arith, early) in
          subst (HasSeen net points ftti run faults known (goal_at points.goals m) (t + 1)) (sym (c.see_goal.ensures.others word m other))
          (inv.done run faults known word t left m within at less loud watched early))
          (sees_more net points ftti run faults known (goal_at points.goals g) t (window_at (windows_at ws word) g) (window_at (windows_at new word) g)
          (slice_index_or c.differing-differs.result word 0) (noise_at c.args.noise.now word).raised
          (subst (HasSeen net points ftti run faults known (goal_at points.goals g) t) (sym (inv.left word g (omega arith))) (watched.seen.seen g inside))
          (λ k lane none.
          c.differing-differs.ensures run t word k within at less lane
          ∙ ap (λ (fs : List Fault). list_any (λ (n : NetId). not (same_bit (with_faults net fs run t n) (golden net run t n))) c.as_slice.result.now) (watched.followed.follow k lane none)
          ∙ ap (λ (ns : List NetId). list_any (λ (n : NetId). not (same_bit (with_faults net (faults k) run t n) (golden net run t n))) ns) nets)
          (λ k lane none. loud k lane ∙ ap (λ (fs : List Fault). is_raised net points fs run t) (watched.followed.follow k lane none))
          (λ pairs after. c.see_goal.ensures.step word pairs has after))
          h lt;
      left = λ word h le.
          let other : h ≢ g = omega (arith, le) in
          c.see_goal.ensures.others word h other ∙ inv.left word h (omega (arith, le));
    }

pub returns-clause-step : goal.returns-clause-step
returns-clause-step o c = λ run faults known word t left within at less loud watched h lt.
    let inside : h < length c.as_slice-goals.result.now = subst (λ (gs : List Goal). h < length gs) (sym c.as_slice-goals.ensures) lt in
    c.loop-g.invariant.done run faults known word t left h within at less loud watched (omega (arith, inside, c.loop-g-test.false))
