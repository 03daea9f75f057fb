use Rattle.std.proofs.Common.{◌≡◌, ◌+◌, ◌<◌, ◌&&◌, ◌||◌, ℕ, suc, Bool, List, [], length, map, not, ap, ap₂, sym, ◌∙◌, subst, arith}
use Rattle.std.specs.List.{All, list_any}
use Rattle.circuit.specs.declared.parts.NetId.{NetId}
use Rattle.circuit.specs.Sound.{IsNet}
use Rattle.alarm_points.specs.declared.Goal.{Goal}
use Rattle.alarm_points.specs.Interval.{interval_of}
use Rattle.alarm_points.specs.Watch.{window_at}
use Rattle.alarm_points.proofs.Settled.{some_below-suc}
use Rattle.campaign_plan.specs.Danger.{golden, is_raised, is_silenced, with_faults}
use Rattle.fm_base.specs.Lists.{some_below}
use Rattle.fm_base.specs.Planes.{bit}
use Rattle.row_audit.specs.Watched.{HasWatched}
use Rattle.row_audit.proofs.see.see_cycle.Goals as goal
use Rattle.testbench.specs.Points.{goal_at}

-- what is so in some cycle up to one more
one_more : (test : ℕ → Bool) (t : ℕ) (before own both : Bool) → both ≡ (before || own) → before ≡ some_below t test → own ≡ test t → both ≡ some_below (t + 1) test
one_more test t before own both is early now =
    let next : suc t ≡ t + 1 = omega arith in
    is ∙ ap₂ (λ a b. a || b) early now ∙ sym (some_below-suc t test) ∙ ap (λ n. some_below n test) next

pub alarms_in-found-requires-clause-nets : goal.alarms_in-found-requires-clause-nets
alarms_in-found-requires-clause-nets g c =
    subst (λ (ns : List NetId). All (IsNet (g.B.Circuits.loaded c.args.circuits.now).circuit) ns) (sym c.as_slice.ensures) c.requires.points.alarm

pub see_goals-requires-clause-nets : goal.see_goals-requires-clause-nets
see_goals-requires-clause-nets g c = λ h lt.
    let goals : c.as_slice-2.result.now ≡ c.args.points.now.goals = c.as_slice-2.ensures in
    subst (λ (gs : List Goal). All (IsNet (g.B.Circuits.loaded c.args.circuits.now).circuit) (goal_at gs h).observe) (sym goals)
    (c.requires.points.goals h (goal_at [] 0) (subst (λ (gs : List Goal). h < length gs) goals lt)).nets

pub returns-clause-seen : goal.returns-clause-seen
returns-clause-seen g c = λ run t within at seen.
    let loaded = g.B.Circuits.loaded c.args.circuits.now in
    let faults = loaded.faults c.args.word in
    let points = c.args.points.now in
    let goals : c.as_slice-2.result.now ≡ points.goals = c.as_slice-2.ensures in
    let new = c.see_goals.new.windows in
    let found = c.alarms_in-found.result in
    let alarms : c.as_slice.result.now ≡ points.alarm = c.as_slice.ensures in
    let loud : (k : ℕ) → k < 64 → bit found.raised k ≡ is_raised loaded.circuit points (faults k) run t =
    λ k lane. c.alarms_in-found.ensures.raised run t k within at lane
    ∙ ap (λ (nets : List NetId). list_any (λ (net : NetId). with_faults loaded.circuit (faults k) run t net && not (golden loaded.circuit run t net)) nets) alarms in
    let silent : (k : ℕ) → k < 64 → bit found.silenced k ≡ is_silenced loaded.circuit points (faults k) run t =
    λ k lane. c.alarms_in-found.ensures.silenced run t k within at lane
    ∙ ap (λ (nets : List NetId). list_any (λ (net : NetId). not (with_faults loaded.circuit (faults k) run t net) && golden loaded.circuit run t net) nets) alarms in
    record {
      made =
          c.see_goals.ensures.keeps.intervals ∙ seen.made
          ∙ ap (λ f. map (interval_of f) points.goals) (sym c.see_goals.ensures.keeps.ftti);
      seen = λ h lt.
          subst (λ (gs : List Goal). HasWatched loaded.circuit points run faults (goal_at gs h) (t + 1) (window_at new h)) goals
          (c.see_goals.ensures.step points run t h within (subst (λ (gs : List Goal). h < length gs) (sym goals) lt) at loud
          (subst (λ (gs : List Goal). HasWatched loaded.circuit points run faults (goal_at gs h) t (window_at c.args.watcher.now.windows h)) (sym goals) (seen.seen h lt)));
      raised = λ k lane. one_more (is_raised loaded.circuit points (faults k) run) t _ _ _ (c.either_lanes-watcher.ensures k) (seen.raised k lane) (loud k lane);
      silenced = λ k lane. one_more (is_silenced loaded.circuit points (faults k) run) t _ _ _ (c.either_lanes-watcher-2.ensures k) (seen.silenced k lane) (silent k lane);
    }
