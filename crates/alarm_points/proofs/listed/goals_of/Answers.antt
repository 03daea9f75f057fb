use Rattle.std.proofs.Common.{◌≡◌, ◌∙◌, [], ◌∷◌, ◌++◌, ◌+◌, List, Bool, map, take, ap, sym}
use Rattle.std.specs.Prelude.{if◌then◌else◌}
use Rattle.std.proofs.lemmas.List.{map-append, take_more}
use Rattle.csv_rows.specs.Rows.{Fields}
use Rattle.fm_base.specs.Lists.{firsts}
use Rattle.alarm_points.specs.declared.Goal.{Goal}
use Rattle.alarm_points.specs.Listed.{begins_goal, goals_with}
use Rattle.alarm_points.specs.PointsSteps.{goal_from, goals_named, observing_under, same_goal_under}
use Rattle.alarm_points.proofs.Listing.{firsts_none, firsts_step, goals_step}
use Rattle.alarm_points.proofs.listed.goals_of.Goals as goal
use Rattle.alarm_points.proofs.listed.goals_of.Goals.{then-branch+in_ok-goal_from+in_ok-push, else-branch}
use Rattle.fm_base.proofs.Distinct.{distinct-nil}

pub loop-row-init : goal.loop-row-init
loop-row-init c = record {
  names = c.new-names.ensures ∙ sym distinct-nil;
  goals = λ circuit same. c.new-goals.ensures ∙ sym (ap (map (goal_from circuit c.args.header c.args.rows.now)) (firsts_none c.args.header));
}

pub loop-row-preserved : goal.loop-row-preserved
loop-row-preserved c =
    let h = c.args.header in
    let row = c.row-item.result in
    let before : List Fields = take c.loop-row.row-index c.args.rows.now in
    let begins : Bool = c.in_ok-begins_goal.field-0 in
    let more : take (c.loop-row.row-index + 1) c.args.rows.now ≡ before ++ row ∷ [] =
    take_more c.args.rows.now c.loop-row.row-index row c.loop-row-test.true ∙ ap (λ (r : Fields). before ++ r ∷ []) (sym c.row-item.is) in
    let is : begins_goal h (goals_named h before) row ≡ begins =
    sym (c.in_ok-begins_goal.ensures.begins ∙ ap (λ names. begins_goal h names row) c.loop-row.invariant.names) in
    let grown = ap (λ (rows : List Fields). firsts (same_goal_under h) (observing_under h rows)) more ∙ firsts_step h before row begins is in
    record {
      names = c.in_ok-begins_goal.ensures.goals ∙ ap (λ names. goals_with h names row) c.loop-row.invariant.names ∙ goals_step h before row ∙ sym (ap (goals_named h) more);
      goals = λ circuit same.
          let goal_by : Fields → Goal = goal_from circuit h c.args.rows.now in
          let done : List Fields = firsts (same_goal_under h) (observing_under h before) in
          elim c.if-branch.branch [
            | then-branch+in_ok-goal_from+in_ok-push w ↦
                w.goals-is ∙ w.in_ok-push.ensures.ok ∙ (λ t. c.loop-row.invariant.goals circuit same t ++ w.in_ok-goal_from.ensures circuit same t ∷ [])
                ∙ sym (map-append goal_by done (row ∷ []))
                ∙ sym (ap (map goal_by) (grown ∙ ap (λ (b : Bool). if b then done ++ row ∷ [] else done) w.if-branch.true))
            | else-branch w ↦
                w.goals-is ∙ c.loop-row.invariant.goals circuit same
                ∙ sym (ap (map goal_by) (grown ∙ ap (λ (b : Bool). if b then done ++ row ∷ [] else done) w.if-branch.false))
          ];
    }
