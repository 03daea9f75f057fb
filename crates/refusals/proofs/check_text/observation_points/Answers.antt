use Rattle.std.proofs.Common.{◌+◌, ◌≤◌, ◌∙◌, ap, sym, length, arith}
use Rattle.std.proofs.lemmas.List.{take_all}
use Rattle.std.proofs.lemmas.List.Concat.{length-flat_map}
use Rattle.std.proofs.lemmas.List.Sums.{sum_by_more, sum_by-take-le}
use Rattle.alarm_points.specs.declared.Goal.{Goal}
use Rattle.refusals.proofs.CheckText.{goal_points, points_of}
use Rattle.refusals.proofs.check_text.observation_points.Goals as goal

pub overflow_add-count : goal.overflow_add-count
overflow_add-count c =
    omega (
      arith,
      c.loop-goal.invariant,
      ap length c.as_slice.ensures,
      ap goal_points c.goal-item.is,
      sum_by_more goal_points c.args.goals.now c.loop-goal.goal-index c.goal-item.result c.loop-goal-test.true,
      sum_by-take-le goal_points c.args.goals.now (c.loop-goal.goal-index + 1),
      length-flat_map (λ (g : Goal). g.observe) c.args.goals.now,
      c.requires,
    )

pub returns : goal.returns
returns c =
    let past : length c.args.goals.now ≤ c.loop-goal.goal-index = omega (arith, c.loop-goal-test.false) in
    c.loop-goal.invariant ∙ ap points_of (take_all c.loop-goal.goal-index c.args.goals.now past) ∙ sym (length-flat_map (λ (g : Goal). g.observe) c.args.goals.now)
