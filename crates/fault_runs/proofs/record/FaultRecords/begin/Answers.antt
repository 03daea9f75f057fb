use Rattle.std.proofs.Common.{◌≡◌, ◌<◌, List, length, ap, sym, subst, ◌∙◌, arith}
use Rattle.std.specs.Vec.{with_items}
use Rattle.std.proofs.lemmas.Grind.{common_steps}
use Rattle.fault_runs.specs.First.{FirstCycles}
use Rattle.fault_runs.specs.declared.record.AlarmCycles.{AlarmCycles}
use Rattle.fault_runs.specs.Records.{IsAlarmKnown, IsGoalKnown, alarm_cycles, goal_cycles}
use Rattle.fault_runs.proofs.record.FaultRecords.begin.Goals as goal

pub returns-clause-known : goal.returns-clause-known
returns-clause-known c = λ group.
    let old = c.self.inside in
    let new_goals : (with_items old.goals c.begin_goals.new.goals).items ≡ c.begin_goals.new.goals = grind (arith, common_steps) in
    let new_alarms : (with_items old.alarms c.begin_alarms.new.alarms).items ≡ c.begin_alarms.new.alarms = grind (arith, common_steps) in
    record {
      goals = λ g lt.
          subst (λ (fs : List FirstCycles). IsGoalKnown group (goal_cycles fs g)) (sym new_goals)
          (c.begin_goals.ensures.known group g (subst (λ n. g < n) (ap length new_goals ∙ c.begin_goals.auto.goals) lt));
      alarms = λ a lt.
          subst (λ (fs : List AlarmCycles). IsAlarmKnown group (alarm_cycles fs a)) (sym new_alarms)
          (c.begin_alarms.ensures.known group a (subst (λ n. a < n) (ap length new_alarms ∙ c.begin_alarms.auto.alarms) lt));
    }
