use Rattle.std.proofs.Common.{◌≡◌, ◌<◌, ◌∙◌, List, length, sym, subst, ap, arith}
use Rattle.std.specs.Vec.{with_items}
use Rattle.std.proofs.lemmas.Grind.{common_steps}
use Rattle.fault_runs.specs.First.{FirstCycles, first_of}
use Rattle.fault_runs.specs.declared.record.AlarmCycles.{AlarmCycles}
use Rattle.fault_runs.specs.Records.{FaultRecords, alarm_cycles, goal_cycles}
use Rattle.fault_runs.proofs.FirstMore.{first_none}
use Rattle.fault_runs.proofs.record.FaultRecords.start.Goals as goal

pub returns-clause-nothing : goal.returns-clause-nothing
returns-clause-nothing c = λ circuit points run x i fit.
    let old = c.self.inside in
    let new_goals : (with_items old.goals c.start_goals.new.goals).items ≡ c.start_goals.new.goals = grind (arith, common_steps) in
    let new_alarms : (with_items old.alarms c.start_alarms.new.alarms).items ≡ c.start_alarms.new.alarms = grind (arith, common_steps) in
    let goals : length c.deref_mut.result.now ≡ length points.goals =
    ap length c.deref_mut.ensures.value ∙ ap (λ (r : FaultRecords). length r.goals) c.self.view_is ∙ fit.goals in
    let alarms : length c.deref_mut-2.result.now ≡ length points.alarm =
    ap length c.deref_mut-2.ensures.value ∙ ap (λ (r : FaultRecords). length r.alarms) c.self.view_is ∙ fit.alarms in
    record {
      difference = λ g lt.
          ap (λ (fs : List FirstCycles). first_of (goal_cycles fs g) i) new_goals ∙ c.start_goals.ensures.nothing g i (subst (λ n. g < n) (sym goals) lt) ∙ sym (first_none _);
      alarm = λ a lt.
          ap (λ (fs : List AlarmCycles). first_of (alarm_cycles fs a).raised i) new_alarms
          ∙ c.start_alarms.ensures.raised a i (subst (λ n. a < n) (sym alarms) lt) ∙ sym (first_none _);
      silence = λ a lt.
          ap (λ (fs : List AlarmCycles). first_of (alarm_cycles fs a).silenced i) new_alarms
          ∙ c.start_alarms.ensures.silenced a i (subst (λ n. a < n) (sym alarms) lt) ∙ sym (first_none _);
    }
