use Rattle.std.proofs.Common.{◌≡◌, ◌<◌, List, [], length, get_or, ap, sym, ◌∙◌, subst, arith}
use Rattle.std.specs.List.{All}
use Rattle.std.specs.Vec.{with_items}
use Rattle.std.proofs.lemmas.Grind.{common_steps}
use Rattle.circuit.specs.declared.parts.NetId.{NetId}
use Rattle.circuit.specs.Sound.{IsNet}
use Rattle.alarm_points.specs.declared.Goal.{Goal}
use Rattle.campaign_plan.specs.Danger.{differs}
use Rattle.lane_words.specs.Loads.{loaded_faults}
use Rattle.first_cycles.specs.FirstCycles.{first_with, is_raised_at}
use Rattle.first_cycles.specs.Shown.{is_silenced_at}
use Rattle.fault_runs.specs.declared.record.AlarmCycles.{AlarmCycles}
use Rattle.fault_runs.specs.First.{FirstCycles, fault_in, first_of}
use Rattle.fault_runs.specs.Records.{FaultRecords, IsAlarmKnown, IsGoalKnown, alarm_cycles, goal_cycles}
use Rattle.fault_runs.proofs.see.see_cycle.Goals as goal
use Rattle.testbench.specs.Points.{alarm_at, goal_at}

pub see_goals-requires-clause-nets : goal.see_goals-requires-clause-nets
see_goals-requires-clause-nets g c = λ h lt.
    let goals : c.as_slice-goals.result.now ≡ c.args.points.now.goals = c.as_slice-goals.ensures in
    subst (λ (gs : List Goal). All (IsNet c.args.lanes.now.circuit) (goal_at gs h).observe) (sym goals)
    (c.requires.points.goals h (goal_at [] 0) (subst (λ (gs : List Goal). h < length gs) goals lt)).nets

pub see_goals-requires-clause-count : goal.see_goals-requires-clause-count
see_goals-requires-clause-count g c =
    ap length c.as_mut_slice.ensures.value ∙ ap (λ (r : FaultRecords). length r.goals) c.records.view_is ∙ c.requires.fit.goals ∙ sym (ap length c.as_slice-goals.ensures)

pub see_goals-requires-clause-group : goal.see_goals-requires-clause-group
see_goals-requires-clause-group g c = λ h lt k d in_group.
    let goals : c.as_slice-goals.result.now ≡ c.args.points.now.goals = c.as_slice-goals.ensures in
    let old_goals : c.as_mut_slice.result.now ≡ c.args.records.now.goals = c.as_mut_slice.ensures.value ∙ ap (λ (r : FaultRecords). r.goals) c.records.view_is in
    let places : length (goal_cycles c.as_mut_slice.result.now h).cycles ≡ c.args.records.now.faults =
    ap (λ (fs : List FirstCycles). length (goal_cycles fs h).cycles) old_goals ∙ c.requires.fit.differences h (subst (λ (gs : List Goal). h < length gs) goals lt) in
    subst (λ n. get_or c.args.group.now k d < n) (sym places) (c.requires.group k d in_group)

pub see_goals-requires-clause-known : goal.see_goals-requires-clause-known
see_goals-requires-clause-known g c = λ h lt.
    let goals : c.as_slice-goals.result.now ≡ c.args.points.now.goals = c.as_slice-goals.ensures in
    let old_goals : c.as_mut_slice.result.now ≡ c.args.records.now.goals = c.as_mut_slice.ensures.value ∙ ap (λ (r : FaultRecords). r.goals) c.records.view_is in
    let within : h < length c.args.points.now.goals = subst (λ (gs : List Goal). h < length gs) goals lt in
    subst (λ (fs : List FirstCycles). IsGoalKnown c.args.group.now (goal_cycles fs h)) (sym old_goals)
    (c.requires.known.goals h (subst (λ n. h < n) (sym c.requires.fit.goals) within))

pub see_alarms-requires-clause-nets : goal.see_alarms-requires-clause-nets
see_alarms-requires-clause-nets g c =
    subst (λ (ns : List NetId). All (IsNet c.args.lanes.now.circuit) ns) (sym c.as_slice-nets.ensures) c.requires.points.alarm

pub see_alarms-requires-clause-count : goal.see_alarms-requires-clause-count
see_alarms-requires-clause-count g c =
    ap length c.as_mut_slice-2.ensures.value ∙ ap (λ (r : FaultRecords). length r.alarms) c.records.view_is ∙ c.requires.fit.alarms ∙ sym (ap length c.as_slice-nets.ensures)

pub see_alarms-requires-clause-raised : goal.see_alarms-requires-clause-raised
see_alarms-requires-clause-raised g c = λ a lt k d in_group.
    let nets : c.as_slice-nets.result.now ≡ c.args.points.now.alarm = c.as_slice-nets.ensures in
    let old_alarms : c.as_mut_slice-2.result.now ≡ c.args.records.now.alarms = c.as_mut_slice-2.ensures.value ∙ ap (λ (r : FaultRecords). r.alarms) c.records.view_is in
    let places : length (alarm_cycles c.as_mut_slice-2.result.now a).raised.cycles ≡ c.args.records.now.faults =
    ap (λ (fs : List AlarmCycles). length (alarm_cycles fs a).raised.cycles) old_alarms ∙ c.requires.fit.raised a (subst (λ (ns : List NetId). a < length ns) nets lt) in
    subst (λ n. get_or c.args.group.now k d < n) (sym places) (c.requires.group k d in_group)

pub see_alarms-requires-clause-silenced : goal.see_alarms-requires-clause-silenced
see_alarms-requires-clause-silenced g c = λ a lt k d in_group.
    let nets : c.as_slice-nets.result.now ≡ c.args.points.now.alarm = c.as_slice-nets.ensures in
    let old_alarms : c.as_mut_slice-2.result.now ≡ c.args.records.now.alarms = c.as_mut_slice-2.ensures.value ∙ ap (λ (r : FaultRecords). r.alarms) c.records.view_is in
    let places : length (alarm_cycles c.as_mut_slice-2.result.now a).silenced.cycles ≡ c.args.records.now.faults =
    ap (λ (fs : List AlarmCycles). length (alarm_cycles fs a).silenced.cycles) old_alarms ∙ c.requires.fit.silenced a (subst (λ (ns : List NetId). a < length ns) nets lt) in
    subst (λ n. get_or c.args.group.now k d < n) (sym places) (c.requires.group k d in_group)

pub see_alarms-requires-clause-known : goal.see_alarms-requires-clause-known
see_alarms-requires-clause-known g c = λ a lt.
    let nets : c.as_slice-nets.result.now ≡ c.args.points.now.alarm = c.as_slice-nets.ensures in
    let old_alarms : c.as_mut_slice-2.result.now ≡ c.args.records.now.alarms = c.as_mut_slice-2.ensures.value ∙ ap (λ (r : FaultRecords). r.alarms) c.records.view_is in
    let within : a < length c.args.points.now.alarm = subst (λ (ns : List NetId). a < length ns) nets lt in
    subst (λ (fs : List AlarmCycles). IsAlarmKnown c.args.group.now (alarm_cycles fs a)) (sym old_alarms)
    (c.requires.known.alarms a (subst (λ n. a < n) (sym c.requires.fit.alarms) within))

pub returns : goal.returns
returns g c =
    let circuit = c.args.lanes.now.circuit in
    let group = c.args.group.now in
    let t = c.args.t in
    let points = c.args.points.now in
    let old = c.records.inside in
    let was = c.args.records.now in
    let fit = c.requires.fit in
    let new_goals : (with_items old.goals c.see_goals.new.firsts).items ≡ c.see_goals.new.firsts = grind (arith, common_steps) in
    let new_alarms : (with_items old.alarms c.see_alarms.new.alarms).items ≡ c.see_alarms.new.alarms = grind (arith, common_steps) in
    let goals : c.as_slice-goals.result.now ≡ points.goals = c.as_slice-goals.ensures in
    let nets : c.as_slice-nets.result.now ≡ points.alarm = c.as_slice-nets.ensures in
    let old_goals : c.as_mut_slice.result.now ≡ was.goals = c.as_mut_slice.ensures.value ∙ ap (λ (r : FaultRecords). r.goals) c.records.view_is in
    let old_alarms : c.as_mut_slice-2.result.now ≡ was.alarms = c.as_mut_slice-2.ensures.value ∙ ap (λ (r : FaultRecords). r.alarms) c.records.view_is in
    let faults : old.faults ≡ was.faults = ap (λ (r : FaultRecords). r.faults) c.records.view_is in
    let goal_count : length (with_items old.goals c.see_goals.new.firsts).items ≡ length points.goals = ap length new_goals ∙ c.see_goals.auto.firsts ∙ ap length old_goals ∙ fit.goals in
    let alarm_count : length (with_items old.alarms c.see_alarms.new.alarms).items ≡ length points.alarm = ap length new_alarms ∙ c.see_alarms.auto.alarms ∙ ap length old_alarms ∙ fit.alarms in
    record {
      faults = faults;
      fit = record {
        goals = goal_count;
        alarms = alarm_count;
        differences = λ h lt.
            ap (λ (fs : List FirstCycles). length (goal_cycles fs h).cycles) new_goals ∙ c.see_goals.ensures.count h
            ∙ ap (λ (fs : List FirstCycles). length (goal_cycles fs h).cycles) old_goals ∙ fit.differences h lt ∙ sym faults;
        raised = λ a lt.
            ap (λ (fs : List AlarmCycles). length (alarm_cycles fs a).raised.cycles) new_alarms ∙ c.see_alarms.ensures.raised_count a
            ∙ ap (λ (fs : List AlarmCycles). length (alarm_cycles fs a).raised.cycles) old_alarms ∙ fit.raised a lt ∙ sym faults;
        silenced = λ a lt.
            ap (λ (fs : List AlarmCycles). length (alarm_cycles fs a).silenced.cycles) new_alarms ∙ c.see_alarms.ensures.silenced_count a
            ∙ ap (λ (fs : List AlarmCycles). length (alarm_cycles fs a).silenced.cycles) old_alarms ∙ fit.silenced a lt ∙ sym faults;
      };
      known = record {
        goals = λ h lt.
            subst (λ (fs : List FirstCycles). IsGoalKnown group (goal_cycles fs h)) (sym new_goals)
            (c.see_goals.ensures.known h (subst (λ n. h < n) (goal_count ∙ sym (ap length goals)) lt));
        alarms = λ a lt.
            subst (λ (fs : List AlarmCycles). IsAlarmKnown group (alarm_cycles fs a)) (sym new_alarms)
            (c.see_alarms.ensures.known a (subst (λ n. a < n) (alarm_count ∙ sym (ap length nets)) lt));
      };
      seen = λ run draw k after in_group.
          let i = fault_in group k in
          let x = loaded_faults draw i in
          record {
            difference = λ h lt.
                ap (λ (fs : List FirstCycles). first_of (goal_cycles fs h) i) new_goals
                ∙ c.see_goals.ensures.seen run draw c.args.row.now h k (subst (λ (gs : List Goal). h < length gs) (sym goals) lt) after in_group
                ∙ ap (λ (fs : List FirstCycles). first_with (first_of (goal_cycles fs h) i) (differs circuit (goal_at c.as_slice-goals.result.now h) x run t) t) old_goals
                ∙ ap (λ (gs : List Goal). first_with (first_of (goal_cycles was.goals h) i) (differs circuit (goal_at gs h) x run t) t) goals;
            alarm = λ a lt.
                ap (λ (fs : List AlarmCycles). first_of (alarm_cycles fs a).raised i) new_alarms
                ∙ c.see_alarms.ensures.raised run draw a k (subst (λ (ns : List NetId). a < length ns) (sym nets) lt) after in_group
                ∙ ap (λ (fs : List AlarmCycles). first_with (first_of (alarm_cycles fs a).raised i) (is_raised_at circuit x run (alarm_at c.as_slice-nets.result.now a) t) t) old_alarms
                ∙ ap (λ (ns : List NetId). first_with (first_of (alarm_cycles was.alarms a).raised i) (is_raised_at circuit x run (alarm_at ns a) t) t) nets;
            silence = λ a lt.
                ap (λ (fs : List AlarmCycles). first_of (alarm_cycles fs a).silenced i) new_alarms
                ∙ c.see_alarms.ensures.silenced run draw a k (subst (λ (ns : List NetId). a < length ns) (sym nets) lt) after in_group
                ∙ ap (λ (fs : List AlarmCycles). first_with (first_of (alarm_cycles fs a).silenced i) (is_silenced_at circuit x run (alarm_at c.as_slice-nets.result.now a) t) t) old_alarms
                ∙ ap (λ (ns : List NetId). first_with (first_of (alarm_cycles was.alarms a).silenced i) (is_silenced_at circuit x run (alarm_at ns a) t) t) nets;
          };
      others = λ i outside. record {
        difference = λ h.
            ap (λ (fs : List FirstCycles). first_of (goal_cycles fs h) i) new_goals ∙ c.see_goals.ensures.others h i outside
            ∙ ap (λ (fs : List FirstCycles). first_of (goal_cycles fs h) i) old_goals;
        alarm = λ a.
            ap (λ (fs : List AlarmCycles). first_of (alarm_cycles fs a).raised i) new_alarms ∙ c.see_alarms.ensures.raised_others a i outside
            ∙ ap (λ (fs : List AlarmCycles). first_of (alarm_cycles fs a).raised i) old_alarms;
        silence = λ a.
            ap (λ (fs : List AlarmCycles). first_of (alarm_cycles fs a).silenced i) new_alarms ∙ c.see_alarms.ensures.silenced_others a i outside
            ∙ ap (λ (fs : List AlarmCycles). first_of (alarm_cycles fs a).silenced i) old_alarms;
      };
    }
