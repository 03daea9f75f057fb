use Rattle.std.proofs.Common.{◌≡◌, ◌<◌, ℕ, [], length, ap, ◌∙◌, arith}
use Rattle.std.proofs.lemmas.List.{get_or_default}
use Rattle.fault_runs.specs.declared.record.AlarmCycles.{AlarmCycles}
use Rattle.fault_runs.specs.Records.{IsAlarmKnown, alarm_cycles}
use Rattle.fault_runs.proofs.EachItem.{each_set}
use Rattle.fault_runs.proofs.record.begin_alarms.Goals as goal

pub loop-alarm-preserved : goal.loop-alarm-preserved
loop-alarm-preserved c =
    let i = c.loop-alarm.alarm-index in
    let alarms = c.loop-alarm.alarms in
    let inv = c.loop-alarm.invariant in
    let none : AlarmCycles = alarm_cycles [] 0 in
    let new : AlarmCycles = c.begin.new.self in
    let was = c.args.alarms.now in
    let inside : i < length alarms = omega (arith, c.loop-alarm-test.true, c.loop-alarm.auto.alarms) in
    let old = get_or_default alarms i c.alarm-item.result none inside in
    record {
      raised = λ a.
          each_set (λ (j : ℕ) (alarm : AlarmCycles). alarm.raised.cycles ≡ (alarm_cycles was j).raised.cycles) alarms i new none inside
          (c.begin.ensures.raised ∙ ap (λ (alarm : AlarmCycles). alarm.raised.cycles) old ∙ inv.raised i) a (λ apart. inv.raised a);
      silenced = λ a.
          each_set (λ (j : ℕ) (alarm : AlarmCycles). alarm.silenced.cycles ≡ (alarm_cycles was j).silenced.cycles) alarms i new none inside
          (c.begin.ensures.silenced ∙ ap (λ (alarm : AlarmCycles). alarm.silenced.cycles) old ∙ inv.silenced i) a (λ apart. inv.silenced a);
      known = λ group a less.
          each_set (λ (j : ℕ) (alarm : AlarmCycles). IsAlarmKnown group alarm) alarms i new none inside (c.begin.ensures.known group) a
          (λ apart. let before : a < i = omega (arith, less, apart) in inv.known group a before);
    }
