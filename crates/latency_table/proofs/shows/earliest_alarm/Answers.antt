use Rattle.std.proofs.Common.{◌≤◌, List, length, map, ap, ap₂, ◌∙◌, take_all}
use Rattle.first_cycles.specs.FirstCycles.{earlier, earliest}
use Rattle.fault_runs.specs.First.{FirstCycles, first_of}
use Rattle.fault_runs.specs.declared.record.AlarmCycles.{AlarmCycles}
use Rattle.latency_table.proofs.Lists.{earliest_more}
use Rattle.latency_table.proofs.shows.earliest_alarm.Goals as goal

pub loop-alarm-preserved : goal.loop-alarm-preserved
loop-alarm-preserved c =
    c.earlier-first.ensures ∙ ap₂ earlier c.loop-alarm.invariant (c.first.ensures ∙ ap (λ (f : FirstCycles). first_of f c.args.fault) c.raised.ensures ∙ ap (λ (a : AlarmCycles). first_of a.raised c.args.fault) c.alarm-item.is)
    ∙ earliest_more (λ (alarm : AlarmCycles). first_of alarm.raised c.args.fault) c.args.alarms.now c.loop-alarm.alarm-index c.alarm-item.result c.loop-alarm-test.true

pub returns : goal.returns
returns c =
    let done : length c.args.alarms.now ≤ c.loop-alarm.alarm-index = c.loop-alarm-test.false in
    c.loop-alarm.invariant
    ∙ ap (λ (alarms : List AlarmCycles). earliest (map (λ alarm. first_of alarm.raised c.args.fault) alarms)) (take_all c.loop-alarm.alarm-index c.args.alarms.now done)
