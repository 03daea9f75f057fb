use Rattle.std.proofs.Common.{◌≤◌, ◌||◌, List, length, is_some, ap, ap₂, sym, ◌∙◌, take_all}
use Rattle.std.specs.List.{list_any}
use Rattle.std.proofs.lemmas.List.Folds.{list_any_more}
use Rattle.fault_runs.specs.First.{FirstCycles, first_of}
use Rattle.fault_runs.specs.declared.record.AlarmCycles.{AlarmCycles}
use Rattle.latency_table.proofs.shows.some_silenced.Goals as goal

pub loop-alarm-preserved : goal.loop-alarm-preserved
loop-alarm-preserved c =
    ap₂ (λ a b. a || b) c.loop-alarm.invariant (c.is_some-silenced.ensures ∙ ap is_some (c.first.ensures ∙ ap (λ (f : FirstCycles). first_of f c.args.fault) c.silenced.ensures ∙ ap (λ (a : AlarmCycles). first_of a.silenced c.args.fault) c.alarm-item.is))
    ∙ sym (list_any_more (λ (alarm : AlarmCycles). is_some (first_of alarm.silenced c.args.fault)) c.args.alarms.now c.loop-alarm.alarm-index c.alarm-item.result c.loop-alarm-test.true)

pub returns : goal.returns
returns c =
    let done : length c.args.alarms.now ≤ c.loop-alarm.alarm-index = c.loop-alarm-test.false in
    c.loop-alarm.invariant
    ∙ ap (λ (alarms : List AlarmCycles). list_any (λ alarm. is_some (first_of alarm.silenced c.args.fault)) alarms) (take_all c.loop-alarm.alarm-index c.args.alarms.now done)
