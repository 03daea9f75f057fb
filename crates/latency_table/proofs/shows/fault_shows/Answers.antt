use Rattle.std.proofs.Common.{◌≡◌, ◌<◌, ℕ, List, find, length, map, option_and_then, ap, subst, ◌∙◌}
use Rattle.circuit.specs.declared.parts.NetId.{NetId}
use Rattle.first_cycles.specs.FirstCycles.{earliest}
use Rattle.first_cycles.specs.Shown.{Shown, shown_in}
use Rattle.readings.specs.Laws.{is_at}
use Rattle.fault_runs.specs.declared.record.AlarmCycles.{AlarmCycles}
use Rattle.fault_runs.specs.First.{first_of}
use Rattle.fault_runs.specs.Records.{alarm_cycles}
use Rattle.latency_table.specs.declared.latency.RunShows.{RunShows}
use Rattle.latency_table.specs.Latency.{alarm_in, point_at}
use Rattle.latency_table.proofs.Showing.{first_alarm_is, mission_shown, test_shown}
use Rattle.latency_table.proofs.shows.fault_shows.Goals as goal
use Rattle.testbench.specs.Points.{alarm_at}

pub returns-in-Mission : goal.returns-in-Mission
returns-in-Mission c = λ circuit run x kind seen.
    let points = c.args.points.now in
    let k = c.args.fault in
    let alarm = c.earliest_alarm-alarm.result in
    let s : Shown = shown_in circuit x run in
    let alarm_is : alarm ≡ alarm_in points s =
    c.earliest_alarm-alarm.ensures ∙ ap (λ (alarms : List AlarmCycles). earliest (map (λ a. first_of a.raised k) alarms)) c.alarms.ensures
    ∙ first_alarm_is circuit points c.args.ftti run x k c.args.kept.now c.requires.fit seen in
    let point : c.point_of-point.result ≡ option_and_then (point_at points s.alarm) alarm =
    subst (λ (nets : List NetId).
    ((a : ℕ) → a < length nets → first_of (alarm_cycles c.alarms-2.result.now a).raised k ≡ s.alarm (alarm_at nets a))
    → c.point_of-point.result ≡ option_and_then (λ cycle. find (λ net. is_at (s.alarm net) cycle) nets) alarm) c.as_slice-nets.ensures (c.point_of-point.ensures s.alarm)
    (λ a lt. ap (λ (alarms : List AlarmCycles). first_of (alarm_cycles alarms a).raised k) c.alarms-2.ensures ∙ seen.alarm a lt) in
    let shows = c.mission_shows.ensures in
    mission_shown circuit points c.args.ftti run x k c.args.kept.now c.requires.fit seen alarm alarm_is c.mission_shows.result (kind ∙ c.in-Mission.is)
    shows.alarm (shows.point ∙ point) shows.noticed shows.reached shows.interval (shows.late s.difference seen.difference)

pub returns-in-Test : goal.returns-in-Test
returns-in-Test c = λ circuit run x kind seen.
    let points = c.args.points.now in
    let k = c.args.fault in
    let alarm = c.earliest_alarm-alarm.result in
    let s : Shown = shown_in circuit x run in
    let alarm_is : alarm ≡ alarm_in points s =
    c.earliest_alarm-alarm.ensures ∙ ap (λ (alarms : List AlarmCycles). earliest (map (λ a. first_of a.raised k) alarms)) c.alarms.ensures
    ∙ first_alarm_is circuit points c.args.ftti run x k c.args.kept.now c.requires.fit seen in
    let point : c.point_of-point.result ≡ option_and_then (point_at points s.alarm) alarm =
    subst (λ (nets : List NetId).
    ((a : ℕ) → a < length nets → first_of (alarm_cycles c.alarms-2.result.now a).raised k ≡ s.alarm (alarm_at nets a))
    → c.point_of-point.result ≡ option_and_then (λ cycle. find (λ net. is_at (s.alarm net) cycle) nets) alarm) c.as_slice-nets.ensures (c.point_of-point.ensures s.alarm)
    (λ a lt. ap (λ (alarms : List AlarmCycles). first_of (alarm_cycles alarms a).raised k) c.alarms-2.ensures ∙ seen.alarm a lt) in
    let shows = c.test_shows.ensures in
    test_shown circuit points c.args.ftti run x k c.args.kept.now c.requires.fit seen alarm alarm_is c.test_shows.result (kind ∙ c.in-Test.is)
    (ap (λ (w : RunShows). w.alarm) shows) (ap (λ (w : RunShows). w.point) shows ∙ point) (ap (λ (w : RunShows). w.noticed) shows) (ap (λ (w : RunShows). w.reached) shows)
    (ap (λ (w : RunShows). w.interval) shows) (ap (λ (w : RunShows). w.late) shows)
