use Rattle.std.proofs.Common.{◌≡◌, ◌<◌, ◌||◌, ◌&&◌, ℕ, Bool, true, false, List, None, is_some, length, map, get_or, ap, sym, ◌∙◌, subst}
use Rattle.std.specs.List.{list_any}
use Rattle.circuit.specs.declared.parts.NetId.{NetId}
use Rattle.fm_base.proofs.Lists.{written_whole}
use Rattle.workload.specs.declared.run.Kind.{Kind}
use Rattle.workload.specs.declared.run.Kind.TheVariants.{Mission, Test}
use Rattle.workload.specs.Runs.{is_test}
use Rattle.first_cycles.specs.FirstCycles.{earliest}
use Rattle.reading_planes.specs.Folded.{gives_notice}
use Rattle.fault_runs.specs.Records.{alarm_cycles, goal_cycles}
use Rattle.fault_runs.specs.First.{FirstCycles, first_of}
use Rattle.fault_runs.specs.declared.record.AlarmCycles.{AlarmCycles}
use Rattle.reading_planes.proofs.Lists.{all_others}
use Rattle.reading_planes.proofs.cycles.FaultCycles.load.Goals as goal
use Rattle.testbench.specs.Points.{alarm_at}

-- what counts in a test alone
in_tests : (own kind : Kind) (a b : Bool) → own ≡ kind → (is_test own ≡ true → a ≡ b) → (is_test kind && a) ≡ (is_test own && b)
in_tests own Mission a b same equal = ap (λ k. is_test k && b) (sym same)
in_tests own Test a b same equal = equal (ap is_test same) ∙ ap (λ k. is_test k && b) (sym same)

pub returns-clause-loaded : goal.returns-clause-loaded
returns-clause-loaded c = λ s kind shown.
    let old = c.self.inside in
    let points = c.args.points.now in
    let fault = c.args.fault in
    let differences = c.take_differences.new.differences in
    let alarms = c.take_alarms.new.alarms in
    let notices = c.take_notices.new.notices in
    let count : length differences ≡ length old.differences.items = c.take_differences.auto.differences ∙ ap length c.as_mut_slice.ensures.value in
    let count_alarms : length alarms ≡ length old.alarms.items = c.take_alarms.auto.alarms ∙ ap length c.as_mut_slice-2.ensures.value in
    let count_notices : length notices ≡ length old.notices.items = c.take_notices.auto.notices ∙ ap length c.as_mut_slice-3.ensures.value in
    let whole = written_whole differences old.differences.items old.differences.len count old.differences.ok.0 in
    let whole_alarms = written_whole alarms old.alarms.items old.alarms.len count_alarms old.alarms.ok.0 in
    let whole_notices = written_whole notices old.notices.items old.notices.len count_notices old.notices.ok.0 in
    let goals : length c.goals.result.now ≡ length points.goals = ap length c.goals.ensures ∙ c.requires.fit.goals in
    let nets : length c.alarms.result.now ≡ length points.alarm = ap length c.alarms.ensures ∙ c.requires.fit.alarms in
    let nets_too : length c.alarms-2.result.now ≡ length points.alarm = ap length c.alarms-2.ensures ∙ c.requires.fit.alarms in
    let each : (a : ℕ) → a < length points.alarm → get_or alarms a None ≡ s.alarm (alarm_at points.alarm a) = λ a lt.
    c.take_alarms.ensures a (subst (λ n. a < n) (sym nets) lt) ∙ ap (λ (ps : List AlarmCycles). first_of (alarm_cycles ps a).raised fault) c.alarms.ensures ∙ shown.alarm a lt in
    let each_notice : (a : ℕ) → a < length points.alarm → get_or notices a false ≡ gives_notice s (alarm_at points.alarm a) = λ a lt.
    c.take_notices.ensures a (subst (λ n. a < n) (sym nets_too) lt)
    ∙ ap (λ (ps : List AlarmCycles). is_some (first_of (alarm_cycles ps a).raised fault) || (is_test c.args.kind && is_some (first_of (alarm_cycles ps a).silenced fault))) c.alarms-2.ensures
    ∙ ap (λ first. is_some first || (is_test c.args.kind && is_some (first_of (alarm_cycles c.args.records.now.alarms a).silenced fault))) (shown.alarm a lt)
    ∙ ap (λ b. is_some (s.alarm (alarm_at points.alarm a)) || b) (in_tests s.kind c.args.kind _ _ kind (λ test. shown.silenced test a lt)) in
    record {
      difference = λ g lt.
          ap (λ ds. get_or ds g None) whole ∙ c.take_differences.ensures g (subst (λ n. g < n) (sym goals) lt)
          ∙ ap (λ (gs : List FirstCycles). first_of (goal_cycles gs g) fault) c.goals.ensures ∙ shown.difference g lt;
      alarm = λ a lt. ap (λ ds. get_or ds a None) whole_alarms ∙ each a lt;
      notice = λ a lt. ap (λ ns. get_or ns a false) whole_notices ∙ each_notice a lt;
      first =
          c.first_of_others-self-inside.ensures s.alarm
          (subst (λ (ns : List NetId). (a : ℕ) → a < length ns → get_or c.as_slice.result.now a None ≡ s.alarm (alarm_at ns a)) (sym c.as_slice-nets.ensures)
          (λ a lt. ap (λ ds. get_or ds a None) (c.as_slice.ensures.value ∙ whole_alarms) ∙ each a lt))
          ∙ ap (λ (ns : List NetId). earliest (map s.alarm ns)) (all_others c.as_slice-nets.result.now ∙ c.as_slice-nets.ensures);
      noticed =
          c.some_other-self-inside.ensures (gives_notice s)
          (subst (λ (ns : List NetId). (a : ℕ) → a < length ns → get_or c.as_slice-2.result.now a false ≡ gives_notice s (alarm_at ns a)) (sym c.as_slice-nets.ensures)
          (λ a lt. ap (λ bs. get_or bs a false) (c.as_slice-2.ensures.value ∙ whole_notices) ∙ each_notice a lt))
          ∙ ap (λ (ns : List NetId). list_any (gives_notice s) ns) (all_others c.as_slice-nets.result.now ∙ c.as_slice-nets.ensures);
    }
