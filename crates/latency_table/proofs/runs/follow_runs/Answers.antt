use Rattle.std.proofs.Common.{◌≡◌, ◌+◌, ◌<◌, ℕ, List, length, refl, ap, sym, subst, ◌∙◌, arith}
use Rattle.std.specs.Prelude.{Option}
use Rattle.circuit.specs.declared.parts.Fault.{Fault}
use Rattle.alarm_points.specs.declared.Points.{Points}
use Rattle.workload.specs.Runs.{run_at}
use Rattle.first_cycles.specs.Shown.{shown_in}
use Rattle.lane_words.specs.Loads.{loaded_faults}
use Rattle.fault_runs.specs.Records.{AreRecordsFor, FaultRecords, record_of}
use Rattle.fault_runs.specs.Whole.{HasShownRun}
use Rattle.latency_table.specs.declared.latency.Latency.{Latency}
use Rattle.latency_table.specs.Latency.{IsLatencyOf, latency_at}
use Rattle.latency_table.proofs.Adding.{latency_none}
use Rattle.latency_table.proofs.runs.follow_runs.Goals as goal

pub loop-run-init : goal.loop-run-init
loop-run-init g c =
    let b = c.args.bench.now in
    let faults : ℕ → List Fault = loaded_faults c.args.draw.now.faults.items in
    record {
      made = c.requires.made;
      faults = refl;
      kept = λ j lt.
          let within : j < length c.args.latencies.now = omega (arith, lt, c.requires.room) in
          subst (λ (l : Latency). IsLatencyOf b.circuit b.points c.args.ftti b.runs (faults j) 0 l) (sym (c.forget.ensures j within))
          (latency_none b.circuit b.points c.args.ftti b.runs (faults j));
    }

pub add_run-requires-clause-fit : goal.add_run-requires-clause-fit
add_run-requires-clause-fit g c =
    subst (λ (ps : Points). AreRecordsFor ps c.records.result.now) (sym c.points.ensures.points)
    (subst (λ (rs : FaultRecords). AreRecordsFor c.args.bench.now.points rs) (sym c.records.ensures) c.follow_whole.ensures.made.fit)

pub loop-run-preserved : goal.loop-run-preserved
loop-run-preserved g c =
    let b = c.args.bench.now in
    let run = run_at b.runs c.loop-run.run in
    let inv = c.loop-run.invariant in
    let followed = c.follow_whole.ensures in
    let within : c.loop-run.run < length b.runs = omega (arith, c.runs-run-end.ensures, c.loop-run-test.true) in
    let old : List (List (Option Fault)) = c.args.draw.now.faults.items in
    let held : List (List (Option Fault)) = c.loop-run.draw.faults.items in
    record {
      made = followed.made;
      faults = followed.faults ∙ inv.faults;
      kept = λ j lt.
          let inside : j < length c.loop-run.latencies = omega (arith, lt, c.requires.room, c.loop-run.auto.latencies, c.forget.auto.latencies) in
          let in_draw : j < length held = omega (arith, lt, c.requires.size, ap (λ v. length v.items) inv.faults) in
          let shown : HasShownRun b.points (shown_in b.circuit (loaded_faults old j) run) (record_of c.records.result.now j) =
          subst (λ (rs : FaultRecords). HasShownRun b.points (shown_in b.circuit (loaded_faults old j) run) (record_of rs j)) (sym c.records.ensures)
          (subst (λ (fs : List (List (Option Fault))). HasShownRun b.points (shown_in b.circuit (loaded_faults fs j) run) (record_of c.follow_whole.new.self.records j)) (ap (λ v. v.items) inv.faults)
          (followed.shown j in_draw)) in
          subst (λ (ps : Points).
          HasShownRun ps (shown_in b.circuit (loaded_faults old j) run) (record_of c.records.result.now j)
          → IsLatencyOf b.circuit ps c.args.ftti b.runs (loaded_faults old j) c.loop-run.run (latency_at c.loop-run.latencies j)
          → IsLatencyOf b.circuit ps c.args.ftti b.runs (loaded_faults old j) (c.loop-run.run + 1) (latency_at c.add_run.new.latencies j)) c.points.ensures.points
          (λ shows was. c.add_run.ensures b.circuit b.runs (loaded_faults old) j inside within (sym c.kind.ensures) shows was)
          shown (inv.kept j lt);
    }

pub returns-clause-kept : goal.returns-clause-kept
returns-clause-kept g c = λ j lt.
    let b = c.args.bench.now in
    let end : c.loop-run.run ≡ length b.runs = omega (arith, c.runs-run-end.ensures, c.loop-run-test.false, c.loop-run.auto.run-end) in
    subst (λ n. IsLatencyOf b.circuit b.points c.args.ftti b.runs (loaded_faults c.args.draw.now.faults.items j) n (latency_at c.loop-run.latencies j)) end (c.loop-run.invariant.kept j lt)
