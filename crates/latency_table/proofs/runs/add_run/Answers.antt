use Rattle.std.proofs.Common.{◌≡◌, ◌≢◌, ◌+◌, ◌<◌, [], List, length, ap, sym, ◌∙◌, subst, arith, get_or-set_other}
use Rattle.std.proofs.lemmas.List.{get_or_default}
use Rattle.workload.specs.Runs.{run_at}
use Rattle.first_cycles.specs.Shown.{shown_in}
use Rattle.fault_runs.specs.Records.{record_of}
use Rattle.fault_runs.specs.Whole.{HasShownRun}
use Rattle.fault_runs.proofs.EachItem.{each_set}
use Rattle.latency_table.specs.declared.latency.Latency.{Latency}
use Rattle.latency_table.specs.Latency.{IsLatencyOf, latency_after, latency_at}
use Rattle.latency_table.proofs.Adding.{latency_more}
use Rattle.latency_table.proofs.runs.add_run.Goals as goal

pub loop-j-preserved : goal.loop-j-preserved
loop-j-preserved c =
    let i = c.loop-j.j in
    let ls : List Latency = c.loop-j.latencies in
    let new : Latency = c.with_run.result in
    let none : Latency = latency_at [] 0 in
    let inv = c.loop-j.invariant in
    let points = c.args.points.now in
    let records = c.args.records.now in
    let inside : i < length ls = omega (arith, c.loop-j-test.true, c.loop-j.auto.latencies) in
    let is : new ≡ latency_after (latency_at c.args.latencies.now i) c.args.run c.fault_shows-shows.result =
    c.with_run.ensures ∙ ap (λ (l : Latency). latency_after l c.args.run c.fault_shows-shows.result) (get_or_default ls i _ none inside ∙ inv.left i (omega arith)) in
    record {
      done = λ circuit runs faults m lt run kind shown before.
          each_set (λ q (l : Latency).
          HasShownRun points (shown_in circuit (faults q) (run_at runs c.args.run)) (record_of records q)
          → IsLatencyOf circuit points c.args.ftti runs (faults q) c.args.run (latency_at c.args.latencies.now q)
          → IsLatencyOf circuit points c.args.ftti runs (faults q) (c.args.run + 1) l) ls i new none inside
          (λ shows was.
          subst (λ (l : Latency). IsLatencyOf circuit points c.args.ftti runs (faults i) (c.args.run + 1) l) (sym is)
          (latency_more circuit points c.args.ftti runs (faults i) c.args.run run (latency_at c.args.latencies.now i) c.fault_shows-shows.result
          (c.fault_shows-shows.ensures circuit (run_at runs c.args.run) (faults i) kind shows)
          was))
          m
          (λ apart shows was. inv.done circuit runs faults m (omega (arith, apart, lt)) run kind shows was)
          shown before;
      left = λ m le.
          let apart : m ≢ i = omega (arith, le) in
          get_or-set_other ls i m new none apart ∙ inv.left m (omega (arith, le));
    }

pub returns : goal.returns
returns c = λ circuit runs faults m lt run kind shown before.
    let done : m < c.loop-j.j = omega (arith, lt, c.loop-j-test.false, c.loop-j.auto.latencies) in
    c.loop-j.invariant.done circuit runs faults m done run kind shown before
