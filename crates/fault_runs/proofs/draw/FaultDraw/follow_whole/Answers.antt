use Rattle.std.proofs.Common.{◌<◌, List, length, sym, subst}
use Rattle.std.specs.Prelude.{Option}
use Rattle.circuit.specs.declared.parts.Fault.{Fault}
use Rattle.workload.specs.Runs.{run_at}
use Rattle.first_cycles.specs.Shown.{shown_in}
use Rattle.lane_words.specs.Loads.{loaded_faults}
use Rattle.fault_runs.specs.Records.{record_of}
use Rattle.fault_runs.specs.Whole.{HasShownRun}
use Rattle.fault_runs.proofs.WholeShown.{followed_whole}
use Rattle.fault_runs.proofs.draw.FaultDraw.follow_whole.Goals as goal

pub returns-clause-shown : goal.returns-clause-shown
returns-clause-shown g c = λ i lt.
    let bench = c.args.bench.now in
    let run = run_at bench.runs c.args.run in
    let draw : List (List (Option Fault)) = c.as_slice-draw.result.now in
    let r = record_of c.follow_run.new.records i in
    let inside : i < length draw = subst (λ (fs : List (List (Option Fault))). i < length fs) (sym c.as_slice-draw.ensures.value) lt in
    subst (λ (fs : List (List (Option Fault))). HasShownRun bench.points (shown_in bench.circuit (loaded_faults fs i) run) r) c.as_slice-draw.ensures.value
    (followed_whole bench.circuit bench.points run (loaded_faults draw i) r (c.follow_run.ensures.followed i inside))
