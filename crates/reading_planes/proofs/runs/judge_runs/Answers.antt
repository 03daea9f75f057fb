use Rattle.std.proofs.Common.{◌≡◌, ◌+◌, ◌*◌, ◌<◌, ◌≤◌, ◌++◌, ◌∷◌, ℕ, List, [], length, take, refl, ap, sym, ◌∙◌, subst, arith}
use Rattle.std.specs.Int.{div_ceil}
use Rattle.std.specs.Prelude.{Option}
use Rattle.std.proofs.Math.Nat.{add-mul, mul-add}
use Rattle.std.proofs.lemmas.List.{take_more}
use Rattle.std.proofs.lemmas.List.Sums.{sum_by_push}
use Rattle.circuit.specs.declared.parts.Fault.{Fault}
use Rattle.workload.specs.declared.run.Kind.TheVariants.{Mission}
use Rattle.workload.specs.declared.run.Run.{Run}
use Rattle.workload.specs.Runs.{all_cycles, cycles_of, run_at}
use Rattle.alarm_points.specs.declared.Points.{Points}
use Rattle.campaign_plan.specs.declared.Outcome.{Outcome}
use Rattle.first_cycles.specs.Shown.{shown_in}
use Rattle.testbench.specs.Load.{in_lane}
use Rattle.lane_words.specs.Loads.{loaded_faults}
use Rattle.classifier.specs.Planes.{HasPlanes}
use Rattle.classifier.proofs.RunByRun.{planes_none}
use Rattle.fault_runs.specs.Records.{AreRecordsFor, FaultRecords, record_of}
use Rattle.fault_runs.specs.Whole.{HasShownRun}
use Rattle.reading_planes.specs.Folded.{AreCyclesFor, planes_at, reading_at}
use Rattle.reading_planes.specs.Readings.{ftti_by, points_by}
use Rattle.reading_planes.proofs.runs.judge_runs.Goals as goal

-- the cycles up to one run more
more_cycles : (runs : List Run) (n : ℕ) → n < length runs → all_cycles (take (n + 1) runs) ≡ all_cycles (take n runs) + cycles_of (run_at runs n)
more_cycles runs n lt =
    let none : Run = record { kind = Mission; vectors = [] } in
    ap (λ (rs : List Run). all_cycles rs) (take_more runs n none lt) ∙ sum_by_push cycles_of (take n runs) (run_at runs n)

-- the steps of one run more, for each of so many groups
cost_more : (start before now groups all own tables more : ℕ) → before ≤ start + groups * (all * tables) → more ≡ all + own → now ≤ before + groups * (own * tables)
    → now ≤ start + groups * (more * tables)
cost_more start before now groups all own tables more b m n =
    let split : groups * ((all + own) * tables) ≡ groups * (all * tables) + groups * (own * tables) =
    ap (λ k. groups * k) (add-mul all own tables) ∙ mul-add groups (all * tables) (own * tables) in
    rw m (omega (arith, split))

pub loop-run-init : goal.loop-run-init
loop-run-init g c =
    let net = c.args.bench.now.circuit in
    let points = c.args.bench.now.points in
    record {
      made = c.requires.made;
      faults = refl;
      cycles = c.requires.cycles;
      fit = c.requires.planes;
      planes = λ word r lt small.
          let own = points_by points (reading_at c.args.readings.now r) in
          let ftti = ftti_by c.args.ftti (reading_at c.args.readings.now r) in
          let faults = in_lane c.args.draw.now.faults.items word in
          subst (λ (o : Outcome). HasPlanes net own ftti [] faults o) (sym (c.requires.nothing word r lt small)) (planes_none net own ftti faults);
      cost = omega arith;
    }

pub add_run-requires-clause-fit : goal.add_run-requires-clause-fit
add_run-requires-clause-fit g c =
    subst (λ (ps : Points). AreRecordsFor ps c.records.result.now) (sym c.points.ensures.points)
    (subst (λ (rs : FaultRecords). AreRecordsFor c.args.bench.now.points rs) (sym c.records.ensures) c.follow_whole.ensures.made.fit)

pub loop-run-preserved : goal.loop-run-preserved
loop-run-preserved g c =
    let net = c.args.bench.now.circuit in
    let points = c.args.bench.now.points in
    let runs = c.args.bench.now.runs in
    let n = c.loop-run.run in
    let run = run_at runs n in
    let inv = c.loop-run.invariant in
    let followed = c.follow_whole.ensures in
    let held : List (List (Option Fault)) = c.args.draw.now.faults.items in
    let same : c.loop-run.draw.faults.items ≡ held = ap (λ v. v.items) inv.faults in
    let within : n < length runs = omega (arith, c.runs-run-end.ensures, c.loop-run-test.true) in
    let none : Run = record { kind = Mission; vectors = [] } in
    record {
      made = followed.made;
      faults = followed.faults ∙ inv.faults;
      cycles = subst (λ (ps : Points). AreCyclesFor ps c.add_run.new.cycles) c.points.ensures.points c.add_run.ensures.made;
      fit = c.add_run.ensures.fit;
      planes = λ word r lt small.
          let reading = reading_at c.args.readings.now r in
          let own = points_by points reading in
          let ftti = ftti_by c.args.ftti reading in
          let faults = in_lane held word in
          let inside : word < length c.loop-run.planes = omega (arith, lt, c.loop-run.auto.planes) in
          let shown : (k : ℕ) → k < 64 → HasShownRun points (shown_in net (faults k) run) (record_of c.records.result.now (word * 64 + k)) = λ k lane.
          let number : word * 64 + k < length c.loop-run.draw.faults.items = omega (arith, lt, lane, c.requires.size, ap length same) in
          subst (λ (rs : FaultRecords). HasShownRun points (shown_in net (faults k) run) (record_of rs (word * 64 + k))) (sym c.records.ensures)
          (subst (λ (fs : List (List (Option Fault))). HasShownRun points (shown_in net (loaded_faults fs (word * 64 + k)) run) (record_of c.follow_whole.new.self.records (word * 64 + k))) same
          (followed.shown (word * 64 + k) number)) in
          subst (λ (rs : List Run). HasPlanes net own ftti rs faults (planes_at c.add_run.new.planes word r)) (sym (take_more runs n none within))
          (subst (λ (ps : Points).
          ((k : ℕ) → k < 64 → HasShownRun ps (shown_in net (faults k) run) (record_of c.records.result.now (word * 64 + k))) → HasPlanes net (points_by ps reading) ftti (take n runs) faults (planes_at c.loop-run.planes word r)
          → HasPlanes net (points_by ps reading) ftti (take n runs ++ run ∷ []) faults (planes_at c.add_run.new.planes word r)) c.points.ensures.points
          (λ sees was. c.add_run.ensures.planes net (take n runs) run faults word r (sym c.kind.ensures) inside sees small was)
          shown (inv.planes word r lt small));
      cost =
          cost_more c.args.steps.now c.loop-run.steps c.follow_whole.new.steps (div_ceil (length held) 256) (all_cycles (take n runs)) (cycles_of run) (length net.tables) _ inv.cost (more_cycles runs n within)
          (subst (λ (fs : List (List (Option Fault))). c.follow_whole.new.steps ≤ c.loop-run.steps + div_ceil (length fs) 256 * (cycles_of run * length net.tables)) same followed.cost);
    }
