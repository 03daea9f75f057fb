-- A run that was followed to its end.
use Rattle.std.proofs.Common.{◌≡◌, ◌<◌, ◌≤◌, ◌+◌, ◌*◌, ℕ, List, [], length, take, drop, ap, sym, ◌∙◌, subst, arith, ◌++◌}
use Rattle.std.specs.Prelude.{Option}
use Rattle.std.proofs.lemmas.List.{length-take-le, take-append-drop}
use Rattle.circuit.specs.declared.parts.Fault.{Fault}
use Rattle.circuit.specs.Circuit.{Circuit}
use Rattle.workload.specs.declared.run.Run.{Run}
use Rattle.std.proofs.lemmas.List.Sums.{get_or-le-sum_by}
use Rattle.workload.specs.declared.run.Kind.{Kind}
use Rattle.workload.specs.Runs.{all_cycles, cycles_of, run_at}
use Rattle.workload.specs.RunsKept.{AreRuns}
use Rattle.alarm_points.specs.PointsKept.{ArePointsFor}
use Rattle.alarm_points.specs.declared.Points.{Points}
use Rattle.golden_difference.specs.Beside.{trace_differs}
use Rattle.classifier.specs.InRun.{AreAllOver}
use Rattle.testbench.specs.Load.{Load, in_lane, lane_faults}
use Rattle.classifier.specs.OutOfReach.{decided_at}
use Rattle.classifier.specs.Seen.{AllBegin, Begins, HaveAllSeenRun}
use Rattle.classifier.specs.Stretch.{AreAllWatched, IsUnderWay, UnderWay}
use Rattle.testbench.specs.Testbench.{Testbench}
use Rattle.classifier.specs.declared.decided.Decided.{Decided}
use Rattle.classifier.proofs.Stillness.{over_still}

-- a run has few cycles
pub few_cycles : (runs : List Run) (run : ℕ) → AreRuns runs → run < length runs → cycles_of (run_at runs run) ≤ 65536
few_cycles runs run are lt =
    let least : cycles_of (run_at runs run) ≤ all_cycles runs = get_or-le-sum_by cycles_of runs run (run_at [] 0) lt in
    omega (arith, least, are.few)

-- after cycles behind which the run is over in each lane that hasn't left, or ends, the run has been seen
seen_so_far : (points : Points) (run : Run) (words : ℕ) (faults : List (List (Option Fault))) (decided : List Decided) (n : ℕ) (s : UnderWay)
    → ArePointsFor s.lanes.load.circuit points → cycles_of run ≤ 65536 → length s.windows ≡ words → n ≤ cycles_of run
    → AreAllWatched points run words faults decided n s
    → (n < cycles_of run → AreAllOver words s.lanes (take n run.vectors))
    → HaveAllSeenRun s.lanes.load.circuit points run faults decided s.windows s.left
seen_so_far points run words faults decided n s fit few count within watched over word lt = record {
  n = n;
  within = within;
  seen = (watched word in_words).seen;
  still = λ k u lane none from late.
      over_still c points run (in_lane faults word k) u fit
      (λ net inside.
      let vectors = run.vectors in
      sym (ap (λ vs. trace_differs c (in_lane faults word k) vs u net) (take-append-drop n vectors))
      ∙ sym (ap (λ (fs : List Fault). trace_differs c fs (take n vectors ++ drop n vectors) u net) ((watched word in_words).followed.follow k lane none))
      ∙ over (omega (arith, from, late)) word k in_words lane (drop n vectors) u net (omega (arith, length-take-le n vectors within, from)) (omega (arith, late, few)) inside);
}
  where
    c : Circuit
    c = s.lanes.load.circuit

    in_words : word < words
    in_words = subst (λ m. word < m) count lt

-- so on a testbench
pub seen_to_end : (bench : Testbench) (run words : ℕ) (decided : List Decided) (n : ℕ) (s : UnderWay) (faults : List (List (Option Fault)))
    → ArePointsFor bench.circuit bench.points → IsUnderWay bench run words decided n s → n ≤ cycles_of (run_at bench.runs run)
    → AreAllWatched bench.points (run_at bench.runs run) words faults decided n s
    → (n < cycles_of (run_at bench.runs run) → AreAllOver words s.lanes (take n (run_at bench.runs run).vectors))
    → HaveAllSeenRun bench.circuit bench.points (run_at bench.runs run) faults decided s.windows s.left
seen_to_end bench run words decided n s faults fit is within watched over =
    subst (λ (c : Circuit). HaveAllSeenRun c bench.points (run_at bench.runs run) faults decided s.windows s.left) is.made.circuit
    (seen_so_far bench.points (run_at bench.runs run) words faults decided n s (subst (λ (c : Circuit). ArePointsFor c bench.points) (sym is.made.circuit) fit)
    (few_cycles bench.runs run is.runs is.has_run) is.for_words.windows_count within watched over)

-- lanes begin a run with what they were loaded with, where they aren't decided
pub begun : (kind own : Kind) (words : ℕ) (load : Load) (decided : List Decided) (started faults : List (List (Option Fault))) → own ≡ kind → started ≡ load.faults
    → ((word k : ℕ) → word < words → k < 64 → Begins own (decided_at decided word) k (in_lane started word k) (in_lane faults word k))
    → AllBegin kind words load decided faults
begun kind own words load decided started faults same from begins word k lt lane =
    subst (λ (kd : Kind). Begins kd (decided_at decided word) k (lane_faults load word k) (in_lane faults word k)) same
    (subst (λ (fs : List (List (Option Fault))). Begins own (decided_at decided word) k (in_lane fs word k) (in_lane faults word k)) from (begins word k lt lane))

-- the steps of some cycles more
pub cost_more : (start before now from t tables : ℕ) → before ≤ start + from * tables → now + from * tables ≤ before + t * tables → now ≤ start + t * tables
cost_more start before now from t tables b n = omega arith
