use Rattle.std.proofs.Common.{◌≡◌, ◌+◌, ◌*◌, ◌<◌, ◌≤◌, ℕ, List, [], ◌∷◌, ◌++◌, length, take, refl, ap, sym, ◌∙◌, subst, arith}
use Rattle.std.proofs.Math.Nat.{add-mul}
use Rattle.std.proofs.lemmas.List.{take_more}
use Rattle.std.proofs.lemmas.List.Sums.{sum_by_push}
use Rattle.workload.specs.declared.run.Kind.TheVariants.{Mission}
use Rattle.workload.specs.declared.run.Run.{Run}
use Rattle.workload.specs.Runs.{all_cycles, cycles_of, run_at}
use Rattle.campaign_plan.specs.declared.Outcome.{Outcome}
use Rattle.testbench.specs.Load.{Load, lane_faults, load_of}
use Rattle.classifier.specs.Planes.{HasPlanes, outcome_at}
use Rattle.alarm_points.specs.FourWatches.{windows_at}
use Rattle.classifier.specs.OutOfReach.{AreAllOutOfReach}
use Rattle.classifier.specs.Seen.{HasBeenRun}
use Rattle.classifier.proofs.RunByRun.{planes_none}
use Rattle.classifier.proofs.Stretches.{intervals_more}
use Rattle.classifier.proofs.outcome.judge_runs.Goals as goal

-- the cycles up to one run more
more_cycles : (runs : List Run) (n : ℕ) → n < length runs → all_cycles (take (n + 1) runs) ≡ all_cycles (take n runs) + cycles_of (run_at runs n)
more_cycles runs n lt =
    let none : Run = record { kind = Mission; vectors = [] } in
    ap (λ (rs : List Run). all_cycles rs) (take_more runs n none lt) ∙ sum_by_push cycles_of (take n runs) (run_at runs n)

-- the steps of one run more
cost_more : (start before now all own tables more : ℕ) → before ≤ start + all * tables → more ≡ all + own → now ≤ before + own * tables → now ≤ start + more * tables
cost_more start before now all own tables more b m n =
    let split : (all + own) * tables ≡ all * tables + own * tables = add-mul all own tables in
    rw m (omega (arith, split))

pub loop-run-init : goal.loop-run-init
loop-run-init g c =
    let net = c.args.bench.now.circuit in
    let points = c.args.bench.now.points in
    let none : c.args.steps.now ≤ c.args.steps.now + 0 * length net.tables = omega arith in
    record {
      load = refl;
      narrow = c.requires.made.narrow_made;
      made = c.requires.made.windows_made;
      intervals = λ word. record { ftti = refl; intervals = refl };
      planes = λ word lt.
          let ftti = (windows_at c.args.windows.now word).ftti in
          let faults = lane_faults (load_of c.args.lanes.now) word in
          let within : word < length c.args.outcomes.now = omega (arith, lt, c.requires.counts.3) in
          subst (λ (o : Outcome). HasPlanes net points ftti [] faults o) (sym (c.forget.ensures word within)) (planes_none net points ftti faults);
      cost = none;
    }

pub watch_run-requires-clause-made : goal.watch_run-requires-clause-made
watch_run-requires-clause-made g c =
    let inv = c.loop-run.invariant in
    let made = c.requires.made in
    record {
      lanes_made = record {
        circuit = ap (λ (l : Load). l.circuit) inv.load ∙ made.lanes_made.circuit;
        order = ap (λ (l : Load). l.order) inv.load ∙ made.lanes_made.order;
      };
      narrow_made = inv.narrow;
      count = omega (arith, c.loop-run.auto.windows, made.count);
      windows_made = inv.made;
    }

pub loop-run-preserved : goal.loop-run-preserved
loop-run-preserved g c =
    let net = c.args.bench.now.circuit in
    let points = c.args.bench.now.points in
    let runs = c.args.bench.now.runs in
    let n = c.loop-run.run in
    let run = run_at runs n in
    let inv = c.loop-run.invariant in
    let watched = c.watch_run.ensures in
    let before = load_of c.loop-run.lanes in
    let load = load_of c.args.lanes.now in
    let old = c.args.windows.now in
    let windows = c.watch_run.new.windows in
    let held = c.loop-run.outcomes in
    let outcomes = c.add_run.new.outcomes in
    let reach = c.args.reach.now in
    let decided = c.decide.new.decided in
    let left = c.watch_run.new.left in
    let within : n < length runs = omega (arith, c.runs-run-end.ensures) in
    let none : Run = record { kind = Mission; vectors = [] } in
    let words : g.W.Word.words ≡ length held = omega (arith, c.requires.counts.3, c.loop-run.auto.outcomes, c.forget.auto.outcomes) in
    let intervals = intervals_more old c.loop-run.windows windows inv.intervals watched.intervals in
    let added =
    c.add_run.ensures net points (take n runs) run before reach (sym c.kind.ensures)
    (subst (λ m. AreAllOutOfReach net points m before reach) words (subst (λ (l : Load). AreAllOutOfReach net points g.W.Word.words l reach) (sym inv.load) c.requires.reach))
    c.decide.ensures
    (subst (λ m. HasBeenRun net points run m before decided windows left) words watched.seen)
    (λ word less.
    subst (λ (l : Load). HasPlanes net points (windows_at windows word).ftti (take n runs) (lane_faults l word) (outcome_at held word)) (sym inv.load)
    (subst (λ f. HasPlanes net points f (take n runs) (lane_faults load word) (outcome_at held word)) (sym (intervals word).ftti) (inv.planes word (omega (arith, less, words))))) in
    record {
      load = watched.load ∙ inv.load;
      narrow = watched.narrow;
      made = λ word lt. (watched.seen.seen word lt).seen.made;
      intervals = intervals;
      planes = λ word lt.
          subst (λ f. HasPlanes net points f (take (n + 1) runs) (lane_faults load word) (outcome_at outcomes word)) (intervals word).ftti
          (subst (λ (rs : List Run). HasPlanes net points (windows_at windows word).ftti rs (lane_faults load word) (outcome_at outcomes word)) (sym (take_more runs n none within))
          (subst (λ (l : Load). HasPlanes net points (windows_at windows word).ftti (take n runs ++ run ∷ []) (lane_faults l word) (outcome_at outcomes word)) inv.load
          (added word (omega (arith, lt, words)))));
      cost = cost_more _ _ _ _ _ (length net.tables) _ inv.cost (more_cycles runs n within) watched.cost;
    }

pub returns-clause-made : goal.returns-clause-made
returns-clause-made g c =
    let inv = c.loop-run.invariant in
    let made = c.requires.made in
    record {
      lanes_made = record {
        circuit = ap (λ (l : Load). l.circuit) inv.load ∙ made.lanes_made.circuit;
        order = ap (λ (l : Load). l.order) inv.load ∙ made.lanes_made.order;
      };
      narrow_made = inv.narrow;
      count = omega (arith, c.loop-run.auto.windows, made.count);
      windows_made = inv.made;
    }
