use Rattle.std.proofs.Common.{◌≡◌, ℕ, ◌+◌, ◌*◌, ◌<◌, List, [], ◌∷◌, length, ap, ap₂, sym, ◌∙◌, subst, arith}
use Rattle.circuit.specs.declared.parts.Fault.{Fault}
use Rattle.alarm_points.specs.FourWatches.{AreAllMadeFor, windows_at}
use Rattle.alarm_points.specs.Watch.{Watches}
use Rattle.lane_words.specs.Loads.{loaded_faults}
use Rattle.testbench.specs.Load.{lane_faults, load_of}
use Rattle.classifier.specs.OutOfReach.{AreOutOfReach, reach_at}
use Rattle.classifier.specs.Planes.{planes_of}
use Rattle.classifier.proofs.Stretches.{one_word}
use Rattle.classifier.proofs.outcome.word_outcome.Goals as goal

pub loaded_outcomes-requires-clause-reach : goal.loaded_outcomes-requires-clause-reach
loaded_outcomes-requires-clause-reach g c = λ word lt.
    let first : 0 ≡ word = omega (arith, lt) in
    subst (λ w. AreOutOfReach c.args.bench.now.circuit c.args.bench.now.points (lane_faults (load_of c.args.lanes.now) w) (reach_at (c.args.reach ∷ []) w)) first c.requires.reach

pub returns-clause-outcome : goal.returns-clause-outcome
returns-clause-outcome g c =
    let net = c.args.bench.now.circuit in
    let points = c.args.bench.now.points in
    let runs = c.args.bench.now.runs in
    let loads = c.args.lanes.now.loads in
    let first : 0 < 1 = omega arith in
    let same : (windows_at c.from_mut.result.now 0).ftti ≡ c.args.windows.now.ftti = ap (λ (ws : List Watches). (windows_at ws 0).ftti) c.from_mut.ensures.value in
    let lane_of : (k : ℕ) → 0 * 64 + k ≡ k = λ k. omega arith in
    let own : lane_faults (load_of c.args.lanes.now) 0 ≡ loaded_faults loads = λ i k. ap (loaded_faults loads) (lane_of k) i in
    c.loaded_outcomes.ensures.outcomes 0 first
    ∙ ap₂ (λ (ftti : ℕ) (faults : ℕ → List Fault). planes_of net points ftti runs faults) same own

pub loaded_outcomes-requires-clause-made : goal.loaded_outcomes-requires-clause-made
loaded_outcomes-requires-clause-made g c =
    let value = c.from_mut.ensures.value in
    record {
      lanes_made = c.requires.lanes;
      narrow_made = λ i none lt. absurd (omega (arith, lt));
      count = ap (λ (ws : List Watches). length ws) value;
      windows_made = subst (λ (ws : List Watches). AreAllMadeFor c.args.bench.now.points ws) (sym value) (one_word c.args.bench.now.points c.args.windows.now c.requires.windows);
    }
