use Rattle.std.proofs.Common.{◌≡◌, ◌+◌, ◌*◌, ◌/◌, ◌%◌, ◌<◌, ◌≤◌, ◌^◌, ℕ, List, [], ◌∷◌, length, ap, ap₂, sym, ◌∙◌, subst, arith}
use Rattle.std.specs.Int.{div_ceil}
use Rattle.std.specs.Prelude.{Option, Some}
use Rattle.circuit.specs.declared.parts.Fault.{Fault}
use Rattle.workload.specs.Runs.{all_cycles}
use Rattle.fault_list.specs.Faults.{fault_in_lane}
use Rattle.fm_base.proofs.Lists.{written_whole}
use Rattle.campaign_plan.specs.declared.Outcome.{Outcome}
use Rattle.lane_words.specs.Loads.{loaded_faults, somes}
use Rattle.classifier.specs.Batch.{alone_in}
use Rattle.testbench.specs.Load.{in_lane}
use Rattle.classifier.specs.Planes.{HasPlanes, planes_of}
use Rattle.classifier.proofs.PlaneBits.{planes_alike, planes_have}
use Rattle.reading_planes.specs.Folded.{ArePlanesFor, planes_at, reading_at}
use Rattle.reading_planes.specs.Readings.{ftti_by, points_by}
use Rattle.reading_planes.proofs.simulator.ReadingSimulator.counted_batches.Goals as goal

pub load_batches-requires-clause-size : goal.load_batches-requires-clause-size
load_batches-requires-clause-size g c = subst (λ n. n < 2 ^ 32) (sym c.requires.made.faults) (omega arith)

pub load_batches-requires-clause-few : goal.load_batches-requires-clause-few
load_batches-requires-clause-few g c = subst (λ n. c.args.first + n / 64 * c.args.apart < 2 ^ 32) (sym c.requires.made.faults) c.requires.few

pub returns-clause-found : goal.returns-clause-found
returns-clause-found g c = λ word r lt small.
    let bench = c.args.bench.now in
    let reading = reading_at c.args.readings.now r in
    let own = points_by bench.points reading in
    let ftti = ftti_by c.args.ftti reading in
    let faults = c.args.faults.now in
    let batch = c.args.first + word * c.args.apart in
    let held : List (List (Option Fault)) = c.load_batches.new.self.faults.items in
    let lanes : ℕ → List Fault = in_lane held word in
    let alone : ℕ → List Fault = alone_in faults (Some batch) in
    let old = c.args.self.now.planes in
    let new : List (List Outcome) = c.loaded_readings.new.planes in
    let count : length new ≡ length old.items = c.loaded_readings.auto.planes ∙ ap length c.as_mut_slice-planes.ensures.value in
    let whole = written_whole new old.items old.len count old.ok.0 in
    let inside : word < length c.as_mut_slice-planes.result.now = omega (arith, lt, ap length c.as_mut_slice-planes.ensures.value, c.requires.made.word_planes) in
    let same : (k : ℕ) → k < 64 → lanes k ≡ alone k = λ k lane.
    let number : word * 64 + k < length held = omega (arith, lt, lane, c.load_batches.ensures.count, c.requires.made.faults) in
    let own_word : (word * 64 + k) / 64 ≡ word = omega (arith, lane) in
    let own_lane : (word * 64 + k) % 64 ≡ k = omega (arith, lane) in
    c.load_batches.ensures.holds (word * 64 + k) number
    ∙ ap₂ (λ w j. somes (fault_in_lane faults (Some (c.args.first + w * c.args.apart)) j ∷ [])) own_word own_lane in
    subst (λ (ps : List (List Outcome)). HasPlanes bench.circuit own ftti bench.runs alone (planes_at ps word r)) (sym whole)
    (subst (λ (o : Outcome). HasPlanes bench.circuit own ftti bench.runs alone o) (sym (c.loaded_readings.ensures.planes word r inside small))
    (planes_alike bench.circuit own ftti bench.runs lanes alone (planes_of bench.circuit own ftti bench.runs lanes) same (planes_have bench.circuit own ftti bench.runs lanes)))
