use Rattle.std.proofs.Common.{◌≡◌, ◌<◌, [], length, map, sym, ◌∙◌, subst, arith}
use Rattle.std.specs.Prelude.{None}
use Rattle.std.proofs.lemmas.List.{ext_get_or, get_or-map, length-map}
use Rattle.campaign_plan.specs.declared.Outcome.{Outcome}
use Rattle.testbench.specs.Load.{lane_faults, load_of}
use Rattle.classifier.specs.Batch.{outcome_for}
use Rattle.classifier.specs.Planes.{HasPlanes, outcome_at}
use Rattle.classifier.proofs.PlaneBits.{planes_have}
use Rattle.classifier.proofs.batch.narrowed_outcomes.Goals as goal

pub returns-clause-outcomes : goal.returns-clause-outcomes
returns-clause-outcomes g c =
    let net = c.args.bench.now.circuit in
    let points = c.args.bench.now.points in
    let runs = c.args.bench.now.runs in
    let ftti = c.args.windows.now.ftti in
    let batches = c.args.batches.now in
    let lanes = load_of c.load_words-reach.new.lanes in
    let none : Outcome = outcome_at [] 0 in
    let found = outcome_for net points ftti runs c.args.faults.now in
    let count : length c.of_batches.new.outcomes ≡ length (map found batches) =
    c.of_batches.array_long ∙ sym c.told-batches ∙ sym (length-map batches found) in
    ext_get_or none c.of_batches.new.outcomes (map found batches) count
    (λ word lt.
    let within : word < 4 = omega (arith, lt, c.of_batches.array_long) in
    let inside : word < length batches = omega (arith, within, c.told-batches) in
    c.of_batches.ensures net points ftti runs word (lane_faults lanes word) within (λ k lane. c.load_words-reach.ensures.loads word k within lane)
    (subst (λ (o : Outcome). HasPlanes net points ftti runs (lane_faults lanes word) o) (sym (c.loaded_quad-outcomes.ensures.outcomes word within))
    (planes_have net points ftti runs (lane_faults lanes word)))
    ∙ sym (get_or-map found batches word None none inside))
