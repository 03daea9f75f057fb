use Rattle.std.proofs.Common.{◌≡◌, ◌+◌, ◌*◌, ap, sym, ◌∙◌, subst, arith}
use Rattle.campaign_plan.specs.declared.Outcome.{Outcome}
use Rattle.lane_words.specs.Loads.{loaded_faults}
use Rattle.testbench.specs.Load.{lane_faults, load_of}
use Rattle.classifier.specs.Planes.{HasPlanes}
use Rattle.classifier.proofs.PlaneBits.{planes_have}
use Rattle.classifier.proofs.batch.batch_outcome.Goals as goal

pub word_outcome-loaded-requires-clause-reach : goal.word_outcome-loaded-requires-clause-reach
word_outcome-loaded-requires-clause-reach g c = c.out_of_reach-reach.ensures (lane_faults (load_of c.load.new.self) 0) (λ k lane. c.load.ensures.loads k lane)

pub returns-clause-outcome : goal.returns-clause-outcome
returns-clause-outcome g c =
    let net = c.args.bench.now.circuit in
    let points = c.args.bench.now.points in
    let runs = c.args.bench.now.runs in
    let ftti = c.args.windows.now.ftti in
    let lanes = loaded_faults c.load.new.self.loads in
    c.of_batch.ensures net points ftti runs lanes
    (λ k lane.
    let first : k ≡ 0 * 64 + k = omega arith in
    ap lanes first ∙ c.load.ensures.loads k lane ∙ c.loads_of-loads.ensures k lane)
    (subst (λ (o : Outcome). HasPlanes net points ftti runs lanes o) (sym c.word_outcome-loaded.ensures.outcome) (planes_have net points ftti runs lanes))
