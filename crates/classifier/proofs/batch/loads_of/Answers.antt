use Rattle.std.proofs.Common.{[], ◌∷◌, ap, ◌∙◌, arith, length-set}
use Rattle.std.specs.Prelude.{Option, None}
use Rattle.circuit.specs.declared.parts.Fault.{Fault}
use Rattle.lane_words.specs.Loads.{somes}
use Rattle.lane_words.proofs.Loading.{alone, one_more}
use Rattle.classifier.specs.Batch.{alone_in}
use Rattle.classifier.proofs.batch.loads_of.Goals as goal

pub loop-lane-preserved : goal.loop-lane-preserved
loop-lane-preserved c =
    let lane = c.loop-lane.lane in
    let inv = c.loop-lane.invariant in
    let fault : Option Fault = c.in_lane.result in
    record {
      count = length-set c.loop-lane.loads lane (fault ∷ None ∷ []) ∙ inv.count;
      held = one_more c.loop-lane.loads lane (fault ∷ None ∷ []) (alone_in c.args.faults.now c.args.batch) (omega (arith, inv.count)) inv.held
          (alone fault ∙ ap (λ (own : Option Fault). somes (own ∷ [])) c.in_lane.ensures);
    }
