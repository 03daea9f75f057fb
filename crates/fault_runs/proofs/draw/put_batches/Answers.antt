use Rattle.std.proofs.Common.{◌+◌, ◌*◌, ◌/◌, ◌%◌, [], ◌∷◌, ap, ◌∙◌, arith}
use Rattle.std.specs.Prelude.{Option, Some, None}
use Rattle.circuit.specs.declared.parts.Fault.{Fault}
use Rattle.fault_list.specs.Faults.{fault_in_lane}
use Rattle.lane_words.specs.Loads.{somes}
use Rattle.lane_words.proofs.Loading.{alone, one_more}
use Rattle.fault_runs.proofs.draw.put_batches.Goals as goal

pub loop-i-preserved : goal.loop-i-preserved
loop-i-preserved c =
    let i = c.loop-i.i in
    let fault : Option Fault = c.in_lane-fault.result in
    one_more c.loop-i.draw i (fault ∷ None ∷ []) (λ j. somes (fault_in_lane c.args.faults.now (Some (c.args.first + j / 64 * c.args.apart)) (j % 64) ∷ []))
    (omega (arith, c.loop-i-test.true, c.loop-i.auto.draw)) c.loop-i.invariant
    (alone fault ∙ ap (λ (own : Option Fault). somes (own ∷ [])) c.in_lane-fault.ensures)
