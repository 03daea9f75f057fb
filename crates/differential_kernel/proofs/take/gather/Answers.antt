use Rattle.std.proofs.Common.{ap, ◌∙◌}
use Rattle.differential_kernel.proofs.Picking.{picked_more}
use Rattle.differential_kernel.proofs.take.gather.Goals as goal

pub loop-place-preserved : goal.loop-place-preserved
loop-place-preserved g c = λ place lt.
    c.put-gathered.ensures place lt
    ∙ picked_more c.args.picks.now (g.V.Word.lane_bit c.args.word) place c.loop-place.place (g.W.Word.lane_bit c.loop-place.gathered place) c.get.result
    (c.loop-place.invariant place lt) (c.get.ensures ∙ ap (g.V.Word.lane_bit c.args.word) c.lane.ensures)
