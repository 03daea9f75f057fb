use Rattle.std.proofs.Common.{sym, ◌∙◌}
use Rattle.std.proofs.lemmas.Bool.{true≢false}
use Rattle.alarm_points.proofs.Planes.{bit_of_none}
use Rattle.lane_words.specs.Loads.{loaded_faults}
use Rattle.reach.specs.Reached.{nets_of}
use Rattle.classifier.proofs.Beyond.{marked_lane}
use Rattle.classifier.proofs.reached.lanes_beyond.Goals as goal

pub loop-lane-init : goal.loop-lane-init
loop-lane-init c = λ k lane marked. absurd (true≢false (sym marked ∙ bit_of_none k))

pub loop-lane-preserved : goal.loop-lane-preserved
loop-lane-preserved c = λ k lane marked.
    marked_lane c.args.reach.now.circuit (nets_of c.args.reach.now.points c.args.sort) (loaded_faults c.args.loads.now) c.loop-lane.lanes c.put-lanes.result c.loop-lane.lane c.is_reached-reached.result
    c.put-lanes.ensures c.is_reached-reached.ensures c.loop-lane.invariant k lane marked
