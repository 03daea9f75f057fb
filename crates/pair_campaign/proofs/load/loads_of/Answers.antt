use Rattle.std.proofs.Common.{◌∙◌, arith, length-set}
use Rattle.lane_words.proofs.Loading.{one_more}
use Rattle.pair_campaign.specs.Work.{faults_in_lane}
use Rattle.pair_campaign.proofs.load.loads_of.Goals as goal

pub loop-lane-preserved : goal.loop-lane-preserved
loop-lane-preserved c =
    let lane = c.loop-lane.lane in
    let inv = c.loop-lane.invariant in
    record {
      count = length-set c.loop-lane.loads lane c.both_in.result ∙ inv.count;
      held = one_more c.loop-lane.loads lane c.both_in.result (faults_in_lane c.args.plan.now c.args.pairs.now c.args.plane) (omega (arith, inv.count)) inv.held
          c.both_in.ensures;
    }
