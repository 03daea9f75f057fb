use Rattle.std.proofs.Common.{Ok}
use Rattle.std.specs.List.{flat_map}
use Rattle.fm_base.specs.Lists.{below}
use Rattle.fm_shelf.specs.Sink.{Sends}
use Rattle.pair_campaign.specs.PairText.{line_by_bit}
use Rattle.pair_campaign.proofs.text.write_dangerous.Given as goal

abbrev pub invariant-loop-pair : goal.invariant-loop-pair
invariant-loop-pair g l =
    Sends (g.O.Sink.seen l.initial.out) (g.O.Sink.seen l.out)
    (flat_map (line_by_bit l.plan l.pairs l.planes) (below l.pair)) (Ok tt)
