use Rattle.std.proofs.Common.{◌≡◌, length}
use Rattle.campaign_workers.proofs.RoundByRound.{HasDrawn}
use Rattle.campaign_workers.proofs.round.draw_round.Given as goal

abbrev pub invariant-loop-word : goal.invariant-loop-word
invariant-loop-word g l = record {
  count : length l.batches ≡ 4;
  drawn : HasDrawn l.shared g.N.Origin.start l.initial.seat l.seat l.batches l.word;
}
