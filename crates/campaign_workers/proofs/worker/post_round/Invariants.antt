use Rattle.std.proofs.Common.{drop}
use Rattle.campaign_workers.proofs.RoundByRound.{HasLeft}
use Rattle.campaign_workers.proofs.worker.post_round.Given as goal

abbrev pub invariant-loop-word : goal.invariant-loop-word
invariant-loop-word g l = HasLeft l.shared g.N.Origin.start l.initial.seat l.seat l.round.batches (drop l.word l.round.batches)
