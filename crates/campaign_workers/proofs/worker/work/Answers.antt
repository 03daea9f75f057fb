use Rattle.std.proofs.Common.{◌<◌, ◌∙◌, sym, subst, arith}
use Rattle.campaign_workers.proofs.Owing.{ready_again, done_at_look}
use Rattle.campaign_workers.proofs.RoundsEnd.{round_less}
use Rattle.campaign_workers.proofs.worker.work.Goals as goal

pub finish_round-requires-clause-admitted : goal.finish_round-requires-clause-admitted
finish_round-requires-clause-admitted g c = subst g.T.Turn.admits (sym (c.draw_round-round.ensures.share ∙ c.rounds.invariant.share)) c.requires.admitted

pub look-requires-clause-admitted : goal.look-requires-clause-admitted
look-requires-clause-admitted g c =
    subst g.T.Turn.admits (sym (c.in_default.ensures.share ∙ c.draw_round-round.ensures.share ∙ c.rounds.invariant.share)) c.requires.admitted

pub rounds-smaller : goal.rounds-smaller
rounds-smaller g c =
    let finished = c.in_default.ensures in
    let drawn = c.draw_round-round.ensures in
    round_less c.args.shared.now g.N.Origin.start c.rounds.worker.seat c.draw_round-round.new.seat c.finish_round.new.worker.seat c.draw_round-round.result.batches drawn.owes drawn.claims (drawn.full c.if-round.false)
    finished.posts finished.owes

pub returns-then-round-clause-done : goal.returns-then-round-clause-done
returns-then-round-clause-done g c =
    let finished = c.in_default.ensures in
    let none : 0 < c.finish_round.new.worker.seat.view.nones = omega (arith, c.draw_round-round.ensures.last c.if-round.true, finished.nones) in
    done_at_look c.args.shared.now g.N.Origin.start c.finish_round.new.worker.seat c.look.new.seat c.look.result finished.owes none c.look.ensures.table c.look.ensures.look

pub rounds-preserved : goal.rounds-preserved
rounds-preserved g c =
    let finished = c.in_default.ensures in
    record {
      ready = ready_again c.args.shared.now g.N.Origin.start c.finish_round.new.worker.seat finished.owes (finished.nones ∙ c.draw_round-round.ensures.more c.if-round.false);
      simulator = finished.simulator ∙ c.rounds.invariant.simulator;
      share = finished.share ∙ c.draw_round-round.ensures.share ∙ c.rounds.invariant.share;
    }
