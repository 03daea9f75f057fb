use Rattle.std.proofs.Common.{◌<◌, length, refl, ◌∙◌, arith, length-set}
use Rattle.std.specs.Prelude.{Some}
use Rattle.campaign_workers.specs.Rounds.{drawn_in}
use Rattle.campaign_workers.proofs.Owing.{owes_at_none}
use Rattle.campaign_workers.proofs.RoundByRound.{begins_round, draws_one}
use Rattle.campaign_workers.proofs.round.draw_round.Goals as goal

pub loop-word-init : goal.loop-word-init
loop-word-init g c = record { count = refl; drawn = begins_round c.args.shared.now g.N.Origin.start c.args.seat.now c.requires.ready }

pub returns-in_default-clause-owes : goal.returns-in_default-clause-owes
returns-in_default-clause-owes g c =
    owes_at_none c.args.shared.now g.N.Origin.start c.loop-word.seat c.draw.new.seat (drawn_in c.loop-word.batches) c.loop-word.invariant.drawn.owes c.in_default.ensures.table c.in_default.ensures.none

pub loop-word-preserved : goal.loop-word-preserved
loop-word-preserved g c =
    let batches = c.loop-word.batches in
    let inv = c.loop-word.invariant in
    let inside : c.loop-word.word < length batches = omega (arith, inv.count, c.loop-word-test.true) in
    record {
      count = length-set batches c.loop-word.word (Some c.in-Some.batch) ∙ inv.count;
      drawn = draws_one c.args.shared.now g.N.Origin.start c.args.seat.now c.loop-word.seat c.draw.new.seat batches c.loop-word.word c.in-Some.batch inv.drawn inside c.in-Some.ensures.table c.in-Some.ensures.some;
    }
