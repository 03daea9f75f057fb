use Rattle.std.proofs.Common.{◌≡◌, ◌+◌, ◌<◌, ℕ, List, [], length, subst, ◌∙◌, arith}
use Rattle.std.proofs.lemmas.List.{length-set}
use Rattle.campaign_plan.specs.declared.Outcome.{Outcome}
use Rattle.classifier.proofs.EachWord.{each_set_one}
use Rattle.metric_coverage.specs.Turns.{HasBatch, batch_of_turn}
use Rattle.metric_coverage.proofs.worker.keep_turns.Goals as goal

pub loop-word-preserved : goal.loop-word-preserved
loop-word-preserved c =
    let p = c.args.plan.now in
    let readings = c.args.readings.now in
    let share = c.args.share in
    let at : ℕ = c.args.turn + c.loop-word.word in
    let turns : List (List Outcome) = c.loop-word.turns in
    let new : List Outcome = c.keep_turn.new.turn in
    let inv = c.loop-word.invariant in
    let did : HasBatch p readings (batch_of_turn share at) new = subst (λ n. HasBatch p readings n new) c.batch_of-batch.ensures c.keep_turn.ensures in
    let inside : at < length turns = omega (arith, c.loop-word-test.true, c.requires.room, inv.room) in
    record {
      room = length-set turns at new ∙ inv.room;
      wide = λ t lt. each_set_one (λ m (kept : List Outcome). length kept ≡ length readings) turns at new [] inside did.count t (λ apart. inv.wide t lt);
      kept = λ t lt.
          each_set_one (λ m (kept : List Outcome). HasBatch p readings (batch_of_turn share m) kept) turns at new [] inside
          did t (λ apart. inv.kept t (omega (arith, apart, lt)));
    }
