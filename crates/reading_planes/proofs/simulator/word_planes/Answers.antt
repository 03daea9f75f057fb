use Rattle.std.proofs.Common.{◌≡◌, List, length, ap, ◌∙◌, arith}
use Rattle.std.proofs.lemmas.List.{length_push}
use Rattle.std.proofs.lemmas.List.Elements.{All-push}
use Rattle.campaign_plan.specs.declared.Outcome.{Outcome}
use Rattle.reading_planes.proofs.simulator.word_planes.Goals as goal

pub loop-preserved : goal.loop-preserved
loop-preserved c =
    let i = c.loop.invariant in
    let now = c.in_ok-push.ensures.items in
    let old = c.loop.planes.items in
    let one = c.in_ok-new.field-0 in
    record {
      count = ap length now ∙ length_push old one ∙ omega (arith, i.count);
      fit = rw now (All-push (λ (os : List Outcome). length os ≡ length c.args.readings.now) old one i.fit c.in_ok-new.ensures);
    }
