use Rattle.std.proofs.Common.{◌≡◌, ◌∙◌, refl, sym, ap, subst}
use Rattle.claim_counter.specs.declared.view.View.{View}
use Rattle.campaign_board.specs.declared.entry.Entry.{Entry}
use Rattle.campaign_board.specs.Sharing.{IsPosted}
use Rattle.campaign_shard.proofs.Posting.{goes_past, goes_on, none_yet, draws_less}
use Rattle.campaign_shard.proofs.seat.work_part.Goals as goal

pub post-requires-clause-admitted : goal.post-requires-clause-admitted
post-requires-clause-admitted g c = ap (λ (v : View). v.share) c.in-Some.ensures.some.view ∙ c.draws.invariant.at.all

pub post-requires-clause-own : goal.post-requires-clause-own
post-requires-clause-own g c =
    let batch : c.entry_with-entry.result.batch ≡ c.in-Some.batch = ap (λ (e : Entry). e.batch) c.entry_with-entry.ensures in
    rw (c.requires.takes, batch) (sym c.is_own.ensures ∙ c.if-is_own.true)

pub draws-smaller : goal.draws-smaller
draws-smaller g c = draws_less g.N.Origin.start c.draws.seat.view c.draw.new.seat.view c.draw.new.seat.view.claims c.in-Some.batch c.in-Some.ensures.some refl

pub draws-smaller-in_default-post : goal.draws-smaller-in_default-post
draws-smaller-in_default-post g c =
    draws_less g.N.Origin.start c.draws.seat.view c.draw.new.seat.view c.post.new.seat.view.claims c.in-Some.batch c.in-Some.ensures.some (ap (λ (v : View). v.claims) c.in_default-post.ensures.posted.view)

pub draws-preserved : goal.draws-preserved
draws-preserved g c =
    let drawn = c.in-Some.ensures.some in
    record {
      at = goes_past c.args.shared.now g.N.Origin.start c.args.part c.args.parts c.draws.seat c.draw.new.seat c.in-Some.batch c.draws.invariant.at c.in-Some.ensures.table drawn
          (sym c.is_own.ensures ∙ c.if-is_own.false);
      none = none_yet c.draws.seat.view c.draw.new.seat.view _ drawn.view c.draws.invariant.none;
      simulator = c.draws.invariant.simulator;
    }

pub draws-preserved-in_default-post : goal.draws-preserved-in_default-post
draws-preserved-in_default-post g c =
    let drawn = c.in-Some.ensures.some in
    let batch : c.entry_with-entry.result.batch ≡ c.in-Some.batch = ap (λ (e : Entry). e.batch) c.entry_with-entry.ensures in
    let posted = subst (λ b. IsPosted g.N.Origin.start c.draw.new.seat.view c.post.new.seat.view b c.in_default-post.field-0) batch c.in_default-post.ensures.posted in
    record {
      at = goes_on c.args.shared.now g.N.Origin.start c.args.part c.args.parts c.draws.seat c.draw.new.seat c.post.new.seat c.in-Some.batch c.in_default-post.field-0
          c.draws.invariant.at c.in-Some.ensures.table c.post.ensures.table drawn (sym c.is_own.ensures ∙ c.if-is_own.true) posted;
      none = ap (λ (v : View). v.nones) posted.view ∙ none_yet c.draws.seat.view c.draw.new.seat.view _ drawn.view c.draws.invariant.none;
      simulator = c.batch.ensures.same ∙ c.draws.invariant.simulator;
    }
