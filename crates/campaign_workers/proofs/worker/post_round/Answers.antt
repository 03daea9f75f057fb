use Rattle.std.proofs.Common.{sym, subst, arith}
use Rattle.campaign_workers.proofs.RoundByRound.{may_post_at, posts_at, posts_entry}
use Rattle.campaign_workers.proofs.worker.post_round.Goals as goal

pub entry_with-entry-requires-clause-batch : goal.entry_with-entry-requires-clause-batch
entry_with-entry-requires-clause-batch g c =
    let may = may_post_at c.args.shared.now g.N.Origin.start c.args.seat.now c.loop-word.seat c.args.round.now.batches c.loop-word.word c.in-Some.batch c.loop-word.invariant c.in-Some.is in
    omega (arith, may.due.0, c.requires.entries.1)

pub post-requires-clause-admitted : goal.post-requires-clause-admitted
post-requires-clause-admitted g c = subst g.T.Turn.admits (sym c.loop-word.invariant.share) c.requires.admitted

pub post-requires-clause-drawn : goal.post-requires-clause-drawn
post-requires-clause-drawn g c =
    let may = may_post_at c.args.shared.now g.N.Origin.start c.args.seat.now c.loop-word.seat c.args.round.now.batches c.loop-word.word c.in-Some.batch c.loop-word.invariant c.in-Some.is in
    (posts_entry c.args.plan.now g.N.Origin.start c.loop-word.seat.view c.in-Some.batch c.entry_with-entry.result may c.requires.entries.0 c.entry_with-entry.ensures).0

pub post-requires-clause-entry : goal.post-requires-clause-entry
post-requires-clause-entry g c =
    let may = may_post_at c.args.shared.now g.N.Origin.start c.args.seat.now c.loop-word.seat c.args.round.now.batches c.loop-word.word c.in-Some.batch c.loop-word.invariant c.in-Some.is in
    (posts_entry c.args.plan.now g.N.Origin.start c.loop-word.seat.view c.in-Some.batch c.entry_with-entry.result may c.requires.entries.0 c.entry_with-entry.ensures).1

pub post-requires-clause-own : goal.post-requires-clause-own
post-requires-clause-own g c = c.requires.takes c.entry_with-entry.result.batch

pub loop-word-preserved : goal.loop-word-preserved
loop-word-preserved g c =
    let posted = c.in_default-post.ensures in
    posts_at c.args.plan.now c.args.shared.now g.N.Origin.start c.args.seat.now c.loop-word.seat c.post.new.seat c.args.round.now.batches c.loop-word.word c.in-Some.batch c.entry_with-entry.result
    c.in_default-post.field-0 c.loop-word.invariant c.in-Some.is c.entry_with-entry.ensures posted.table posted.posted
