use Rattle.std.proofs.Common.{refl}
use Rattle.campaign_shard.proofs.Ending.{starts, all_true, many_entries, has_run}
use Rattle.campaign_shard.proofs.over.run_over.Goals as goal

pub prepare-requires-clause-start : goal.prepare-requires-clause-start
prepare-requires-clause-start g c =
    let origin = rw (← c.campaign.view_is) at c.requires.origin in
    rw origin
    (starts c.campaign.inside.name.now c.campaign.inside.own.now c.campaign.inside.plan.now c.campaign.inside.shard.part c.campaign.inside.shard.parts (g.F.Shelf.seen c.args.shelf)
    c.batches-batches.result
    c.batches-batches.ensures.plan c.campaign.invariant.1 c.batches-batches.ensures.count)

pub worked-board-requires-clause-entries : goal.worked-board-requires-clause-entries
worked-board-requires-clause-entries g c =
    let origin = rw (← c.campaign.view_is) at c.requires.origin in
    rw origin (
      all_true c.campaign.inside.name.now c.campaign.inside.own.now c.campaign.inside.plan.now c.campaign.inside.shard.part c.campaign.inside.shard.parts (g.F.Shelf.seen c.args.shelf),
      many_entries c.campaign.inside.name.now c.campaign.inside.own.now c.campaign.inside.plan.now c.campaign.inside.shard.part c.campaign.inside.shard.parts (g.F.Shelf.seen c.args.shelf),
    )

pub worked-board-requires-clause-takes : goal.worked-board-requires-clause-takes
worked-board-requires-clause-takes g c =
    let origin = rw (← c.campaign.view_is) at c.requires.origin in
    rw origin refl

pub returns-in-Ok-clause-run : goal.returns-in-Ok-clause-run
returns-in-Ok-clause-run g c =
    let origin = rw (← c.campaign.view_is) at c.requires.origin in
    let shelf = c.in-Ok.ensures.board.shelf_is in
    let worked = rw (origin, shelf, ← c.tell.ensures.shelf) at c.worked-board.ensures in
    let kept = rw origin at c.tell.ensures.kept in
    rw (← c.campaign.view_is)
    (has_run c.tell.result.end (record { name = c.campaign.inside.name.now; own = c.campaign.inside.own.now; p = c.campaign.inside.plan.now; part = c.campaign.inside.shard.part; parts = c.campaign.inside.shard.parts })
    (record { shelf = g.F.Shelf.seen c.args.shelf; out = g.O.Sink.seen c.args.out.now }) (record { shelf = g.F.Shelf.seen c.tell.result.shelf; out = g.O.Sink.seen c.tell.new.out })
    _ (record c.worked-board.result { shelf = c.tell.result.shelf }) worked kept c.tell.ensures.told c.tell.ensures.grows)
