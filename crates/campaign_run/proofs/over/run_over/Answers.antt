use Rattle.std.proofs.Common.{refl}
use Rattle.campaign_run.specs.Origins.{origin_of}
use Rattle.campaign_run.proofs.Ending.{starts, have_all, has_run}
use Rattle.campaign_run.proofs.Finding.{have_true}
use Rattle.campaign_run.proofs.Keeping.{starts_whole}
use Rattle.campaign_run.proofs.over.run_over.Goals as goal

pub prepare-prepared-requires-clause-start : goal.prepare-prepared-requires-clause-start
prepare-prepared-requires-clause-start g c =
    let start = rw (← c.campaign.view_is) at c.requires.kept in
    let origin = rw (← c.campaign.view_is) at c.requires.origin in
    rw origin
    (starts (record { name = c.campaign.inside.name.now; own = c.campaign.inside.own.now; p = c.campaign.inside.plan.now; k = c.campaign.inside.kept; text = c.campaign.inside.text })
    (g.F.Shelf.seen c.args.shelf) c.batches-batches.result c.batches-batches.ensures.plan c.campaign.invariant.1 start c.batches-batches.ensures.count)

pub worked-board-requires-clause-whole : goal.worked-board-requires-clause-whole
worked-board-requires-clause-whole g c κs within =
    let fresh = c.in-Ok.ensures.board in
    let start = rw (← c.campaign.view_is) at c.requires.kept in
    let origin = rw (← c.campaign.view_is) at c.requires.origin in
    rw (fresh.shelf_is, fresh.rows, origin) (
      refl,
      starts_whole c.campaign.inside.own.now c.campaign.inside.plan.now _ c.campaign.inside.kept
          (origin_of (record { name = c.campaign.inside.name.now; own = c.campaign.inside.own.now; p = c.campaign.inside.plan.now; k = c.campaign.inside.kept; text = c.campaign.inside.text }) (g.F.Shelf.seen c.args.shelf))
          c.campaign.invariant.1 start refl,
    )

pub worked-board-requires-clause-entries : goal.worked-board-requires-clause-entries
worked-board-requires-clause-entries g c κs within =
    let origin = rw (← c.campaign.view_is) at c.requires.origin in
    rw origin
    (have_true c.campaign.inside.plan.now c.campaign.inside.kept
    (origin_of (record { name = c.campaign.inside.name.now; own = c.campaign.inside.own.now; p = c.campaign.inside.plan.now; k = c.campaign.inside.kept; text = c.campaign.inside.text }) (g.F.Shelf.seen c.args.shelf))
    refl refl)

pub worked-board-requires-clause-takes : goal.worked-board-requires-clause-takes
worked-board-requires-clause-takes g c κs within =
    let origin = rw (← c.campaign.view_is) at c.requires.origin in
    rw origin (λ batch. refl)

pub tell-requires-clause-rows : goal.tell-requires-clause-rows
tell-requires-clause-rows g c =
    have_all g.N.Origin.start c.campaign.inside.kept.whole (g.F.Shelf.seen c.in-Ok.prepared.crew.board.shelf) (g.F.Shelf.seen c.worked-board.result.shelf)
    c.worked-board.result c.worked-board.ensures

pub returns-clause-run : goal.returns-clause-run
returns-clause-run g c =
    let start = rw (← c.campaign.view_is) at c.requires.kept in
    let origin = rw (← c.campaign.view_is) at c.requires.origin in
    let shelf = c.in-Ok.ensures.board.shelf_is in
    let worked = rw (origin, shelf, ← c.tell.ensures.shelf) at c.worked-board.ensures in
    let kept = rw origin at c.tell.ensures.kept in
    rw (← c.campaign.view_is)
    (has_run c.tell.result.end (record { name = c.campaign.inside.name.now; own = c.campaign.inside.own.now; p = c.campaign.inside.plan.now; k = c.campaign.inside.kept; text = c.campaign.inside.text })
    (record { shelf = g.F.Shelf.seen c.args.shelf; out = g.O.Sink.seen c.args.out.now }) (record { shelf = g.F.Shelf.seen c.tell.result.shelf; out = g.O.Sink.seen c.tell.new.out })
    _ (record c.worked-board.result { shelf = c.tell.result.shelf }) c.campaign.invariant.1 start worked kept c.tell.ensures.told c.tell.ensures.grows)
