use Rattle.std.proofs.Common.{sym, subst, map, List}
use Rattle.fm_base.specs.Names.{Bytes}
use Rattle.fm_shelf.specs.Outside.{outside}
use Rattle.stopped_runs.specs.Stopping.{stopping_state}
use Rattle.stopped_runs.specs.Runs.{Tells}
use Rattle.stopped_runs.proofs.Telling.{tells as tells_all}
use Rattle.stopped_runs.proofs.runs.stopped_call.Goals as goal

pub returns : goal.returns
returns g c =
    let names : List Bytes = map (λ name. name.now) c.args.names.now in
    let met = c.in-Ok.stopping in
    let left = c.fmeda-shelf.result.shelf in
    record {
      ended = c.fmeda-shelf.result.status;
      met = outside (stopping_state (g.F.Shelf.seen met.shelf) met.told met.past.events) (g.O.Sink.seen c.args.out.now);
      left = outside (stopping_state (g.F.Shelf.seen left.shelf) left.told left.past.events) (g.O.Sink.seen c.fmeda-shelf.new.out);
      promised = c.fmeda-shelf.ensures.promises;
      tells =
          subst (λ (shelf : g.row.F.Denot). Tells names (stopping_state (g.F.Shelf.seen met.shelf) met.told met.past.events) (g.F.Shelf.seen shelf)) c.in-Ok.ensures.shelf
          (tells_all (g.F.Shelf.seen met.shelf) met.told met.past.events names c.in-Ok.ensures.names);
      keeps =
          subst (λ (shelf : g.row.F.Denot). Tells names (stopping_state (g.F.Shelf.seen left.shelf) left.told left.past.events) (g.F.Shelf.seen shelf)) (sym c.into_inner.ensures)
          (tells_all (g.F.Shelf.seen left.shelf) left.told left.past.events names (c.tells.ensures c.if-not-tells.false));
    }
