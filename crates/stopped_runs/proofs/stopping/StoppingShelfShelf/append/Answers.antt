use Rattle.stopped_runs.proofs.Noting.{more_told, write_passes, write_rises, write_stops}
use Rattle.fm_shelf.proofs.Pasts.{adds_change, notes_change}
use Rattle.stopped_runs.proofs.stopping.StoppingShelfShelf.append.Goals as goal

pub returns-then-self-eq0-clause-failed : goal.returns-then-self-eq0-clause-failed
returns-then-self-eq0-clause-failed g c =
    let inner = g.F.Shelf.seen c.args.self.now.shelf in
    let now = g.F.Shelf.seen c.tear.new.shelf in (
      write_rises inner now c.args.name.now c.args.self.now.told c.note_write.new.self c.args.self.now.past.events c.tear.ensures.rest c.note_write.ensures,
      more_told inner now c.args.name.now c.args.self.now.told c.note_write.new.self c.args.self.now.past.events c.tear.ensures.rest c.note_write.ensures c.args.piece.now c.tear.ensures.more,
    )

pub returns-then-self-eq0-clause-rest : goal.returns-then-self-eq0-clause-rest
returns-then-self-eq0-clause-rest g c =
    write_stops (g.F.Shelf.seen c.args.self.now.shelf) (g.F.Shelf.seen c.tear.new.shelf) c.args.name.now c.args.self.now.told c.note_write.new.self c.args.self.now.past.events
    c.tear.ensures.rest c.note_write.ensures c.then-self.result.events (notes_change c.args.self.now.past.events c.then-self.result.events c.args.name.now _ c.then-self.ensures)

pub returns-then-self-eq0-clause-taken : goal.returns-then-self-eq0-clause-taken
returns-then-self-eq0-clause-taken g c = adds_change c.args.self.now.past.events c.then-self.result.events c.args.name.now _ c.then-self.ensures

pub returns-clause-taken : goal.returns-clause-taken
returns-clause-taken g c = adds_change c.args.self.now.past.events c.then-self-2.result.events c.args.name.now _ c.then-self-2.ensures

pub returns-clause-rest : goal.returns-clause-rest
returns-clause-rest g c =
    write_passes (g.F.Shelf.seen c.args.self.now.shelf) (g.F.Shelf.seen c.append-answer.new.self) c.args.name.now c.args.self.now.told c.args.self.now.past.events c.then-self-2.result.events
    c.append-answer.ensures.rest (notes_change c.args.self.now.past.events c.then-self-2.result.events c.args.name.now _ c.then-self-2.ensures)
