use Rattle.std.proofs.Common.{inl}
use Rattle.stopped_runs.proofs.Noting.{same_told, unwritten, write_passes, write_rises, write_stops}
use Rattle.fm_shelf.proofs.Pasts.{adds_change, notes_change}
use Rattle.stopped_runs.proofs.stopping.StoppingShelfShelf.cut.Goals as goal

pub returns-then-self-eq0-clause-failed : goal.returns-then-self-eq0-clause-failed
returns-then-self-eq0-clause-failed g c =
    let inner = g.F.Shelf.seen c.args.self.now.shelf in (
      write_rises inner inner c.args.name.now c.args.self.now.told c.note_write.new.self c.args.self.now.past.events (unwritten inner c.args.name.now) c.note_write.ensures,
      inl (same_told inner c.args.name.now c.args.self.now.told c.note_write.new.self c.note_write.ensures),
    )

pub returns-then-self-eq0-clause-rest : goal.returns-then-self-eq0-clause-rest
returns-then-self-eq0-clause-rest g c =
    let inner = g.F.Shelf.seen c.args.self.now.shelf in
    write_stops inner inner c.args.name.now c.args.self.now.told c.note_write.new.self c.args.self.now.past.events (unwritten inner c.args.name.now) c.note_write.ensures
    c.then-self.result.events (notes_change c.args.self.now.past.events c.then-self.result.events c.args.name.now _ c.then-self.ensures)

pub returns-then-self-eq0-clause-changed : goal.returns-then-self-eq0-clause-changed
returns-then-self-eq0-clause-changed g c = adds_change c.args.self.now.past.events c.then-self.result.events c.args.name.now _ c.then-self.ensures

pub returns-clause-changed : goal.returns-clause-changed
returns-clause-changed g c = adds_change c.args.self.now.past.events c.then-self-2.result.events c.args.name.now _ c.then-self-2.ensures

pub returns-clause-rest : goal.returns-clause-rest
returns-clause-rest g c =
    write_passes (g.F.Shelf.seen c.args.self.now.shelf) (g.F.Shelf.seen c.cut-answer.new.self) c.args.name.now c.args.self.now.told c.args.self.now.past.events c.then-self-2.result.events
    c.cut-answer.ensures.rest (notes_change c.args.self.now.past.events c.then-self-2.result.events c.args.name.now _ c.then-self-2.ensures)
