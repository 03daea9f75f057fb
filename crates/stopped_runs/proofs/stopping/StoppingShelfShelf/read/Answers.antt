use Rattle.std.proofs.Common.{append-nil, sym}
use Rattle.fm_shelf.proofs.Pasts.{asked_once, given_once}
use Rattle.stopped_runs.proofs.Noting.{read_passes, read_rises, read_stops}
use Rattle.stopped_runs.proofs.stopping.StoppingShelfShelf.read.Goals as goal

pub returns-then-self-eq0-clause-failed : goal.returns-then-self-eq0-clause-failed
returns-then-self-eq0-clause-failed g c =
    read_rises (g.F.Shelf.seen c.args.self.now.shelf) (g.F.Shelf.seen c.args.self.now.shelf) c.args.name.now c.args.self.now.told c.note_read.new.self c.args.self.now.past.events c.note_read.ensures

pub returns-then-self-eq0-clause-rest : goal.returns-then-self-eq0-clause-rest
returns-then-self-eq0-clause-rest g c =
    read_stops (g.F.Shelf.seen c.args.self.now.shelf) (g.F.Shelf.seen c.args.self.now.shelf) c.args.name.now c.args.self.now.told c.note_read.new.self c.args.self.now.past.events c.note_read.ensures
    c.then-self.result.events c.then-self.ensures

pub returns-clause-given : goal.returns-clause-given
returns-clause-given g c =
    given_once c.args.self.now.past.events c.then-self-2.result.events c.args.name.now c.args.at c.read-answer.new.piece c.read-answer.result c.then-self-2.ensures

pub returns-clause-asked : goal.returns-clause-asked
returns-clause-asked g c =
    asked_once c.args.self.now.past.events c.then-self-2.result.events c.args.name.now c.args.at c.read-answer.new.piece c.read-answer.result c.then-self-2.ensures

pub returns-clause-rest : goal.returns-clause-rest
returns-clause-rest g c =
    read_passes (g.F.Shelf.seen c.args.self.now.shelf) (g.F.Shelf.seen c.read-answer.new.self) c.args.name.now c.args.self.now.told c.args.self.now.past.events c.then-self-2.result.events
    c.args.at c.read-answer.new.piece c.read-answer.result c.read-answer.ensures.rest c.then-self-2.ensures
