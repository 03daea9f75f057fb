use Rattle.fm_shelf.specs.Past.{taken_by}
use Rattle.fm_shelf.proofs.Pasts.{append_failed, call_change}
use Rattle.fm_shelf.proofs.real.FileShelfShelf.append.Goals as goal

pub returns-clause-failed : goal.returns-clause-failed
returns-clause-failed g c =
    append_failed c.args.self.now.past.events c.then-self.result.events c.args.name.now c.args.piece.now c.match-add.answer c.then-self.ensures

pub returns-clause-rest : goal.returns-clause-rest
returns-clause-rest g c =
    call_change c.args.self.now.past.events c.then-self.result.events c.args.name.now (taken_by c.args.piece.now c.match-add.answer) c.then-self.ensures
