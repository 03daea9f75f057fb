use Rattle.fm_shelf.proofs.Pasts.{call_read}
use Rattle.fm_shelf.proofs.real.FileShelfShelf.read.Goals as goal

pub returns-clause-rest : goal.returns-clause-rest
returns-clause-rest g c =
    call_read c.args.self.now.past.events c.then-self.result.events c.args.name.now c.args.at c.read_some.new.piece c.match-read_some.answer c.then-self.ensures
