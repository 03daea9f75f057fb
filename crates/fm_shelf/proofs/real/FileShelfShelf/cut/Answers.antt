use Rattle.fm_shelf.specs.Past.{cut_by}
use Rattle.fm_shelf.specs.Event.{given_of}
use Rattle.fm_shelf.proofs.Pasts.{call_change, cut_failed}
use Rattle.fm_shelf.proofs.real.FileShelfShelf.cut.Goals as goal

pub returns-clause-failed : goal.returns-clause-failed
returns-clause-failed g c =
    cut_failed c.args.self.now.past.events c.then-self.result.events c.args.name.now c.args.len c.match-shorten.answer c.then-self.ensures

pub returns-clause-rest : goal.returns-clause-rest
returns-clause-rest g c =
    call_change c.args.self.now.past.events c.then-self.result.events c.args.name.now (cut_by (given_of c.args.self.now.past.events c.args.name.now) c.args.len c.match-shorten.answer)
    c.then-self.ensures
