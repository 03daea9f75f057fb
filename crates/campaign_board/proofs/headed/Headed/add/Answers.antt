use Rattle.campaign_board.proofs.AddedRows.{lacks_row}
use Rattle.campaign_board.proofs.Heading.{still_headed, adds_of}
use Rattle.campaign_board.proofs.headed.Headed.add.Goals as goal

pub add-requires-clause-batch : goal.add-requires-clause-batch
add-requires-clause-batch g c =
    let new = rw (← c.self.view_is) at c.requires.new in (c.requires.due.0, lacks_row g.N.Origin.start c.self.inside.board.rows c.args.entry.now.batch c.self.invariant.starts c.requires.due new)

pub invariant_of-self : goal.invariant_of-self
invariant_of-self g c =
    let new = rw (← c.self.view_is) at c.requires.new in
    let lacks = lacks_row g.N.Origin.start c.self.inside.board.rows c.args.entry.now.batch c.self.invariant.starts c.requires.due new in
    still_headed g.N.Origin.start c.self.inside.board c.add.new.self c.self.inside.started c.args.entry.now.batch c.add.result c.self.invariant c.requires.due.0 lacks c.requires.own c.add.ensures.posted c.add.ensures.written

pub returns : goal.returns
returns g c =
    let new = rw (← c.self.view_is) at c.requires.new in
    let lacks = lacks_row g.N.Origin.start c.self.inside.board.rows c.args.entry.now.batch c.self.invariant.starts c.requires.due new in
    rw (← c.self.view_is)
    (adds_of g.N.Origin.start c.self.inside.board c.add.new.self c.self.inside.started c.args.entry.now.batch c.add.result c.self.invariant c.requires.due.0 lacks c.requires.own c.add.ensures.posted c.add.ensures.written)
