use Rattle.campaign_board.proofs.Boards.{begins_room}
use Rattle.campaign_board.proofs.board.Board.new.Goals as goal

pub with_room-requires : goal.with_room-requires
with_room-requires g c = begins_room g.N.Origin.start c.args.rows c.args.batches (g.F.Shelf.seen c.args.shelf) c.args.name.now c.requires
