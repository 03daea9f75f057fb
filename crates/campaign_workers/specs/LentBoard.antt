-- What a crew is once its board is no longer lent.
use mir.Syntax.{named}
use Rattle.std.specs.Prelude.{[]}
use Rattle.std.specs.Borrow.{Fml, Lends, MutBor, RattleType}
use Rattle.fm_shelf.specs.declared.shelf.Shelf.{Ghosts as ShelfGhosts}
use Rattle.campaign_board.specs.declared.board.Origin.{Ghosts as OriginGhosts}
use Rattle.campaign_board.specs.Kept.{BoardState}
use Rattle.campaign_board.specs.contracts.board.Board.{the_row as board_row}
use Rattle.campaign_workers.specs.declared.crew.Crew.{Crew}
use Rattle.campaign_workers.specs.contracts.crew.Crew.{the_row}

-- its board is the one that was left behind the result, and all else is as it was
abbrev pub LendsBoard : (F N : RattleType) (shelf : ShelfGhosts F.Denot) (origin : OriginGhosts N.Denot) → MutBor (Crew F.Denot N.Denot) → MutBor (BoardState F.Denot) → Fml
LendsBoard F N shelf origin crew board = Lends (the_row (record { mir = named 1; lft = [] }) F N shelf origin) (board_row F N shelf origin) crew board (λ left. record crew.now { board = left })
