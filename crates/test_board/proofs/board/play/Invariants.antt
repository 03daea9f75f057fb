use Rattle.std.proofs.Common.{[], true}
use Rattle.std.specs.String.{string_bytes}
use Rattle.test_board.proofs.board.play.Given as goal

-- what the board begins with, from the callee's arguments
abbrev pub ghosts-play_over : goal.ghosts-play_over
ghosts-play_over g a = record {
  start = record {
    entries = a.entries.now;
    takes = λ _. true;
    header = a.own.now;
    name = string_bytes a.name.now;
    rows = [];
    whole = 0;
    shelf = g.F.Shelf.seen a.shelf;
  };
}
