-- All that contracts see of the outside: the files and the output.
use Rattle.fm_shelf.specs.Shelf.{ShelfState}
use Rattle.fm_shelf.specs.Sink.{SinkState}

pub record Outside : Type 0 where
  pub shelf : ShelfState
  pub out : SinkState

abbrev pub outside : ShelfState → SinkState → Outside
outside shelf out = record { shelf = shelf; out = out }
