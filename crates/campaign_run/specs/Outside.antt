-- What a campaign leaves alone, and what would be seen had it written all.
pub use Rattle.fm_shelf.specs.Shelf.{KeepsOthers}
use Rattle.fm_shelf.specs.Sink.{with_more}
use Rattle.fm_shelf.specs.Outside.{Outside}
use Rattle.fm_base.specs.Names.{Bytes}

-- what would be seen had this text gone out since then
abbrev pub had_written : (before after : Outside) → (text : Bytes) → Outside
had_written before after text = record after { out = record after.out { written = with_more before.out.written text } }
