-- A row is added to the board behind the turn, and the board is looked at.
use Rattle.std.proofs.Common.{◌≡◌, ℕ, ◌<◌, true, length, sym, ap, ◌∙◌}
use Rattle.metric_sums.specs.declared.Sums.{Sums}
use Rattle.campaign_board.specs.declared.entry.Posted.{Posted}
use Rattle.campaign_board.specs.declared.entry.Posted.TheVariants.{Kept, Stopped}
use Rattle.fm_base.specs.Once.{Lacks}
use Rattle.campaign_board.specs.Boards.{Start, batches_of, sums_over}
use Rattle.campaign_board.specs.Kept.{BoardState}
use Rattle.campaign_board.specs.Posts.{TellsPost}
use Rattle.campaign_board.specs.Missing.{numbers_of, batches_with}
use Rattle.campaign_board.specs.Headed.{IsHeaded, Adds}
use Rattle.campaign_board.proofs.AddedRows.{numbers_push, batches_again, headed_push, headed_same}

-- the board behind the turn after an answer of `Board::add`
pub still_headed : {F : Type 0} (o : Start) (before now : BoardState F) (started batch : ℕ) (posted : Posted) → IsHeaded o before started → batch < length o.entries → Lacks (batches_of before.rows) batch → o.takes batch ≡ true
    → TellsPost o.entries before now batch posted → now.written ≡ true → IsHeaded o now started
still_headed o before now started batch (Kept sums) h lt lacks own tells written = headed_push o before now started batch h lt lacks own tells.2 written
still_headed o before now started batch Stopped h lt lacks own tells written = headed_same o before now started h tells.1 written

-- the sums of the rows are those of their numbers
pub numbered_sums : {F : Type 0} (o : Start) (board : BoardState F) (started : ℕ) (sums : Sums) → IsHeaded o board started → sums ≡ sums_over o.entries (batches_of board.rows)
    → sums ≡ sums_over o.entries (batches_with o (numbers_of o board.rows))
numbered_sums o board started sums h e = e ∙ ap (sums_over o.entries) (sym (batches_again o board.rows h.starts h.rows_are))

pub adds_of : {F : Type 0} (o : Start) (before now : BoardState F) (started batch : ℕ) (posted : Posted) → IsHeaded o before started → batch < length o.entries → Lacks (batches_of before.rows) batch → o.takes batch ≡ true
    → TellsPost o.entries before now batch posted → now.written ≡ true → Adds o before now batch posted
adds_of o before now started batch (Kept sums) h lt lacks own tells written =
    let after : IsHeaded o now started = headed_push o before now started batch h lt lacks own tells.2 written in (
      tells.0,
      tells.1,
      ap (numbers_of o) tells.2 ∙ numbers_push o before.rows batch h.starts h.entries lt,
      numbered_sums o now started sums after tells.3,
    )
adds_of o before now started batch Stopped h lt lacks own tells written = tells
