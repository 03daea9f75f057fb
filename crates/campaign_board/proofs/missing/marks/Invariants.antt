use Rattle.std.proofs.Common.{◌≡◌, ◌<◌, ◌==◌, ℕ, false, get_or, take, vec_len}
use Rattle.std.specs.List.{list_any}
use Rattle.campaign_board.specs.Boards.{batches_of}
use Rattle.campaign_board.proofs.missing.marks.Given as goal

abbrev pub invariant-loop-row : goal.invariant-loop-row
invariant-loop-row l = record {
  len : vec_len l.marks ≡ l.batches;
  marks : (batch : ℕ) → batch < l.batches → get_or l.marks.items batch false ≡ list_any (λ other. other == batch) (batches_of (take l.row-index l.rows));
}
