-- What each batch of a campaign is truly found to be.
use Rattle.std.specs.Prelude.{◌≡◌, ℕ, true}
use Rattle.campaign_plan.specs.Analysis.{Analysis}
use Rattle.campaign_plan.specs.Batches.{true_planes, own_sums}
use Rattle.campaign_board.specs.declared.entry.Entry.{Entry}
use Rattle.campaign_board.specs.Boards.{Start, board_entry}
use Rattle.campaign_board.specs.Missing.{IsMissing}

-- the entry of a batch with the planes that it truly has, and the sums over it by these planes
abbrev pub true_entry : Analysis → ℕ → Entry
true_entry p batch = record {
  batch = batch;
  danger = (true_planes p batch).danger;
  noticed = (true_planes p batch).noticed;
  own = own_sums p batch (true_planes p batch);
}

-- each batch to do has its true entry in the origin
abbrev pub HasTrueEntries : Analysis → Start → Type 0
HasTrueEntries p o = (batch : ℕ) → IsMissing o batch → board_entry o.entries batch ≡ true_entry p batch

-- the board takes rows of each batch
abbrev pub TakesAll : Start → Type 0
TakesAll o = (batch : ℕ) → o.takes batch ≡ true
