-- What a campaign's board begins with.
use Rattle.std.specs.Prelude.{ℕ, true, List, map}
use Rattle.fm_shelf.specs.Shelf.{ShelfState}
use Rattle.campaign_plan.specs.declared.Outcome.{Outcome}
use Rattle.campaign_plan.specs.Analysis.{Analysis, batch_count}
use Rattle.campaign_plan.specs.Batches.{own_sums}
use Rattle.fm_base.specs.Lists.{below}
use Rattle.campaign_board.specs.declared.entry.Entry.{Entry}
use Rattle.campaign_board.specs.Boards.{Start}
use Rattle.campaign_run.specs.Ran.{Campaign, campaign_planes}

-- the entry of a batch with the planes that `planes` gives, and the sums over it by these planes
abbrev pub entry_with : Analysis → (ℕ → Outcome) → ℕ → Entry
entry_with p planes batch = record {
  batch = batch;
  danger = (planes batch).danger;
  noticed = (planes batch).noticed;
  own = own_sums p batch (planes batch);
}

-- the entries of all batches, by their numbers
abbrev pub entries_for : Analysis → (ℕ → Outcome) → List Entry
entries_for p planes = map (entry_with p planes) (below (batch_count p))

-- what the board of a campaign begins with, on a shelf of which this is seen: it takes rows of all batches
abbrev pub origin_of : Campaign → ShelfState → Start
origin_of c shelf = record {
  entries = entries_for c.p (campaign_planes c);
  takes = λ _. true;
  header = c.own;
  name = c.name;
  rows = c.k.rows;
  whole = c.k.whole;
  shelf = shelf;
}
