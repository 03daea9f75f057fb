-- What a table of rows has counted, in one pass over the nets and one over the latches.
use Rattle.std.specs.Prelude.{◌≡◌, ℕ, ◌<◌, ◌≤◌, ◌^◌, List, length, map, count_by, find, Option, None, slice_index, slice_index_or, All, IfSome}
use Rattle.circuit.specs.Circuit.{Circuit}
use Rattle.rate_table.specs.Table.{RateTable}
use Rattle.fm_base.specs.Lists.{below}
use Rattle.campaign_tables.specs.PartTable.{row_of_net}
use Rattle.campaign_tables.specs.PartSteps.{is_at_row, net_numbers}

-- a netlist and the rates that it is looked up in
pub record Looked : Type 0 where
  pub circuit : Circuit
  pub rates : RateTable

-- the row that takes each net, in order
abbrev pub net_rows : Circuit → RateTable → List (Option ℕ)
net_rows c table = map (row_of_net c table) (net_numbers c)

-- the row that takes the output net of each latch, in order
abbrev pub latch_rows : Circuit → RateTable → List (Option ℕ)
latch_rows c table = map (λ latch. row_of_net c table latch.to.0) c.latches

-- each is a row below n, or no row
abbrev pub AreRowsBelow : ℕ → List (Option ℕ) → Type 0
AreRowsBelow n rows = All (λ row. IfSome row (λ k. k < n)) rows

-- how many of them are each row below n
pub record AreRowCounts (n : ℕ) (rows : List (Option ℕ)) (counts : List ℕ) : Type 0 where
  pub size : length counts ≡ n
  pub each : (k : ℕ) → k < n → slice_index counts k ≡ count_by (is_at_row k) rows

-- the row of a place
abbrev pub row_in_list : List (Option ℕ) → ℕ → Option ℕ
row_in_list rows i = slice_index_or rows i None

-- the first place of each row below n, among the first m
pub record AreFirsts (n m : ℕ) (rows firsts : List (Option ℕ)) : Type 0 where
  pub size : length firsts ≡ n
  pub each : (k : ℕ) → k < n → row_in_list firsts k ≡ find (λ i. is_at_row k (row_in_list rows i)) (below m)

-- what is at hand of a netlist and rates
pub record IsCounted (c : Circuit) (table : RateTable) (rows : List (Option ℕ)) (net_counts latch_counts : List ℕ) (firsts : List (Option ℕ)) : Type 0 where
  pub few : length c.drivers ≤ 2 ^ 18
  pub rows_are : rows ≡ net_rows c table
  pub nets : AreRowCounts (length table.patterns) (net_rows c table) net_counts
  pub latches : AreRowCounts (length table.patterns) (latch_rows c table) latch_counts
  pub first : AreFirsts (length table.patterns) (length c.drivers) (net_rows c table) firsts
