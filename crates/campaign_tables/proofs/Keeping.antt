-- The rows of kept faults: of each fault by whether its batch is kept, and of the kept faults alone.
use Rattle.std.proofs.Common.{◌≡◌, ◌∙◌, ap, refl, ℕ, zero, suc, ◌+◌, ◌/◌, ◌<◌, ◌≤◌, List, ◌++◌, arith}
use Rattle.std.specs.List.{flat_map, range_with_len}
use Rattle.fm_base.specs.Lists.{below}
use Rattle.fm_base.specs.Names.{Bytes}
use Rattle.campaign_plan.specs.Analysis.{Analysis, batch_count, fault_count}
use Rattle.campaign_plan.specs.Batches.{Entry}
use Rattle.result_merge.specs.Union.{found}
use Rattle.result_merge.specs.Tables.{Table, at_batch, planes_table}
use Rattle.result_merge.proofs.Tabling.{table_at}
use Rattle.campaign_tables.specs.Csv.{csv_field, csv_row}
use Rattle.campaign_tables.specs.FaultTable.{fault_table}
use Rattle.campaign_tables.specs.FaultSteps.{column_names, row_if_kept}

-- texts of the same numbers are the same
flat_range : (f g : ℕ → Bytes) (bound a n : ℕ) → a + n ≤ bound → ((k : ℕ) → k < bound → f k ≡ g k)
    → flat_map f (range_with_len a n) ≡ flat_map g (range_with_len a n)
flat_range f g bound a zero le each = refl
flat_range f g bound a (suc n) le each =
    ap (λ t. t ++ flat_map f (range_with_len (a + 1) n)) (each a (omega (arith, le)))
    ∙ ap (λ t. g a ++ t) (flat_range f g bound (a + 1) n (omega (arith, le)) each)

-- the row of fault i, where the table has planes of its batch
abbrev pub row_by_table : Analysis → Table → ℕ → Bytes
row_by_table p table i = row_if_kept p (at_batch table (i / 64)) i

-- the rows by the table of batches are those by the list
kept_rows : (p : Analysis) (table : Table) (entries : List Entry) → table ≡ planes_table (batch_count p) entries
    → flat_map (row_by_table p table) (below (fault_count p)) ≡ flat_map (λ i. row_if_kept p (found entries (i / 64)) i) (below (fault_count p))
unfolding below
kept_rows p table entries e =
    flat_range (row_by_table p table) (λ i. row_if_kept p (found entries (i / 64)) i) (fault_count p) 0 (fault_count p) (omega arith)
    (λ k lt.
    let within : k / 64 < batch_count p = omega (arith, lt) in
    ap (λ kept. row_if_kept p kept k) (ap (λ t. at_batch t (k / 64)) e ∙ table_at (batch_count p) entries (k / 64) within))

pub table_is : (p : Analysis) (table : Table) (entries : List Entry) → table ≡ planes_table (batch_count p) entries
    → csv_row column_names ++ flat_map (row_by_table p table) (below (fault_count p)) ≡ fault_table p entries
unfolding fault_table csv_field
table_is p table entries e = ap (λ rows. csv_row column_names ++ rows) (kept_rows p table entries e)
