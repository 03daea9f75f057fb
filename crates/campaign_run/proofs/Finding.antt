-- The planes that a campaign finds: kept or true.
use Rattle.std.proofs.Common.{◌≡◌, ◌≢◌, ℕ, ◌<◌, false, List, [], ◌∷◌, map, refl, ap, subst, length, ◌∙◌, arith}
use Rattle.std.specs.Prelude.{None, find, ◌==◌, unwrap_or, option_map}
use Rattle.fm_base.specs.Once.{Lacks}
use Rattle.campaign_plan.specs.declared.Outcome.{Outcome}
use Rattle.campaign_plan.specs.Analysis.{Analysis, batch_count}
use Rattle.campaign_plan.specs.Batches.{Entry, true_planes}
use Rattle.result_file.specs.declared.Row.{Row}
use Rattle.result_file.specs.declared.KeptRows.{KeptRows}
use Rattle.result_file.specs.KeptRows.{entry_of as planed}
use Rattle.campaign_board.specs.declared.entry.Entry.{Entry as BoardEntry}
use Rattle.campaign_board.specs.Boards.{Start, batches_of, board_entry}
use Rattle.campaign_workers.specs.Truth.{HasTrueEntries}
use Rattle.campaign_run.specs.Found.{checkpointed_or_true}
use Rattle.campaign_run.specs.Origins.{entry_with, entries_for}
use Rattle.campaign_run.proofs.Entries.{length_entries, entry_at}

-- the entry of a batch with these planes
abbrev entry_in : Analysis → ℕ → Outcome → BoardEntry
entry_in p batch planes = entry_with p (λ _. planes) batch

find_lacking : (rows : List Row) (batch : ℕ) → Lacks (batches_of rows) batch → find (λ (entry : Entry). entry.0 == batch) (map planed rows) ≡ None
find_lacking [] batch lacks = refl
find_lacking (row ∷ rows) batch lacks =
    let apart : row.batch ≢ batch = lacks.0 in
    let test : (row.batch == batch) ≡ false = grind (arith, apart) in
    rw test (find_lacking rows batch lacks.1)

-- a batch that no kept row has is found to be what it truly is
pub found_true : (p : Analysis) (k : KeptRows) (batch : ℕ) → Lacks (batches_of k.rows) batch → checkpointed_or_true p k batch ≡ true_planes p batch
found_true p k batch lacks =
    ap (λ o. unwrap_or (option_map (λ (entry : Entry). entry.1) o) (true_planes p batch)) (find_lacking k.rows batch lacks)

-- so the entries of batches to do are the true ones
pub have_true : (p : Analysis) (k : KeptRows) (o : Start) → o.entries ≡ entries_for p (checkpointed_or_true p k) → o.rows ≡ k.rows → HasTrueEntries p o
have_true p k o e rows =
    λ batch due. (
    let lower : batch < batch_count p = omega (arith, due.0, ap length e, length_entries p (checkpointed_or_true p k)) in
    let lacks : Lacks (batches_of k.rows) batch = subst (λ rs. Lacks (batches_of rs) batch) rows due.1 in
    ap (λ es. board_entry es batch) e ∙ entry_at p (checkpointed_or_true p k) batch lower
    ∙ ap (λ (planes : Outcome). entry_in p batch planes) (found_true p k batch lacks))
