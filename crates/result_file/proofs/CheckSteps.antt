-- What the checks of a row say, as its code makes them.
use Rattle.std.proofs.Common.{◌≡◌, ℕ, ◌<◌, Bool, true, false, not, ◌||◌, ◌&&◌, List, [], ◌∷◌, ◌++◌, map, ap, sym, subst, ◌∙◌, arith}
use Rattle.std.specs.Prelude.{Some, None, nat_le, ◌==◌}
use Rattle.std.specs.List.{list_any}
use Rattle.std.proofs.lemmas.Bool.Decides.{nat_tests}
use Rattle.std.proofs.lemmas.List.{map-append}
use Rattle.fm_base.specs.Lists.{below}
use Rattle.fm_base.specs.Planes.{lanes, bit}
use Rattle.fault_list.specs.Faults.{is_used}
use Rattle.metric_sums.specs.declared.Sums.{Sums}
use Rattle.metric_sums.specs.Totals.{same_sums}
use Rattle.campaign_plan.specs.Analysis.{Analysis, fault_count, batch_count}
use Rattle.campaign_plan.specs.Batches.{total}
use Rattle.result_file.specs.declared.Row.{Row}
use Rattle.result_file.specs.declared.RowFault.TheVariants as why
use Rattle.result_file.specs.KeptRows.{row_read, has_form, has_unused_lane, entry_of}
use Rattle.result_file.specs.Steps.{fault_over}
use Rattle.result_file.proofs.Checks.{repeated, unused, other_sums, no_fault}

in_range : (a b : ℕ) → b < a → nat_le a b ≡ false
in_range a b lt = grind (arith, nat_tests)

-- the test on unused lanes, for another word on the number of faults
pub unused_by : (p : Analysis) (faults : ℕ) (row : Row) (answer : Bool) → fault_count p ≡ faults
    → list_any (λ k. not (is_used faults row.batch k) && (bit row.danger k || bit row.noticed k)) (below lanes) ≡ answer → has_unused_lane p row ≡ answer
unused_by p faults row answer same h =
    ap (λ n. list_any (λ k. not (is_used n row.batch k) && (bit row.danger k || bit row.noticed k)) (below lanes)) same ∙ h

abbrev pub computed_of : Analysis → List Row → Row → Sums
computed_of p rows row = total p (map entry_of rows ++ entry_of row ∷ [])

-- over the row that was read
at_read : (P : Row → Type 0) (piece : List ℕ) (row : Row) → row ≡ row_read piece → P row → P (row_read piece)
at_read P piece row e x = subst P e x

pub says_repeated : (p : Analysis) (rows : List Row) (piece : List ℕ) (row : Row) → row ≡ row_read piece → has_form piece ≡ true → row.batch < batch_count p
    → list_any (λ earlier. earlier.batch == row.batch) rows ≡ true → fault_over p rows piece ≡ Some why.Repeated
says_repeated p rows piece row e form lt again =
    let r : Row = row_read piece in
    let lt_r : r.batch < batch_count p = at_read (λ x. x.batch < batch_count p) piece row e lt in
    let again_r : list_any (λ earlier. earlier.batch == r.batch) rows ≡ true = at_read (λ x. list_any (λ earlier. earlier.batch == x.batch) rows ≡ true) piece row e again in
    repeated (has_form piece) (nat_le (batch_count p) r.batch) (list_any (λ earlier. earlier.batch == r.batch) rows) (has_unused_lane p r) (same_sums r.sums (computed_of p rows r))
    (why.Sums r.sums (computed_of p rows r)) form (in_range (batch_count p) r.batch lt_r) again_r

pub says_unused : (p : Analysis) (rows : List Row) (piece : List ℕ) (row : Row) → row ≡ row_read piece → has_form piece ≡ true → row.batch < batch_count p
    → list_any (λ earlier. earlier.batch == row.batch) rows ≡ false → has_unused_lane p row ≡ true → fault_over p rows piece ≡ Some why.UnusedLane
says_unused p rows piece row e form lt fresh lane =
    let r : Row = row_read piece in
    let lt_r : r.batch < batch_count p = at_read (λ x. x.batch < batch_count p) piece row e lt in
    let fresh_r : list_any (λ earlier. earlier.batch == r.batch) rows ≡ false = at_read (λ x. list_any (λ earlier. earlier.batch == x.batch) rows ≡ false) piece row e fresh in
    let lane_r : has_unused_lane p r ≡ true = at_read (λ x. has_unused_lane p x ≡ true) piece row e lane in
    unused (has_form piece) (nat_le (batch_count p) r.batch) (list_any (λ earlier. earlier.batch == r.batch) rows) (has_unused_lane p r) (same_sums r.sums (computed_of p rows r))
    (why.Sums r.sums (computed_of p rows r)) form (in_range (batch_count p) r.batch lt_r) fresh_r lane_r

pub says_sums : (p : Analysis) (rows : List Row) (piece : List ℕ) (row : Row) (computed : Sums) → row ≡ row_read piece → has_form piece ≡ true → row.batch < batch_count p
    → list_any (λ earlier. earlier.batch == row.batch) rows ≡ false → has_unused_lane p row ≡ false → computed ≡ total p (map entry_of (rows ++ row ∷ []))
    → same_sums row.sums computed ≡ false → fault_over p rows piece ≡ Some (why.Sums row.sums computed)
says_sums p rows piece row computed e form lt fresh lane sums differ =
    let r : Row = row_read piece in
    let P : Row → Type 0 = λ x. computed ≡ computed_of p rows x in
    let sums_r : computed ≡ computed_of p rows r = at_read P piece row e (sums ∙ ap (total p) (map-append entry_of rows (row ∷ []))) in
    let lt_r : r.batch < batch_count p = at_read (λ x. x.batch < batch_count p) piece row e lt in
    let fresh_r : list_any (λ earlier. earlier.batch == r.batch) rows ≡ false = at_read (λ x. list_any (λ earlier. earlier.batch == x.batch) rows ≡ false) piece row e fresh in
    let lane_r : has_unused_lane p r ≡ false = at_read (λ x. has_unused_lane p x ≡ false) piece row e lane in
    let differ_r : same_sums r.sums (computed_of p rows r) ≡ false = subst (λ s. same_sums r.sums s ≡ false) sums_r (at_read (λ x. same_sums x.sums computed ≡ false) piece row e differ) in
    other_sums (has_form piece) (nat_le (batch_count p) r.batch) (list_any (λ earlier. earlier.batch == r.batch) rows) (has_unused_lane p r) (same_sums r.sums (computed_of p rows r))
    (why.Sums r.sums (computed_of p rows r)) form (in_range (batch_count p) r.batch lt_r) fresh_r lane_r differ_r
    ∙ ap (λ s. Some (why.Sums r.sums s)) (sym sums_r) ∙ ap (λ (x : Row). Some (why.Sums x.sums computed)) (sym e)

pub says_none : (p : Analysis) (rows : List Row) (piece : List ℕ) (row : Row) (computed : Sums) → row ≡ row_read piece → has_form piece ≡ true → row.batch < batch_count p
    → list_any (λ earlier. earlier.batch == row.batch) rows ≡ false → has_unused_lane p row ≡ false → computed ≡ total p (map entry_of (rows ++ row ∷ []))
    → same_sums row.sums computed ≡ true → fault_over p rows piece ≡ None
says_none p rows piece row computed e form lt fresh lane sums same =
    let r : Row = row_read piece in
    let P : Row → Type 0 = λ x. computed ≡ computed_of p rows x in
    let sums_r : computed ≡ computed_of p rows r = at_read P piece row e (sums ∙ ap (total p) (map-append entry_of rows (row ∷ []))) in
    let lt_r : r.batch < batch_count p = at_read (λ x. x.batch < batch_count p) piece row e lt in
    let fresh_r : list_any (λ earlier. earlier.batch == r.batch) rows ≡ false = at_read (λ x. list_any (λ earlier. earlier.batch == x.batch) rows ≡ false) piece row e fresh in
    let lane_r : has_unused_lane p r ≡ false = at_read (λ x. has_unused_lane p x ≡ false) piece row e lane in
    let same_r : same_sums r.sums (computed_of p rows r) ≡ true = subst (λ s. same_sums r.sums s ≡ true) sums_r (at_read (λ x. same_sums x.sums computed ≡ true) piece row e same) in
    no_fault (has_form piece) (nat_le (batch_count p) r.batch) (list_any (λ earlier. earlier.batch == r.batch) rows) (has_unused_lane p r) (same_sums r.sums (computed_of p rows r))
    (why.Sums r.sums (computed_of p rows r)) form (in_range (batch_count p) r.batch lt_r) fresh_r lane_r same_r
