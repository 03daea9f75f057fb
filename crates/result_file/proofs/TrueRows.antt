-- Rows with the planes that their batches truly have.
use Rattle.std.proofs.Common.{◌≡◌, ℕ, zero, suc, ◌+◌, ◌*◌, ◌/◌, ◌<◌, ◌≤◌, Bool, true, false, List, [], ◌∷◌, map, refl, ap, sym, ◌∙◌, arith}
use Rattle.std.specs.Prelude.{All, nat_lt, ◌&&◌, bit_or}
use Rattle.std.proofs.lemmas.List.Elements.{All-nil, All-cons, All-head, All-tail}
use Rattle.fault_list.specs.Faults.{fault_at, fault_number, is_used}
use Rattle.fm_base.specs.Planes.{plane_below}
use Rattle.campaign_plan.specs.Analysis.{Analysis, all_faults, fault_count, batch_count}
use Rattle.campaign_plan.specs.Danger.{is_dangerous, is_noticed}
use Rattle.campaign_plan.specs.Batches.{Entry, outcome_of, true_planes, AreTrue}
use Rattle.result_file.specs.declared.Row.{Row}
use Rattle.result_file.specs.KeptRows.{entry_of}
use Rattle.result_file.specs.RowPlanes.{HoldEachOnce, planes_in}
use Rattle.result_file.proofs.RowPlanes.{no_row, row_at, row_found, rows_below, planes_of, planes_in-at, planes_in-none}

-- ---- batches that the plan lacks have no planes

plane_none : (n : ℕ) (test : ℕ → Bool) → ((k : ℕ) → test k ≡ false) → plane_below n test ≡ 0
unfolding plane_below
plane_none zero test none = refl
plane_none (suc n) test none = let here = none n in rw here (ap (λ plane. bit_or plane 0) (plane_none n test none))

unused : (count batch k : ℕ) → (count + 63) / 64 ≤ batch → is_used count batch k ≡ false
unused count batch k past =
    let le : count ≤ 64 * batch + k = omega (arith, past) in
    grind (arith, le)

pub past_planes : (p : Analysis) (batch : ℕ) → batch_count p ≤ batch → true_planes p batch ≡ record { danger = 0; noticed = 0 }
unfolding outcome_of
past_planes p batch past =
    let lane = λ (k : ℕ). fault_at (all_faults p) (fault_number batch k) ∷ [] in
    let dangerous = λ (k : ℕ). is_dangerous p.circuit p.points p.settings.ftti p.runs (lane k) in
    let noticed = λ (k : ℕ). is_noticed p.circuit p.points p.runs (lane k) in
    λ j. record {
      danger = plane_none 64 (λ k. is_used (fault_count p) batch k && dangerous k) (λ k. ap (λ b. b && dangerous k) (unused (fault_count p) batch k past)) j;
      noticed = plane_none 64 (λ k. is_used (fault_count p) batch k && noticed k) (λ k. ap (λ b. b && noticed k) (unused (fault_count p) batch k past)) j;
    }

-- ---- rows with true planes

true_rows : (p : Analysis) (rows : List Row) → AreTrue p (map entry_of rows) → All (λ (row : Row). planes_of row ≡ true_planes p row.batch) rows
true_rows p [] are = All-nil (λ (row : Row). planes_of row ≡ true_planes p row.batch)
true_rows p (row ∷ rows) are =
    let P : Entry → Type 0 = λ entry. entry.1 ≡ true_planes p entry.0 in
    All-cons (λ (r : Row). planes_of r ≡ true_planes p r.batch) row rows (All-head P (entry_of row) (map entry_of rows) are)
    (true_rows p rows (All-tail P (entry_of row) (map entry_of rows) are))

pub true_at : (p : Analysis) (rows : List Row) → HoldEachOnce p rows → AreTrue p (map entry_of rows) → (batch : ℕ) → planes_in rows batch ≡ true_planes p batch
true_at p rows hold are batch = by_cases (nat_lt batch (batch_count p)) refl
  where
    by_cases : (b : Bool) → nat_lt batch (batch_count p) ≡ b → planes_in rows batch ≡ true_planes p batch
    by_cases true e =
        let lt : batch < batch_count p = grind (arith, e) in
        let there = hold.each batch lt in
        let found = row_found rows there.0 batch there.1 there.2 in
        let same : (row_at rows there.0).batch ≡ batch = found.1 no_row in
        ap (planes_in rows) (sym same) ∙ planes_in-at rows hold.distinct.once there.0 no_row found.0
        ∙ true_rows p rows are there.0 no_row found.0 ∙ ap (true_planes p) same
    by_cases false e =
        let past : batch_count p ≤ batch = grind (arith, e) in
        planes_in-none rows batch (λ k d lt. omega (arith, past, rows_below rows (batch_count p) hold.distinct.within k d lt)) ∙ sym (past_planes p batch past)
