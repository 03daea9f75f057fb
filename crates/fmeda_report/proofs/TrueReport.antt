-- Rows with the planes that their batches truly have give the true report.
use Rattle.std.proofs.Common.{◌≡◌, ℕ, ◌+◌, ◌<◌, ◌≤◌, Bool, true, false, length, map, refl, ap, sym, ◌∙◌, arith}
use Rattle.std.specs.Prelude.{nat_lt}
use Rattle.std.proofs.lemmas.List.{get_or_past}
use Rattle.std.proofs.lemmas.List.FromFn.{length-map-range_with_len, get_or-map-range_with_len}
use Rattle.fm_base.specs.Lists.{below}
use Rattle.campaign_plan.specs.Analysis.{Analysis, batch_count}
use Rattle.campaign_plan.specs.Batches.{true_planes}
use Rattle.fmeda_report.specs.Report.{report, summary}
use Rattle.fmeda_report.specs.Rows.{RowsReportTruly}
use Rattle.fmeda_report.specs.Tallies.{planes_in_order}
use Rattle.result_file.specs.RowPlanes.{planes_in}
use Rattle.result_file.proofs.TrueRows.{past_planes, true_at}

-- ---- the true planes of all batches, in rising order

pub true_count : (p : Analysis) → length (map (true_planes p) (below (batch_count p))) ≡ batch_count p
unfolding below
true_count p = length-map-range_with_len (true_planes p) 0 (batch_count p)

pub true_in_order : (p : Analysis) → planes_in_order (map (true_planes p) (below (batch_count p))) ≡ true_planes p
unfolding below
true_in_order p = λ j batch. by_cases batch (nat_lt batch (batch_count p)) refl j
  where
    by_cases : (batch : ℕ) (b : Bool) → nat_lt batch (batch_count p) ≡ b
        → planes_in_order (map (true_planes p) (below (batch_count p))) batch ≡ true_planes p batch
    by_cases batch true e =
        let lt : batch < batch_count p = grind (arith, e) in
        let same : 0 + batch ≡ batch = omega arith in
        get_or-map-range_with_len (true_planes p) 0 (batch_count p) batch batch _ lt same
    by_cases batch false e =
        let past : batch_count p ≤ batch = grind (arith, e) in
        let behind : length (map (true_planes p) (below (batch_count p))) ≤ batch = omega (arith, past, true_count p) in
        get_or_past (map (true_planes p) (below (batch_count p))) batch _ behind ∙ sym (past_planes p batch past)

-- ---- rows with true planes

pub rows_report_truly : RowsReportTruly
rows_report_truly p rows hold are =
    let all : planes_in rows ≡ true_planes p = λ j batch. true_at p rows hold are batch j in
    record { same_report = ap (report p) all; same_summary = λ n. ap (summary n p) all }
