-- Two batches, the rows of their result file, and reading it back.
use Rattle.std.proofs.Common.{◌≡◌, ℕ, ◌++◌, List, [], ◌∷◌, length, take, refl, codes}
use Rattle.std.specs.Prelude.{None, Ok, Err, flat_map}
use Rattle.test_definitions.specs.Opened.{opened}
use Rattle.metric_sums.specs.Metrics.{lfm}
use Rattle.fault_list.specs.Faults.{used_plane}
use Rattle.fm_base.specs.Lists.{below}
use Rattle.campaign_plan.specs.declared.Outcome.{Outcome}
use Rattle.campaign_plan.specs.Analysis.{Analysis, fault_count, batch_count}
use Rattle.campaign_plan.specs.Batches.{Entry, true_planes, total}
use Rattle.result_file.specs.ResultText.{result_rows, result_text, header_text}
use Rattle.result_file.specs.declared.RowFault.TheVariants as why
use Rattle.result_file.specs.declared.ResultRefusal.TheVariants.{Foreign, BadRow}
use Rattle.result_file.specs.KeptRows.{kept}
use Rattle.test_definitions.specs.Circuits.{chain}
use Rattle.test_definitions.specs.Files.{plan_of, chain_workload, chain_rates, chain_points}

pub plan32 : Analysis
unfolding opened
plan32 = plan_of (chain 31) chain_workload (chain_rates 32) (chain_points 31) 0 []

pub plan33 : Analysis
unfolding opened
plan33 = plan_of (chain 32) chain_workload (chain_rates 33) (chain_points 32) 0 []

abbrev full : Outcome
full = record { danger = 0xffffffffffffffff; noticed = 0 }

abbrev rest : Outcome
rest = record { danger = 3; noticed = 0 }

abbrev entries : List Entry
entries = (0, full) ∷ (1, rest) ∷ []

abbrev swapped : List Entry
swapped = (1, rest) ∷ (0, full) ∷ []

pub sizes : fault_count plan33 ≡ 66
unfolding plan33 opened
sizes = refl

pub batches_33 : batch_count plan33 ≡ 2
unfolding plan33 opened
batches_33 = refl

pub batches_32 : batch_count plan32 ≡ 1
unfolding plan32 opened
batches_32 = refl

pub used : used_plane 66 1 ≡ 3
unfolding opened
used = refl

pub first_batch : true_planes plan33 0 ≡ full
unfolding plan33 opened
first_batch = refl

pub second_batch : true_planes plan33 1 ≡ rest
unfolding plan33 opened
second_batch = refl

pub sums_33 : total plan33 entries ≡ record { permanent_all = 66000000; permanent_danger = 66000000; latent = 0; transient_all = 0; transient_danger = 0 }
unfolding plan33 opened
sums_33 = refl

pub no_lfm : lfm (record { permanent_all = 66000000; permanent_danger = 66000000; latent = 0; transient_all = 0; transient_danger = 0 }) ≡ None
unfolding opened
no_lfm = refl

abbrev own : List ℕ
own = codes "fmeda-result 1 0123456789abcdef0123456789abcdef0123456789abcdef0123456789abcdef 00000002\n"

pub own_header : header_text (flat_map (λ _. 0x01 ∷ 0x23 ∷ 0x45 ∷ 0x67 ∷ 0x89 ∷ 0xab ∷ 0xcd ∷ 0xef ∷ []) (below 4)) 2 ≡ own
unfolding opened
own_header = refl

pub file : result_text own plan33 entries ≡ own ++ codes "r 00000000 ffffffffffffffff 0000000000000000 0000000003d09000 0000000003d09000 0000000000000000 0000000000000000 0000000000000000\nr 00000001 0000000000000003 0000000000000000 0000000003ef1480 0000000003ef1480 0000000000000000 0000000000000000 0000000000000000\n"
unfolding plan33 opened
file = refl

pub file_len : length (result_text own plan33 entries) ≡ 349
unfolding plan33 opened
file_len = refl

pub swapped_file : result_text own plan33 swapped ≡ own ++ codes "r 00000001 0000000000000003 0000000000000000 00000000001e8480 00000000001e8480 0000000000000000 0000000000000000 0000000000000000\nr 00000000 ffffffffffffffff 0000000000000000 0000000003ef1480 0000000003ef1480 0000000000000000 0000000000000000 0000000000000000\n"
unfolding plan33 opened
swapped_file = refl

pub kept_0 : kept own plan33 (take 0 (result_text own plan33 entries)) ≡ Ok (record { rows = result_rows plan33 (take 0 entries); whole = 0 })
unfolding plan33 opened
kept_0 = refl

pub kept_50 : kept own plan33 (take 50 (result_text own plan33 entries)) ≡ Ok (record { rows = result_rows plan33 (take 0 entries); whole = 0 })
unfolding plan33 opened
kept_50 = refl

pub kept_89 : kept own plan33 (take 89 (result_text own plan33 entries)) ≡ Ok (record { rows = result_rows plan33 (take 0 entries); whole = 89 })
unfolding plan33 opened
kept_89 = refl

pub kept_226 : kept own plan33 (take 226 (result_text own plan33 entries)) ≡ Ok (record { rows = result_rows plan33 (take 1 entries); whole = 219 })
unfolding plan33 opened
kept_226 = refl

pub kept_349 : kept own plan33 (take 349 (result_text own plan33 entries)) ≡ Ok (record { rows = result_rows plan33 (take 2 entries); whole = 349 })
unfolding plan33 opened
kept_349 = refl

pub kept_swapped : kept own plan33 (result_text own plan33 swapped) ≡ Ok (record { rows = result_rows plan33 swapped; whole = 349 })
unfolding plan33 opened
kept_swapped = refl

pub bad_sum : kept own plan33 (own ++ codes "r 00000000 ffffffffffffffff 0000000000000000 0000000003d09001 0000000003d09000 0000000000000000 0000000000000000 0000000000000000\nr 00000001 0000000000000003 0000000000000000 0000000003ef1480 0000000003ef1480 0000000000000000 0000000000000000 0000000000000000\n") ≡ Err (BadRow 1 (why.Sums (record { permanent_all = 64000001; permanent_danger = 64000000; latent = 0; transient_all = 0; transient_danger = 0 }) (record { permanent_all = 64000000; permanent_danger = 64000000; latent = 0; transient_all = 0; transient_danger = 0 })))
unfolding plan33 opened
bad_sum = refl

-- planes that are not the true ones, with their own sums
pub accepted : kept own plan33 (own ++ codes "r 00000000 fffffffffffffffe 0000000000000000 0000000003d09000 0000000003c14dc0 0000000000000000 0000000000000000 0000000000000000\nr 00000001 0000000000000003 0000000000000000 0000000003ef1480 0000000003dfd240 0000000000000000 0000000000000000 0000000000000000\n") ≡ Ok (record { rows = result_rows plan33 ((0, record { danger = 0xfffffffffffffffe; noticed = 0 }) ∷ (1, rest) ∷ []); whole = 349 })
unfolding plan33 opened
accepted = refl

pub bad_form : kept own plan33 (own ++ codes "r 00000000 ffffffffffffffff 0000000000000000 0000000003d09000 0000000003d09000 0000000000000000 0000000000000000 0000000000000000\nr 00000001 0000000000000003 0000000000000000 0000000003EF1480 0000000003EF1480 0000000000000000 0000000000000000 0000000000000000\n") ≡ Err (BadRow 2 why.Form)
unfolding plan33 opened
bad_form = refl

pub bad_range : kept own plan33 (own ++ codes "r 00000002 ffffffffffffffff 0000000000000000 0000000003d09000 0000000003d09000 0000000000000000 0000000000000000 0000000000000000\n") ≡ Err (BadRow 1 why.Range)
unfolding plan33 opened
bad_range = refl

pub repeated : kept own plan33 (own ++ codes "r 00000000 ffffffffffffffff 0000000000000000 0000000003d09000 0000000003d09000 0000000000000000 0000000000000000 0000000000000000\nr 00000000 ffffffffffffffff 0000000000000000 0000000003d09000 0000000003d09000 0000000000000000 0000000000000000 0000000000000000\n") ≡ Err (BadRow 2 why.Repeated)
unfolding plan33 opened
repeated = refl

pub unused : kept own plan33 (own ++ codes "r 00000001 0000000000000007 0000000000000000 00000000001e8480 00000000001e8480 0000000000000000 0000000000000000 0000000000000000\n") ≡ Err (BadRow 1 why.UnusedLane)
unfolding plan33 opened
unused = refl

pub foreign : kept own plan33 (codes "fmeda-result 2") ≡ Err (Foreign (codes "fmeda-result 2") own)
unfolding plan33 opened
foreign = refl
