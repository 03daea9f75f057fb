-- Pairs of a latent and a detected fault.
use Rattle.std.proofs.Common.{◌≡◌, ℕ, List, [], ◌∷◌, refl, codes}
use Rattle.std.specs.Prelude.{false, Some, Ok}
use Rattle.test_definitions.specs.Opened.{opened}
use Rattle.fm_base.specs.Lists.{below}
use Rattle.fault_list.specs.Faults.{batches_for}
use Rattle.campaign_plan.specs.declared.Outcome.{Outcome}
use Rattle.campaign_plan.specs.Analysis.{Analysis}
use Rattle.campaign_plan.specs.Danger.{is_dangerous}
use Rattle.campaign_plan.specs.Analysis.{fault_numbered}
use Rattle.result_file.specs.ResultText.{result_rows}
use Rattle.result_file.specs.RowPlanes.{planes_in}
use Rattle.pair_list.specs.declared.pairs.PairRefusal.TheVariants.{Incomplete, TooMany}
use Rattle.pair_list.specs.Pairs.{pairs, pairs_of}
use Rattle.pair_list.specs.Chosen.{Chosen, chosen, pair_count, pair_numbered, pair_refusal, pairs_by_rows}
use Rattle.pair_campaign.specs.PairPlanes.{pair_planes}
use Rattle.pair_campaign.specs.PairText.{pairs_text, text_by_planes}
use Rattle.commands.specs.declared.command.Which.{Which}
use Rattle.refusals.specs.declared.status.Status.TheVariants as status
use Rattle.refusals.specs.RefusalLines.{refusal_line, code_of}
use Rattle.test_definitions.specs.Circuits.{chain, dup}
use Rattle.test_definitions.specs.Files.{plan_of, dup_workload, dup_rates, dup_points, chain_workload, chain_rates, chain_points}

pub plan : Analysis
unfolding opened
plan = plan_of dup dup_workload dup_rates dup_points 0 []

-- the planes of the one batch: y, z and al/1 are noticed, and al/0 is not
abbrev planes : ℕ → Outcome
planes batch = record { danger = 0xf; noticed = 0x3b0 }

-- ---- which faults pair

pub in_order : pairs plan planes ≡ (6, 4) ∷ (6, 5) ∷ (6, 7) ∷ (6, 8) ∷ (6, 9) ∷ []
unfolding plan opened
in_order = refl

pub two_latent : pairs_of (1 ∷ 4 ∷ []) (2 ∷ 3 ∷ 9 ∷ []) ≡ (1, 2) ∷ (1, 3) ∷ (1, 9) ∷ (4, 2) ∷ (4, 3) ∷ (4, 9) ∷ []
unfolding opened
two_latent = refl

pub fourth : pair_numbered (record { latent = 1 ∷ 4 ∷ []; detected = 2 ∷ 3 ∷ 9 ∷ [] }) 4 ≡ (4, 3)
unfolding opened
fourth = refl

-- al/0 is noticed too: no latent fault
pub no_latent : pairs plan (λ batch. record { danger = 0xf; noticed = 0x3f0 }) ≡ []
unfolding plan opened
no_latent = refl

-- nothing is noticed: no detected fault, whatever is latent
pub no_detected : pairs plan (λ batch. record { danger = 0xf; noticed = 0 }) ≡ []
unfolding plan opened
no_detected = refl

abbrev other_rates : List ℕ
other_rates = codes "pattern,part,role,covered,permanent,transient\na,in,mission,yes,4,0\nb,in,mission,yes,4,0\ny,out,mission,yes,2,0\nal,dup,other,no,4,0\nz,dup,other,no,4,0\n"

pub plan_other : Analysis
unfolding opened
plan_other = plan_of dup dup_workload other_rates dup_points 0 []

-- faults of a part of role `other` are of no pair
pub others_left_out : chosen plan_other planes ≡ record { latent = []; detected = 4 ∷ 5 ∷ [] }
unfolding plan_other opened
others_left_out = refl

abbrev mixed_rates : List ℕ
mixed_rates = codes "pattern,part,role,covered,permanent,transient\na,in,mission,yes,4,0\nb,in,mission,yes,4,0\ny,out,other,yes,2,0\nal,dup,mechanism,no,4,0\nz,dup,mechanism,no,4,0\n"

pub plan_mixed : Analysis
unfolding opened
plan_mixed = plan_of dup dup_workload mixed_rates dup_points 0 []

-- and so a detected one of such a part
pub detected_left_out : pairs plan_mixed planes ≡ (6, 7) ∷ (6, 8) ∷ (6, 9) ∷ []
unfolding plan_mixed opened
detected_left_out = refl

-- ---- planes of pairs

abbrev full_word : Chosen
full_word = record { latent = below 8; detected = below 8 }

abbrev one_more : Chosen
one_more = record { latent = below 5; detected = below 13 }

pub pairs_64 : pair_count full_word ≡ 64
unfolding opened
pairs_64 = refl

pub one_plane : batches_for (pair_count full_word) ≡ 1
unfolding opened
one_plane = refl

pub pairs_65 : pair_count one_more ≡ 65
unfolding opened
pairs_65 = refl

pub two_planes : batches_for (pair_count one_more) ≡ 2
unfolding opened
two_planes = refl

pub last_of_65 : pair_numbered one_more 64 ≡ (4, 12)
unfolding opened
last_of_65 = refl

pub none_at_all : pair_planes plan (record { latent = []; detected = 4 ∷ [] }) ≡ []
unfolding plan opened
none_at_all = refl

-- al/0 hides what the comparator would have said of y
pub judged : pair_planes plan (chosen plan planes) ≡ 3 ∷ []
unfolding plan opened
judged = refl

-- neither is dangerous alone
pub first_alone : is_dangerous dup plan.points 0 plan.runs (fault_numbered plan 6 ∷ []) ≡ false
unfolding plan opened
first_alone = refl

pub second_alone : is_dangerous dup plan.points 0 plan.runs (fault_numbered plan 4 ∷ []) ≡ false
unfolding plan opened
second_alone = refl

-- ---- the text

abbrev printed : List ℕ
printed = codes "pair al/0 y/0\npair al/0 y/1\npairs 5 dangerous 2\n"

pub text : pairs_text plan planes ≡ printed
unfolding plan opened
text = refl

pub text_of_planes : text_by_planes plan (chosen plan planes) (3 ∷ []) ≡ printed
unfolding plan opened
text_of_planes = refl

pub nothing_paired : pairs_text plan (λ batch. record { danger = 0xf; noticed = 0x3f0 }) ≡ codes "pairs 0 dangerous 0\n"
unfolding plan opened
nothing_paired = refl

-- ---- rows

pub plan33 : Analysis
unfolding opened
plan33 = plan_of (chain 32) chain_workload (chain_rates 33) (chain_points 32) 0 []

abbrev full : Outcome
full = record { danger = 0xffffffffffffffff; noticed = 0 }

abbrev rest : Outcome
rest = record { danger = 3; noticed = 0 }

pub chain_pairs : pairs_by_rows plan33 (result_rows plan33 ((0, full) ∷ (1, rest) ∷ [])) ≡ Ok (record { latent = []; detected = [] })
unfolding plan33 opened
chain_pairs = refl

pub chain_text : pairs_text plan33 (planes_in (result_rows plan33 ((0, full) ∷ (1, rest) ∷ []))) ≡ codes "pairs 0 dangerous 0\n"
unfolding plan33 opened
chain_text = refl

pub incomplete : pair_refusal plan33 (result_rows plan33 ((0, full) ∷ [])) ≡ Some (Incomplete 1 2)
unfolding plan33 opened
incomplete = refl

-- the second batch alone is no more
pub incomplete_too : pair_refusal plan33 (result_rows plan33 ((1, rest) ∷ [])) ≡ Some (Incomplete 1 2)
unfolding plan33 opened
incomplete_too = refl

pub no_rows : pair_refusal plan33 [] ≡ Some (Incomplete 0 2)
unfolding plan33 opened
no_rows = refl

pub rows_of_dup : pairs_by_rows plan (result_rows plan ((0, record { danger = 0xf; noticed = 0x3b0 }) ∷ [])) ≡ Ok (chosen plan planes)
unfolding plan opened
rows_of_dup = refl

abbrev no_name : Which → List ℕ
no_name which = []

pub incomplete_said : refusal_line no_name dup (status.Pairs (Incomplete 1 2)) ≡ codes "refused: result file has 1 of 2 batches\n"
unfolding opened
incomplete_said = refl

pub incomplete_code : code_of (status.Pairs (Incomplete 1 2)) ≡ 16
incomplete_code = refl

pub many_said : refusal_line no_name dup (status.Pairs TooMany) ≡ codes "refused: more than 1048576 pairs\n"
unfolding opened
many_said = refl

pub many_code : code_of (status.Pairs TooMany) ≡ 10
many_code = refl
