-- Result files of parts of a campaign, what becomes of two of them, and of one by other rates.
use Rattle.std.proofs.Common.{◌≡◌, ℕ, ◌++◌, false, List, [], ◌∷◌, length, refl, codes}
use Rattle.std.specs.Prelude.{Some, None, Ok, Err, flat_map}
use Rattle.test_definitions.specs.Opened.{opened}
use Rattle.campaign_plan.specs.declared.Outcome.{Outcome}
use Rattle.campaign_plan.specs.declared.PlanRefusal.TheVariants.{IdleRate}
use Rattle.campaign_plan.specs.Analysis.{Analysis, batch_count}
use Rattle.campaign_plan.specs.Batches.{Entry}
use Rattle.result_file.specs.ResultText.{result_rows, result_text, row_text}
use Rattle.result_merge.specs.declared.merge.MergeRefusal.TheVariants.{Differs}
use Rattle.result_merge.specs.Union.{union}
use Rattle.result_merge.specs.Merged.{first_other, merged}
use Rattle.result_merge.specs.Parts.{part_batches}
use Rattle.result_reweigh.specs.Reweighed.{reweighed}
use Rattle.refusals.specs.Texts.{shard_line, merge_line, reweigh_line}
use Rattle.commands.specs.declared.command.Which.{Which}
use Rattle.refusals.specs.declared.status.Status.TheVariants as status
use Rattle.refusals.specs.RefusalLines.{refusal_line, code_of}
use Rattle.test_definitions.specs.Circuits.{chain, dup}
use Rattle.test_definitions.specs.Files.{plan_of, chain_workload, chain_rates, chain_points}

pub plan33 : Analysis
unfolding opened
plan33 = plan_of (chain 32) chain_workload (chain_rates 33) (chain_points 32) 0 []

abbrev full : Outcome
full = record { danger = 0xffffffffffffffff; noticed = 0 }

abbrev rest : Outcome
rest = record { danger = 3; noticed = 0 }

abbrev own : List ℕ
own = codes "fmeda-result 1 0123456789abcdef0123456789abcdef0123456789abcdef0123456789abcdef 00000002\n"

abbrev part0 : List Entry
part0 = (0, full) ∷ []

abbrev part1 : List Entry
part1 = (1, rest) ∷ []

-- ---- parts

pub batches_of_part0 : part_batches plan33 0 2 ≡ 0 ∷ []
unfolding plan33 opened
batches_of_part0 = refl

pub batches_of_part1 : part_batches plan33 1 2 ≡ 1 ∷ []
unfolding plan33 opened
batches_of_part1 = refl

pub one_part : part_batches plan33 0 1 ≡ 0 ∷ 1 ∷ []
unfolding plan33 opened
one_part = refl

-- a part without a batch
pub no_batches : part_batches plan33 2 3 ≡ []
unfolding plan33 opened
no_batches = refl

pub part0_len : length (result_text own plan33 part0) ≡ 219
unfolding plan33 opened
part0_len = refl

pub part1_file : result_text own plan33 part1 ≡ own ++ codes "r 00000001 0000000000000003 0000000000000000 00000000001e8480 00000000001e8480 0000000000000000 0000000000000000 0000000000000000\n"
unfolding plan33 opened
part1_file = refl

pub no_batches_len : length (result_text own plan33 []) ≡ 89
unfolding plan33 opened
no_batches_len = refl

pub shard_said : shard_line 0 2 (length part0) ≡ codes "shard 0 of 2 rows 1\n"
unfolding opened
shard_said = refl

pub empty_shard_said : shard_line 2 3 0 ≡ codes "shard 2 of 3 rows 0\n"
unfolding opened
empty_shard_said = refl

-- ---- two files

abbrev whole_file : List ℕ
whole_file = own ++ codes "r 00000000 ffffffffffffffff 0000000000000000 0000000003d09000 0000000003d09000 0000000000000000 0000000000000000 0000000000000000\nr 00000001 0000000000000003 0000000000000000 0000000003ef1480 0000000003ef1480 0000000000000000 0000000000000000 0000000000000000\n"

pub merged_file : result_text own plan33 (union 2 part0 part1) ≡ whole_file
unfolding plan33 opened
merged_file = refl

-- in the other order it is the same file
pub swapped_file : result_text own plan33 (union 2 part1 part0) ≡ whole_file
unfolding plan33 opened
swapped_file = refl

pub merged_rows : merged plan33 (result_rows plan33 part1) (result_rows plan33 part0) ≡ Ok (result_rows plan33 ((0, full) ∷ (1, rest) ∷ []))
unfolding plan33 opened
merged_rows = refl

pub merge_said : merge_line 2 (batch_count plan33) ≡ codes "merge 2 of 2 rows\n"
unfolding plan33 opened
merge_said = refl

pub empty_merge_said : merge_line 0 (batch_count plan33) ≡ codes "merge 0 of 2 rows\n"
unfolding plan33 opened
empty_merge_said = refl

abbrev changed : Outcome
changed = record { danger = 0xfffffffffffffffe; noticed = 0 }

-- another plane of danger
pub other_planes : merged plan33 (result_rows plan33 ((0, changed) ∷ (1, rest) ∷ [])) (result_rows plan33 ((0, full) ∷ (1, rest) ∷ [])) ≡ Err (Differs 0 changed full)
unfolding plan33 opened
other_planes = refl

abbrev no_name : Which → List ℕ
no_name which = []

pub other_said : refusal_line no_name dup (status.Merge (Differs 0 changed full)) ≡ codes "refused: batch 0 first fffffffffffffffe 0000000000000000 second ffffffffffffffff 0000000000000000\n"
unfolding opened
other_said = refl

pub other_code : code_of (status.Merge (Differs 0 changed full)) ≡ 15
other_code = refl

-- a file with itself
pub with_itself : merged plan33 (result_rows plan33 ((1, rest) ∷ (0, full) ∷ [])) (result_rows plan33 ((1, rest) ∷ (0, full) ∷ [])) ≡ Ok (result_rows plan33 ((0, full) ∷ (1, rest) ∷ []))
unfolding plan33 opened
with_itself = refl

-- two files without rows
pub both_empty : merged plan33 [] [] ≡ Ok []
unfolding plan33 opened
both_empty = refl

pub one_empty : merged plan33 [] (result_rows plan33 part1) ≡ Ok (result_rows plan33 part1)
unfolding plan33 opened
one_empty = refl

-- ---- lists of batches, of which nothing but their planes is looked at

abbrev planes : ℕ → Outcome
planes danger = record { danger = danger; noticed = 0 }

abbrev a : List Entry
a = (3, planes 30) ∷ (0, planes 10) ∷ []

abbrev b : List Entry
b = (4, planes 40) ∷ (1, planes 11) ∷ []

abbrev c : List Entry
c = (2, planes 12) ∷ (5, planes 50) ∷ []

abbrev all : List Entry
all = (0, planes 10) ∷ (1, planes 11) ∷ (2, planes 12) ∷ (3, planes 30) ∷ (4, planes 40) ∷ (5, planes 50) ∷ []

-- three parts in each order
pub order_abc : union 6 (union 6 a b) c ≡ all
unfolding opened
order_abc = refl

pub order_acb : union 6 (union 6 a c) b ≡ all
unfolding opened
order_acb = refl

pub order_bac : union 6 (union 6 b a) c ≡ all
unfolding opened
order_bac = refl

pub order_bca : union 6 (union 6 b c) a ≡ all
unfolding opened
order_bca = refl

pub order_cab : union 6 (union 6 c a) b ≡ all
unfolding opened
order_cab = refl

pub order_cba : union 6 (union 6 c b) a ≡ all
unfolding opened
order_cba = refl

pub last_two_first : union 6 a (union 6 b c) ≡ all
unfolding opened
last_two_first = refl

-- files that overlap
pub overlapping : union 6 ((2, planes 12) ∷ (0, planes 10) ∷ []) ((1, planes 11) ∷ (2, planes 12) ∷ []) ≡ (0, planes 10) ∷ (1, planes 11) ∷ (2, planes 12) ∷ []
unfolding opened
overlapping = refl

pub overlapping_agree : first_other 6 ((2, planes 12) ∷ (0, planes 10) ∷ []) ((1, planes 11) ∷ (2, planes 12) ∷ []) ≡ None
unfolding opened
overlapping_agree = refl

-- of two batches that differ the least is named, wherever they stand
pub least_named : first_other 6 ((4, planes 1) ∷ (3, planes 1) ∷ (0, planes 1) ∷ []) ((0, planes 1) ∷ (4, planes 2) ∷ (3, planes 2) ∷ []) ≡ Some 3
unfolding opened
least_named = refl

-- a difference in notice alone
pub notice_alone : first_other 6 ((1, record { danger = 5; noticed = 8 }) ∷ []) ((1, record { danger = 5; noticed = 9 }) ∷ []) ≡ Some 1
unfolding opened
notice_alone = refl

pub nothing : union {X = Outcome} 6 [] [] ≡ []
unfolding opened
nothing = refl

pub second_alone : union 6 [] a ≡ (0, planes 10) ∷ (3, planes 30) ∷ []
unfolding opened
second_alone = refl

-- ---- other rates

-- the same campaign with twice the rate: each of the 66 faults weighs 2,000,000
pub doubled : Analysis
unfolding opened
doubled = plan_of (chain 32) chain_workload (chain_rates 66) (chain_points 32) 0 []

-- rows in their order, with the sums of 2 faults and of 66
pub reweighed_file : own ++ flat_map row_text (reweighed doubled (result_rows plan33 ((1, rest) ∷ (0, full) ∷ []))) ≡ own ++ codes "r 00000001 0000000000000003 0000000000000000 00000000003d0900 00000000003d0900 0000000000000000 0000000000000000 0000000000000000\nr 00000000 ffffffffffffffff 0000000000000000 0000000007de2900 0000000007de2900 0000000000000000 0000000000000000 0000000000000000\n"
unfolding plan33 doubled opened
reweighed_file = refl

pub reweigh_said : reweigh_line 2 (batch_count doubled) ≡ codes "reweigh 2 of 2 rows\n"
unfolding doubled opened
reweigh_said = refl

pub idle_said : refusal_line no_name dup (status.NewPlan (IdleRate (codes "in") false)) ≡ codes "refused: part in has a new transient rate and no such fault\n"
unfolding opened
idle_said = refl

pub idle_code : code_of (status.NewPlan (IdleRate (codes "in") false)) ≡ 7
idle_code = refl
