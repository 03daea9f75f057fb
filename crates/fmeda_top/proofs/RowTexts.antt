-- `audit` and `pairs`, by the rows that are kept.
use Rattle.std.proofs.Common.{◌≡◌, ◌∙◌, ap, inr, sym, refl, subst, ℕ, ◌+◌, ◌<◌, List, [], ◌∷◌, suc, Bool, true, false, not, map, arith}
use Rattle.std.specs.Prelude.{◌⊎◌, Some, None, Err, option_map, ◌==◌, Contains}
use Rattle.std.specs.List.{list_any}
use Rattle.std.proofs.lemmas.Bool.Decides.{nat_tests}
use Rattle.std.proofs.lemmas.List.Folds.{list_any_at}
use Rattle.std.proofs.lemmas.List.FromFn.{length-range_with_len, get_or-range_with_len}
use Rattle.fm_base.specs.Firsts.{given, first_answer}
use Rattle.fm_base.specs.Lists.{below}
use Rattle.fm_shelf.specs.Sink.{SinkState}
use Rattle.metric_sums.specs.declared.Class.TheVariants.{Latent, Detected}
use Rattle.campaign_plan.specs.Analysis.{Analysis, batch_count}
use Rattle.campaign_plan.specs.Batches.{AreDistinct, AreTrue, batches, true_planes}
use Rattle.result_file.specs.declared.KeptRows.{KeptRows}
use Rattle.result_file.specs.declared.Row.{Row}
use Rattle.result_file.specs.KeptRows.{entry_of, kept_entries}
use Rattle.result_file.specs.RowPlanes.{Planes, HoldEachOnce, planes_in}
use Rattle.pair_list.specs.declared.pairs.PairRefusal.{PairRefusal}
use Rattle.pair_list.specs.Chosen.{AreFaults, Chosen, chosen, has_row, pair_refusal}
use Rattle.pair_list.proofs.Placing.{under}
use Rattle.pair_campaign.specs.Laws.{AllPairsAreTold}
use Rattle.pair_campaign.specs.PairPlanes.{pair_planes}
use Rattle.pair_campaign.specs.PairText.{pairs_text, text_by_planes}
use Rattle.commands.specs.declared.command.AuditBy.{AuditBy}
use Rattle.commands.specs.declared.command.Task.TheVariants as task
use Rattle.refusals.specs.declared.refused.Refused.{Refused}
use Rattle.refusals.specs.declared.refused.Refused.TheVariants.{By, Looped}
use Rattle.refusals.specs.declared.status.Status.{Status}
use Rattle.refusals.specs.declared.status.Status.TheVariants as status
use Rattle.refusals.specs.Refusals.{IsPlain}
use Rattle.refusals.specs.WantOfMemory.{IsMemory}
use Rattle.command_reads.specs.FirstRefusal.{Begun}
use Rattle.row_audit.specs.Audited.{first_false}
use Rattle.result_file.specs.declared.FalseRow.{FalseRow}
use Rattle.fmeda_top.specs.Doing.{ChecksAs, TellsAs}

-- ---- `audit`

-- rows that weren't found to agree are told of nowhere but in the line of the refusal
pub checks_tell : (every : ℕ) (by : AuditBy) (p : Analysis) (k : KeptRows) (out : SinkState) (refused : Refused) → ChecksAs every p k (Err refused)
    → TellsAs (task.Audit every by) (Begun p k) out out (Err refused)
checks_tell every by p k out (By ended) (why, plain) = (why, plain, refl)
checks_tell every by p k out (Looped walk net) none = absurd none

-- the refusal is that of the first false row
pub row_refused : (p : Analysis) (every : ℕ) (k : KeptRows) (row : FalseRow) (ended : Status) → first_false p every k.rows ≡ Some row → ended ≡ status.Disagrees row
    → (IsMemory ended ⊎ (option_map status.Disagrees (first_false p every k.rows) ≡ Some ended)) × IsPlain ended
row_refused p every k row ended is told = (inr (ap (option_map status.Disagrees) is ∙ ap Some (sym told)), subst IsPlain (sym told) tt)

-- ---- `pairs`

-- those that pair are faults of the plan
pub chosen_are_faults : (p : Analysis) (planes : Planes) (c : Chosen) → c ≡ chosen p planes → AreFaults p c
chosen_are_faults p planes c is =
    subst (AreFaults p) (sym is) (record { latent = under p planes Latent; detected = under p planes Detected })

-- the text of the pairs that were judged
pub judged_text : AllPairsAreTold → (p : Analysis) (rows : List Row) (c : Chosen) (planes : List ℕ) → c ≡ chosen p (planes_in rows) → planes ≡ pair_planes p c
    → text_by_planes p c planes ≡ pairs_text p (planes_in rows)
judged_text law p rows c planes is judged =
    ap (text_by_planes p c) judged ∙ ap (λ d. text_by_planes p d (pair_planes p d)) is ∙ (law p).told (planes_in rows)

row_there : (rows : List Row) (batch : ℕ) → has_row rows batch ≡ true → Contains (batches (map entry_of rows)) batch
row_there [] batch h = absurd (cc)
row_there (row ∷ rows) batch h = by_test (row.batch == batch) refl h (λ rest. row_there rows batch rest)
  where
    by_test : (b : Bool) → (row.batch == batch) ≡ b → has_row (row ∷ rows) batch ≡ true
        → (has_row rows batch ≡ true → Contains (batches (map entry_of rows)) batch) → Contains (batches (map entry_of (row ∷ rows))) batch
    by_test true e h more = (0, omega arith, grind (arith, nat_tests, e))
    by_test false e h more =
        let rest : has_row rows batch ≡ true = rw e at h in
        let there = more rest in
        (suc there.0, omega (arith, there.1), there.2)

-- each batch has a row
each_batch : (p : Analysis) (rows : List Row) → pair_refusal p rows ≡ None → (batch : ℕ) → batch < batch_count p → Contains (batches (map entry_of rows)) batch
unfolding pair_refusal below
each_batch p rows none batch lt = by_row (has_row rows batch) refl
  where
    lacks : ℕ → Bool
    lacks = λ other. not (has_row rows other)

    no_lack : (b : Bool) (x y : PairRefusal) (c : Bool) → first_answer (given b x ∷ given c y ∷ []) ≡ None → b ≡ false
    no_lack true x y c e = absurd (cc)
    no_lack false x y c e = refl

    by_row : (b : Bool) → has_row rows batch ≡ b → Contains (batches (map entry_of rows)) batch
    by_row true e = row_there rows batch e
    by_row false e =
        let size = length-range_with_len 0 (batch_count p) in
        let at = get_or-range_with_len 0 (batch_count p) batch 0 lt in
        let zero_more : 0 + batch ≡ batch = omega arith in
        let found : list_any lacks (below (batch_count p)) ≡ true =
        list_any_at lacks (below (batch_count p)) batch 0 (omega (arith, size, lt)) (ap lacks (at ∙ zero_more) ∙ ap not e) in
        let clash : true ≡ false = sym found ∙ no_lack _ _ _ _ none in
        absurd (cc)

-- rows that pair hold each batch once
pairs_hold : (p : Analysis) (k : KeptRows) → AreDistinct p (kept_entries k) → pair_refusal p k.rows ≡ None → HoldEachOnce p k.rows
pairs_hold p k distinct none = record { distinct = distinct; each = each_batch p k.rows none }

-- where the rows have true planes, so have their pairs
pub pairs_are_true : AllPairsAreTold → (p : Analysis) (k : KeptRows) → AreDistinct p (kept_entries k) → pair_refusal p k.rows ≡ None → AreTrue p (kept_entries k)
    → pairs_text p (planes_in k.rows) ≡ pairs_text p (true_planes p)
pairs_are_true law p k distinct free are = (law p).truly k.rows (pairs_hold p k distinct free) are
