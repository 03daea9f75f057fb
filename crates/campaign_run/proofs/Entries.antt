-- The entries that a campaign's board begins with.
use Rattle.std.proofs.Common.{◌≡◌, ℕ, ◌<◌, ◌≤◌, ◌^◌, Bool, true, false, List, map, length, refl, ap, sym, subst, ◌∙◌, arith}
use Rattle.std.specs.Prelude.{Some, None, nat_lt, if◌then◌else◌}
use Rattle.std.specs.Option.{option_or}
use Rattle.std.proofs.lemmas.Bool.Decides.{nat_tests}
use Rattle.std.proofs.lemmas.List.FromFn.{length-map-range_with_len, get_or-map-range_with_len}
use Rattle.metric_sums.specs.declared.Sums.{Sums}
use Rattle.metric_sums.specs.Totals.{sums_by, AreSmall}
use Rattle.fm_base.specs.Lists.{below}
use Rattle.campaign_plan.specs.declared.Outcome.{Outcome}
use Rattle.campaign_plan.specs.declared.PlanRefusal.TheVariants.{TooManyFaults}
use Rattle.campaign_plan.specs.Analysis.{Analysis, fault_count, batch_count}
use Rattle.campaign_plan.specs.Batches.{own_sums, total, in_order}
use Rattle.campaign_plan.specs.PlanFaults.{plan_refusal, missing_rate, idle_rate}
use Rattle.campaign_plan.specs.Kept.{IsPlan}
use Rattle.fmeda_report.proofs.Summing.{consistent_below}
use Rattle.campaign_board.specs.declared.entry.Entry.{Entry}
use Rattle.campaign_board.specs.Boards.{Start, AreEntries, board_entry}
use Rattle.campaign_board.specs.AsResult.{HasOwnSums}
use Rattle.campaign_run.specs.Origins.{entry_with, entries_for}
use Rattle.fm_base.proofs.SumsBelow.{sum_by-map}

-- a plan has at most 2^14 batches
few_batches : (p : Analysis) → plan_refusal p ≡ None → batch_count p ≤ 16384
unfolding plan_refusal
few_batches p h = go (nat_lt (2 ^ 20) (fault_count p)) refl
  where
    go : (many : Bool) → nat_lt (2 ^ 20) (fault_count p) ≡ many → batch_count p ≤ 16384
    go true e = absurd (too_many e)
      where
        too_many : nat_lt (2 ^ 20) (fault_count p) ≡ true → ⊥
        too_many e = let some : Some TooManyFaults ≡ None = ap (λ b. if b then Some TooManyFaults else option_or (missing_rate p) (idle_rate p)) (sym e) ∙ h in absurd (cc)
    go false e = let few : fault_count p ≤ 2 ^ 20 = grind (arith, nat_tests) in omega (arith, few)

pub length_entries : (p : Analysis) (planes : ℕ → Outcome) → length (entries_for p planes) ≡ batch_count p
unfolding below
length_entries p planes = length-map-range_with_len (entry_with p planes) 0 (batch_count p)

-- the entry of a batch is the batch's
pub entry_at : (p : Analysis) (planes : ℕ → Outcome) (batch : ℕ) → batch < batch_count p → board_entry (entries_for p planes) batch ≡ entry_with p planes batch
unfolding below
entry_at p planes batch lt = get_or-map-range_with_len (entry_with p planes) 0 (batch_count p) batch batch _ lt (omega arith)

pub sums_by-map : {X Y : Type 0} (f : Y → Sums) (g : X → Y) (xs : List X) → sums_by f (map g xs) ≡ sums_by (λ x. f (g x)) xs
sums_by-map f g xs = λ i. record {
  permanent_all = sum_by-map (λ y. (f y).permanent_all) g xs i;
  permanent_danger = sum_by-map (λ y. (f y).permanent_danger) g xs i;
  latent = sum_by-map (λ y. (f y).latent) g xs i;
  transient_all = sum_by-map (λ y. (f y).transient_all) g xs i;
  transient_danger = sum_by-map (λ y. (f y).transient_danger) g xs i;
}

-- the sums over all entries are those of all batches in order
entries_total : (p : Analysis) (planes : ℕ → Outcome) → sums_by (λ (entry : Entry). entry.own) (entries_for p planes) ≡ total p (in_order p planes)
entries_total p planes =
    sums_by-map (λ (entry : Entry). entry.own) (entry_with p planes) (below (batch_count p))
    ∙ sym (sums_by-map (λ (entry : ℕ × Outcome). own_sums p entry.0 entry.1) (λ batch. (batch, planes batch)) (below (batch_count p)))

pub are_entries : (p : Analysis) (planes : ℕ → Outcome) → IsPlan p → AreEntries (entries_for p planes)
are_entries p planes plan = record {
  few = omega (arith, length_entries p planes, few_batches p plan.rated);
  numbered = λ batch lt. ap (λ (entry : Entry). entry.batch) (entry_at p planes batch (omega (arith, lt, length_entries p planes)));
  small = subst AreSmall (sym (entries_total p planes)) (consistent_below p plan planes (batch_count p) (omega arith)).small;
}

-- each entry has the own sums of its batch and planes
pub have_own : (p : Analysis) (planes : ℕ → Outcome) (o : Start) → o.entries ≡ entries_for p planes → HasOwnSums p o
have_own p planes o e =
    λ batch lt. (
    let lower : batch < batch_count p = omega (arith, lt, ap length e, length_entries p planes) in
    let same : board_entry o.entries batch ≡ entry_with p planes batch = ap (λ es. board_entry es batch) e ∙ entry_at p planes batch lower in
    ap (λ (entry : Entry). entry.own) same
    ∙ sym (ap (λ (entry : Entry). own_sums p batch (record { danger = entry.danger; noticed = entry.noticed })) same))
