-- The planes that a batch truly has fit a word, and are 0 where a lane holds no fault; and going on from kept rows with true planes.
use Rattle.std.proofs.Common.{◌≡◌, ℕ, ◌-◌, ◌/◌, ◌<◌, Bool, true, false, not, ◌&&◌, ◌||◌, List, [], ◌∷◌, take, refl, ap, sym, subst, ◌∙◌, arith}
use Rattle.std.specs.Prelude.{All, Ok, find, unwrap_or, option_map, ◌==◌}
use Rattle.std.proofs.lemmas.Bool.Decides.{nat_tests}
use Rattle.std.proofs.lemmas.List.Elements.{All-head, All-tail, All-take, All-weaker}
use Rattle.std.proofs.lemmas.List.Folds.{list_any_none}
use Rattle.fm_base.specs.Lists.{below}
use Rattle.fm_base.specs.Planes.{bit}
use Rattle.fm_base.proofs.Below.{below_small}
use Rattle.fm_base.proofs.Bits.{bit-plane_of, plane_small}
use Rattle.fault_list.specs.Faults.{fault_at, fault_number, is_used}
use Rattle.campaign_plan.specs.declared.Outcome.{Outcome}
use Rattle.campaign_plan.specs.Analysis.{Analysis, all_faults, fault_count}
use Rattle.campaign_plan.specs.Danger.{is_dangerous, is_noticed}
use Rattle.campaign_plan.specs.Batches.{Entry, outcome_of, AreTrue, true_planes}
use Rattle.result_file.specs.declared.KeptRows.{KeptRows}
use Rattle.result_file.specs.KeptRows.{kept, kept_entries, FitsLanes}
use Rattle.fmeda_report.specs.Report.{report}
use Rattle.campaign_run.specs.Found.{checkpointed_or_true, IsWhole}
use Rattle.campaign_run.specs.Reported.{ResumedAs}
use Rattle.campaign_run.specs.Prefixes.{PrefixesKeepWholeRows}
use Rattle.campaign_run.specs.Stopped.{GoesOnTruly, StoppedAreTakenUp}

-- a lane's bit is that of a fault in it
unused_clear : (used danger noticed : Bool) → (not used && ((used && danger) || (used && noticed))) ≡ false
unused_clear true danger noticed = refl
unused_clear false danger noticed = refl

true_fits : (p : Analysis) (batch : ℕ) → FitsLanes p (batch, true_planes p batch)
unfolding outcome_of
true_fits p batch =
    let used : ℕ → Bool = is_used (fault_count p) batch in
    let danger : ℕ → Bool = λ k. is_dangerous p.circuit p.points p.settings.ftti p.runs (fault_at (all_faults p) (fault_number batch k) ∷ []) in
    let noticed : ℕ → Bool = λ k. is_noticed p.circuit p.points p.runs (fault_at (all_faults p) (fault_number batch k) ∷ []) in
    let planes : Outcome = true_planes p batch in
    let test : ℕ → Bool = λ k. not (used k) && (bit planes.danger k || bit planes.noticed k) in
    let clear : (k : ℕ) → k < 64 → test k ≡ false =
    λ k lane. ap (λ b. not (used k) && (b || bit planes.noticed k)) (bit-plane_of (λ l. used l && danger l) k lane)
    ∙ ap (λ b. not (used k) && ((used k && danger k) || b)) (bit-plane_of (λ l. used l && noticed l) k lane)
    ∙ unused_clear (used k) (danger k) (noticed k) in
    record {
      danger = plane_small 64 (λ k. used k && danger k);
      noticed = plane_small 64 (λ k. used k && noticed k);
      unused = list_any_none test (below 64) (All-weaker (λ k. k < 64) (λ k. test k ≡ false) clear (below 64) (below_small 64));
    }

-- entries with the planes that their batches truly have fit their lanes
pub true_entries_fit : (p : Analysis) (entries : List Entry) → AreTrue p entries → All (FitsLanes p) entries
true_entries_fit p entries are =
    All-weaker (λ entry. entry.1 ≡ true_planes p entry.0) (FitsLanes p)
    (λ entry e. subst (λ (planes : Outcome). FitsLanes p (entry.0, planes)) (sym e) (true_fits p entry.0)) entries are

-- ---- going on

-- the planes of the first entry of a batch, or else its true ones
abbrev found : Analysis → List Entry → ℕ → Outcome
found p entries batch = unwrap_or (option_map (λ entry. entry.1) (find (λ entry. entry.0 == batch) entries)) (true_planes p batch)

-- a batch is found to have its true planes, whether it is among the entries or not
found_true : (p : Analysis) (entries : List Entry) (batch : ℕ) → AreTrue p entries → found p entries batch ≡ true_planes p batch
found_true p [] batch are = refl
found_true p (entry ∷ entries) batch are =
    by_test (entry.0 == batch) refl (found_true p entries batch (All-tail (λ e. e.1 ≡ true_planes p e.0) entry entries are))
  where
    by_test : (here : Bool) → (entry.0 == batch) ≡ here → found p entries batch ≡ true_planes p batch → found p (entry ∷ entries) batch ≡ true_planes p batch
    by_test true e rest =
        let same : entry.0 ≡ batch = grind (arith, nat_tests) in
        rw e (All-head (λ e. e.1 ≡ true_planes p e.0) entry entries are ∙ ap (true_planes p) same)
    by_test false e rest = rw e rest

goes_on : (own : List ℕ) (p : Analysis) (bytes : List ℕ) (k : KeptRows) → AreTrue p (kept_entries k) → GoesOnTruly own p bytes k
goes_on own p bytes k are =
    let same : checkpointed_or_true p k ≡ true_planes p = λ j batch. found_true p (kept_entries k) batch are j in
    record {
      entries = are;
      planes = same;
      same_report = ap (report p) same;
      whole = λ entries. subst (λ planes. IsWhole p planes entries) same;
      resumed = λ name before after. subst (λ planes. ResumedAs own (report p planes) p planes bytes name before after) same;
    }

pub taken_up : PrefixesKeepWholeRows → StoppedAreTakenUp
taken_up law p plan own bytes entries n many part left =
    let keeps = law p plan own entries n many part.distinct (true_entries_fit p entries part.have) in
    let accepted : kept own p bytes ≡ Ok keeps.k = ap (kept own p) left ∙ keeps.kept_rows in
    let firsts : AreTrue p (take ((n - 89) / 130) entries) = All-take (λ entry. entry.1 ≡ true_planes p entry.0) ((n - 89) / 130) entries part.have in
    let are : AreTrue p (kept_entries keeps.k) = subst (AreTrue p) (sym keeps.first) firsts in
    record {
      k = keeps.k;
      kept_rows = accepted;
      truly = λ other h. (
          let both : Ok keeps.k ≡ Ok other = sym accepted ∙ h in
          let same : keeps.k ≡ other = cc in
          goes_on own p bytes other (subst (λ (k : KeptRows). AreTrue p (kept_entries k)) same are));
    }
