-- Parts of a campaign, merged in a tree.
use Rattle.std.proofs.Common.{◌≡◌, ℕ, zero, suc, ◌%◌, ◌<◌, ◌==◌, ◌⊎◌, true, inl, inr, List, [], length, map, ap, ap₂, sym, subst, ◌∙◌, arith}
use Rattle.std.specs.Prelude.{Contains, None, Ok}
use Rattle.std.proofs.Math.Seq.{take-length}
use Rattle.std.proofs.lemmas.List.Elements.{All-contains, Contains-append_cases, Contains-append_left, Contains-append_right, Contains-push}
use Rattle.fm_base.specs.Names.{Bytes}
use Rattle.campaign_plan.specs.Analysis.{Analysis, batch_count}
use Rattle.campaign_plan.specs.Batches.{AreDistinct, AreTrue, Entry, HasEach, batches, true_planes}
use Rattle.result_file.specs.ResultText.{result_rows, result_text}
use Rattle.result_file.specs.KeptRows.{entry_of}
use Rattle.result_file.proofs.WrittenBack.{entries_are}
use Rattle.fmeda_report.specs.Rows.{RowsReportTruly}
use Rattle.result_file.specs.RowPlanes.{HoldEachOnce}
use Rattle.result_merge.specs.Merged.{first_other, merged, merged_entries, merged_unless}
use Rattle.result_merge.specs.PlanLaws.{MergeLaws, MergesAreLawful}
use Rattle.campaign_run.specs.Found.{IsPart}
use Rattle.campaign_run.specs.Stopped.{StoppedAreTakenUp}
use Rattle.campaign_laws.specs.Parts.{AllMerge, ArePartsOf, MergedPartsReport, Merges, merged_files, whole_of}
use Rattle.campaign_laws.specs.Parts.Merges.{Both, File}

-- ---- one merge

merged_is : (p : Analysis) (a b : List Entry) → first_other (batch_count p) (map entry_of (result_rows p a)) (map entry_of (result_rows p b)) ≡ None
    → merged p (result_rows p a) (result_rows p b) ≡ Ok (result_rows p (merged_entries p (map entry_of (result_rows p a)) (map entry_of (result_rows p b))))
unfolding merged
merged_is p a b none =
    ap (λ least. merged_unless least p (map entry_of (result_rows p a)) (map entry_of (result_rows p b))) none

merge_rows : (p : Analysis) (a b : List Entry) → first_other (batch_count p) a b ≡ None
    → merged p (result_rows p a) (result_rows p b) ≡ Ok (result_rows p (merged_entries p a b))
merge_rows p a b none =
    merged_is p a b (ap₂ (first_other (batch_count p)) (entries_are p a) (entries_are p b) ∙ none)
    ∙ ap₂ (λ x y. Ok (result_rows p (merged_entries p x y))) (entries_are p a) (entries_are p b)

-- ---- the whole tree

module _ (p : Analysis) (laws : MergeLaws p) where
  abbrev AreFiles : Merges → Type 0
  AreFiles tree = (entries : List Entry) → Contains (merged_files tree) entries → IsPart p (true_planes p) entries

  part_of_tree : (tree : Merges) → AreFiles tree → IsPart p (true_planes p) (whole_of p tree)
  part_of_tree (File entries) are = are entries (Contains-push [] entries)
  part_of_tree (Both first second) are =
      let one = part_of_tree first (λ entries has. are entries (Contains-append_left (merged_files first) (merged_files second) entries has)) in
      let other = part_of_tree second (λ entries has. are entries (Contains-append_right (merged_files first) (merged_files second) entries has)) in
      record {
        distinct = laws.distinct (whole_of p first) (whole_of p second);
        have = laws.have (true_planes p) (whole_of p first) (whole_of p second) one.have other.have;
      }

  all_merge : (tree : Merges) → AreFiles tree → AllMerge p tree
  all_merge (File entries) are = tt
  all_merge (Both first second) are =
      let left : AreFiles first = λ entries has. are entries (Contains-append_left (merged_files first) (merged_files second) entries has) in
      let right : AreFiles second = λ entries has. are entries (Contains-append_right (merged_files first) (merged_files second) entries has) in
      let one = part_of_tree first left in
      let other = part_of_tree second right in (
        all_merge first left,
        all_merge second right,
        merge_rows p (whole_of p first) (whole_of p second)
            ((laws.agree (whole_of p first) (whole_of p second)).1 (laws.true_agree (true_planes p) (whole_of p first) (whole_of p second) one.have other.have)),
      )

  -- the tree has each batch of each of its files
  has_all : (tree : Merges) (entries : List Entry) (batch : ℕ) → batch < batch_count p → Contains (merged_files tree) entries → Contains (batches entries) batch
      → Contains (batches (whole_of p tree)) batch
  has_all (File own) entries batch lt (zero, less, same) has = subst (λ (es : List Entry). Contains (batches es) batch) (sym same) has
  has_all (File own) entries batch lt (suc k, less, same) has = absurd (omega (arith, less))
  has_all (Both first second) entries batch lt file has =
      laws.either (whole_of p first) (whole_of p second) batch lt
      (elim (Contains-append_cases (merged_files first) (merged_files second) entries file) as (λ _. Contains (batches (whole_of p first)) batch ⊎ Contains (batches (whole_of p second)) batch) [
        | inl here ↦ inl (has_all first entries batch lt here has)
        | inr there ↦ inr (has_all second entries batch lt there has)
      ])

  has_each : (parts : ℕ) → 0 < parts → (tree : Merges) → ArePartsOf p parts tree → HasEach p (whole_of p tree)
  has_each parts some tree are batch lt =
      let own = are.each (batch % parts) (omega (arith, some)) in
      let here : (batch % parts == batch % parts) ≡ true = grind arith in
      has_all tree own.0 batch lt own.1 (own.2.each batch lt here)

pub parts_report : MergesAreLawful → StoppedAreTakenUp → RowsReportTruly → MergedPartsReport
parts_report merges stopped reports p plan own size parts some tree are =
    let laws = (merges p).0 in
    let files : AreFiles p laws tree = λ entries has. All-contains (IsPart p (true_planes p)) (merged_files tree) entries are.truly has in
    let all : List Entry = whole_of p tree in
    let part = part_of_tree p laws tree files in
    let each = has_each p laws parts some tree are in
    let text : Bytes = result_text own p all in
    let same : map entry_of (result_rows p all) ≡ all = entries_are p all in
    let once : HoldEachOnce p (result_rows p all) =
    record { distinct = subst (AreDistinct p) (sym same) part.distinct; each = subst (HasEach p) (sym same) each } in
    record {
      merge = all_merge p laws tree files;
      whole = (part, each);
      taken = stopped p plan own text all (length text) size part (sym (take-length text));
      same_report = (reports p (result_rows p all) once (subst (AreTrue p) (sym same) part.have)).same_report;
    }
