-- The parts of a campaign, merged in any order and in any tree, and resumed. This project's own rule.
use Rattle.std.specs.Prelude.{◌≡◌, ℕ, ◌<◌, List, [], ◌∷◌, ◌++◌, length, All, Contains, Ok}
use Rattle.fm_base.specs.Names.{Bytes}
use Rattle.campaign_plan.specs.Analysis.{Analysis}
use Rattle.campaign_plan.specs.Batches.{Entry, true_planes}
use Rattle.campaign_plan.specs.Kept.{IsPlan}
use Rattle.result_file.specs.ResultText.{result_rows, result_text}
use Rattle.result_file.specs.KeptRows.{header_len}
use Rattle.fmeda_report.specs.Report.{report, true_report}
use Rattle.result_file.specs.RowPlanes.{planes_in}
use Rattle.result_merge.specs.Merged.{merged, merged_entries}
use Rattle.result_merge.specs.Parts.{HasPart}
use Rattle.campaign_run.specs.Found.{IsPart, IsWhole}
use Rattle.campaign_run.specs.Stopped.{IsTakenUp}

-- A TREE OF MERGES: the batches of a file as it is, or the files of two trees, merged
pub data Merges : Type 0 where
  File : List Entry → Merges
  Both : Merges → Merges → Merges

-- the batches of the file that a tree ends with
abbrev pub whole_of : Analysis → Merges → List Entry
whole_of p (File entries) = entries
whole_of p (Both first second) = merged_entries p (whole_of p first) (whole_of p second)

-- the files that a tree begins with
abbrev pub merged_files : Merges → List (List Entry)
merged_files (File entries) = entries ∷ []
merged_files (Both first second) = merged_files first ++ merged_files second

-- no step of the tree is refused: each pair of files has a merged one, of the rows of both
abbrev pub AllMerge : Analysis → Merges → Type 0
AllMerge p (File entries) = Unit {0}
AllMerge p (Both first second) =
    AllMerge p first × AllMerge p second
    × (merged p (result_rows p (whole_of p first)) (result_rows p (whole_of p second)) ≡ Ok (result_rows p (whole_of p (Both first second))))

-- truly: each file of the tree has some batches of the plan, none twice, with their true planes
-- each: each of so many parts is one of them
pub record ArePartsOf (p : Analysis) (parts : ℕ) (tree : Merges) : Type 0 where
  pub truly : All (IsPart p (true_planes p)) (merged_files tree)
  pub each : (part : ℕ) → part < parts → (entries : List Entry) × Contains (merged_files tree) entries × HasPart p (true_planes p) part parts entries

-- merge: no merge is refused
-- whole: the last file has each batch of the plan once, with its true planes
-- taken: it is accepted, and what goes on from it reports as one thread does that takes the faults in order
-- same_report: the report of its rows is that of `run`
pub record MergeToWhole (own : Bytes) (p : Analysis) (tree : Merges) : Type 0 where
  pub merge : AllMerge p tree
  pub whole : IsWhole p (true_planes p) (whole_of p tree)
  pub taken : IsTakenUp own p (result_text own p (whole_of p tree))
  pub same_report : report p (planes_in (result_rows p (whole_of p tree))) ≡ true_report p

-- ALL PARTS, MERGED IN ANY TREE, GIVE THE REPORT OF `run`: for every number of parts
abbrev pub MergedPartsReport : Type 0
MergedPartsReport = (p : Analysis) → IsPlan p → (own : Bytes) → length own ≡ header_len → (parts : ℕ) → 0 < parts
    → (tree : Merges) → ArePartsOf p parts tree → MergeToWhole own p tree
