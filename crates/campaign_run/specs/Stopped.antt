-- What a campaign that was stopped has left to the one that goes on from it.
use Rattle.std.specs.Prelude.{◌≡◌, ℕ, List, length, take, Ok}
use Rattle.fm_base.specs.Names.{Bytes}
use Rattle.fm_shelf.specs.Outside.{Outside}
use Rattle.campaign_plan.specs.Analysis.{Analysis}
use Rattle.campaign_plan.specs.Batches.{Entry, AreTrue, true_planes}
use Rattle.campaign_plan.specs.Kept.{IsPlan}
use Rattle.result_file.specs.declared.KeptRows.{KeptRows}
use Rattle.result_file.specs.ResultText.{result_text}
use Rattle.result_file.specs.KeptRows.{header_len, kept, kept_entries}
use Rattle.fmeda_report.specs.Report.{report, true_report}
use Rattle.campaign_run.specs.Found.{checkpointed_or_true, IsPart, IsWhole}
use Rattle.campaign_run.specs.Reported.{ResumedAs}

-- a campaign that goes on from these kept rows of a file finds of each batch what it truly has, and reports it
pub record GoesOnTruly (own : Bytes) (p : Analysis) (bytes : Bytes) (k : KeptRows) : Type 0 where
  pub entries : AreTrue p (kept_entries k)
  pub planes : checkpointed_or_true p k ≡ true_planes p
  pub same_report : report p (checkpointed_or_true p k) ≡ true_report p
  pub whole : (entries : List Entry) → IsWhole p (checkpointed_or_true p k) entries → IsWhole p (true_planes p) entries
  pub resumed : (name : Bytes) (before after : Outside) → ResumedAs own (report p (checkpointed_or_true p k)) p (checkpointed_or_true p k) bytes name before after
      → ResumedAs own (true_report p) p (true_planes p) bytes name before after

-- the file is accepted, and whatever rows are kept of it are such
pub record IsTakenUp (own : Bytes) (p : Analysis) (bytes : Bytes) : Type 0 where
  pub k : KeptRows
  pub kept_rows : kept own p bytes ≡ Ok k
  pub truly : (other : KeptRows) → kept own p bytes ≡ Ok other → GoesOnTruly own p bytes other

-- EVERY PREFIX RESUMES: a file of batches with the planes that they truly have, cut at any byte, is accepted, and going on from it
-- gives the report of one thread that takes the faults in order
abbrev pub StoppedAreTakenUp : Type 0
StoppedAreTakenUp = (p : Analysis) → IsPlan p → (own bytes : Bytes) (entries : List Entry) (n : ℕ) → length own ≡ header_len
    → IsPart p (true_planes p) entries → bytes ≡ take n (result_text own p entries) → IsTakenUp own p bytes
