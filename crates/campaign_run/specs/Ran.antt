-- How a campaign has ended.
use Rattle.std.specs.Prelude.{◌≡◌, ◌⊎◌, ◌≤◌, ℕ, take}
use Rattle.fm_shelf.specs.Content.{bytes_of}
use Rattle.fm_shelf.specs.Shelf.{ShelfState, CountRose}
use Rattle.fm_shelf.specs.Sink.{WrotePrefix}
use Rattle.fm_shelf.specs.Outside.{Outside}
use Rattle.campaign_plan.specs.declared.Outcome.{Outcome}
use Rattle.campaign_plan.specs.Analysis.{Analysis}
use Rattle.result_file.specs.declared.KeptRows.{KeptRows}
use Rattle.result_file.specs.KeptRows.{kept_entries}
use Rattle.fmeda_report.specs.Report.{report, summary}
use Rattle.fm_base.specs.Names.{Bytes}
use Rattle.campaign_run.specs.declared.run.Text.{Text}
use Rattle.campaign_run.specs.declared.run.Text.TheVariants.{Report, Summary}
use Rattle.campaign_run.specs.declared.run.End.{End}
use Rattle.campaign_run.specs.declared.run.End.TheVariants.{Done, NoMemory, ResultFault, OutFault}
use Rattle.campaign_run.specs.Outside.{KeepsOthers, had_written}
use Rattle.campaign_run.specs.Found.{checkpointed_or_true}
use Rattle.campaign_run.specs.Reported.{HasReported, BeginsWith}
use Rattle.campaign_run.specs.Left.{LeftPrefix, BeginsAs, StoppedRows}

-- the text that is written at the end, for the planes of each batch
abbrev pub text_for : Text → Analysis → (ℕ → Outcome) → Bytes
text_for Report p planes = report p planes
text_for (Summary stages) p planes = summary stages p planes

-- a campaign: the name and the header of its result file, its plan, what is kept of the file, and the text to write
pub record Campaign : Type 0 where
  pub name : Bytes
  pub own : Bytes
  pub p : Analysis
  pub k : KeptRows
  pub text : Text

-- the planes that its batches are found to have
abbrev pub campaign_planes : Campaign → ℕ → Outcome
campaign_planes c = checkpointed_or_true c.p c.k

-- what it writes
abbrev pub campaign_text : Campaign → Bytes
campaign_text c = text_for c.text c.p (campaign_planes c)

-- the campaign is reported, and the rows of its file begin with those that were kept
pub record IsReported (c : Campaign) (before after : Outside) : Type 0 where
  pub reported : HasReported c.own (campaign_text c) c.p (campaign_planes c) c.k.whole c.name before after
  pub first : BeginsWith reported.entries (kept_entries c.k)

-- the file is as before, or a byte prefix of a result file that still begins with the bytes that were kept
abbrev pub IsTruncatedResult : Campaign → (before after : ShelfState) → Type 0
IsTruncatedResult c before after =
    (after.content c.name ≡ before.content c.name)
    ⊎ (LeftPrefix c.own c.p (campaign_planes c) (after.content c.name) × BeginsAs (after.content c.name) (take c.k.whole (bytes_of (before.content c.name))))

-- what was told of the file, up to the call that failed
abbrev pub HasStopped : Campaign → (before after : ShelfState) → Type 0
HasStopped c before after =
    StoppedRows c.own c.p (campaign_planes c) c.k.whole (kept_entries c.k) (after.given c.name) (before.changed c.name) (after.changed c.name)

-- Done: it is reported. NoMemory: nothing has changed. ResultFault: the result file couldn't be written, and nothing went out.
-- OutFault: the file is as after Done, and a prefix of the text went out.
abbrev pub EndsAs : End → Campaign → (before after : Outside) → Type 0
EndsAs Done c before after = IsReported c before after
EndsAs (NoMemory no_room) c before after = after ≡ before
EndsAs ResultFault c before after =
    CountRose (before.shelf.write_faults c.name) (after.shelf.write_faults c.name) × IsTruncatedResult c before.shelf after.shelf × (after.out ≡ before.out)
    × HasStopped c before.shelf after.shelf
EndsAs OutFault c before after = IsReported c before (had_written before after (campaign_text c)) × WrotePrefix before.out after.out (campaign_text c)

-- A CAMPAIGN THAT RAN: it ended so; other files are as before, and none was read; and neither the faults of writing its file nor those of `out` have fallen
pub record HasRun (end : End) (c : Campaign) (before after : Outside) : Type 0 where
  pub ends : EndsAs end c before after
  pub others : KeepsOthers before.shelf after.shelf c.name
  pub given : after.shelf.given ≡ before.shelf.given
  pub faults : before.shelf.write_faults c.name ≤ after.shelf.write_faults c.name
  pub out_faults : before.out.faults ≤ after.out.faults
