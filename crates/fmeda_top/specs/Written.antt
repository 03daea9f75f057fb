-- A result file that is written anew, from its header to its last row.
use Rattle.std.specs.Prelude.{◌≡◌, ◌⊎◌, ◌≤◌, ◌++◌, ℕ, List, flat_map, Result, Ok, Err}
use Rattle.fm_shelf.specs.declared.shelf.Failed.{Failed}
use Rattle.fm_shelf.specs.Content.{HasIfKnown}
use Rattle.fm_shelf.specs.Past.{StopsOn, WritesOn}
use Rattle.fm_shelf.specs.Shelf.{ShelfState, CountRose}
use Rattle.fm_base.specs.Names.{Bytes}
use Rattle.campaign_plan.specs.Analysis.{Analysis}
use Rattle.commands.specs.declared.command.Task.{Task}
use Rattle.commands.specs.declared.command.Task.TheVariants as task
use Rattle.refusals.specs.Texts.{merge_line, reweigh_line}
use Rattle.command_reads.specs.Files.{Reads, exchanged}
use Rattle.command_reads.specs.FirstRefusal.{Judged, Merged as StandsMerged, Reweighed as StandsReweighed}
use Rattle.result_file.specs.declared.Row.{Row}
use Rattle.result_file.specs.ResultText.{row_text}
use Rattle.campaign_run.specs.Outside.{KeepsOthers}
use Rattle.campaign_run.specs.Left.{IsPrefixOf}
use Rattle.fmeda_top.specs.declared.merge.Origin.{Origin}
use Rattle.fmeda_top.specs.declared.merge.Origin.TheVariants.{Merged, Reweighed}

-- the bytes of a result file: this header, and these rows
abbrev pub rows_file : Bytes → List Row → Bytes
rows_file own rows = own ++ flat_map row_text rows

-- it has this text, and was written so, known or not; or it is as before or has a prefix of the text, and the faults of writing it rose
abbrev pub RewritesAs : (name text : Bytes) → (before after : ShelfState) → Result (Unit {0}) Failed → Type 0
RewritesAs name text before after (Ok done) = HasIfKnown (after.content name) text × WritesOn 0 text (after.given name) (before.changed name) (after.changed name)
RewritesAs name text before after (Err failed) =
    ((after.content name ≡ before.content name) ⊎ IsPrefixOf (after.content name) text) × CountRose (before.write_faults name) (after.write_faults name)
    × StopsOn 0 text (after.given name) (before.changed name) (after.changed name)

-- the same; files of other names stay, none is read, and the faults of writing it don't fall
pub record IsWrittenAnew (name text : Bytes) (before after : ShelfState) (result : Result (Unit {0}) Failed) : Type 0 where
  pub writes : RewritesAs name text before after result
  pub others : KeepsOthers before after name
  pub given : after.given ≡ before.given
  pub grows : before.write_faults name ≤ after.write_faults name

-- ---- a file whose rows were merged, or weighed by other rates

-- the task that writes it
abbrev pub task_by : Origin → Task
task_by origin = elim origin [ Merged ↦ task.Merge | Reweighed ↦ task.Reweigh ]

-- what its command's files stand for
abbrev pub made_by : Origin → Analysis → List Row → Judged
made_by origin p rows = elim origin [ Merged ↦ StandsMerged p rows | Reweighed ↦ StandsReweighed p rows ]

-- what was read of the files that its header is over
abbrev pub reads_of : Origin → Reads → Reads
reads_of origin reads = elim origin [ Merged ↦ reads | Reweighed ↦ exchanged reads ]

-- the line behind it
abbrev pub line_by : Origin → (rows batches : ℕ) → Bytes
line_by origin rows batches = elim origin [ Merged ↦ merge_line rows batches | Reweighed ↦ reweigh_line rows batches ]
