-- What a command has done when it ends: of what its files stand for, `made`, and of the bytes that were read of them, `reads`.
use Rattle.std.specs.Prelude.{◌≡◌, ◌⊎◌, ℕ, List, [], ◌∷◌, ◌++◌, length, take, flat_map, Option, Some, None, MatchOption, codes, Ok, Err}
use Rattle.fm_base.specs.Names.{Bytes}
use Rattle.fm_base.specs.Text.{line}
use Rattle.fm_shelf.specs.Content.{Content, Held, HasIfKnown, IsIfKnown, bytes_of}
use Rattle.fm_shelf.specs.Past.{Given, Change, StopsOn, WritesOn}
use Rattle.fm_shelf.specs.Shelf.{CountRose, IsUnchanged, KeepsOthers}
use Rattle.fm_shelf.specs.Sink.{Wrote, WroteOrFailed, WrotePrefix}
use Rattle.fm_shelf.specs.Outside.{Outside}
use Rattle.campaign_plan.specs.Analysis.{Analysis, batch_count}
use Rattle.campaign_plan.specs.Batches.{Entry, true_planes}
use Rattle.result_file.specs.declared.KeptRows.{KeptRows}
use Rattle.result_file.specs.declared.Row.{Row}
use Rattle.result_file.specs.ResultText.{result_text, row_text}
use Rattle.result_file.specs.KeptRows.{kept_entries}
use Rattle.result_merge.specs.Parts.{HasPart}
use Rattle.result_file.specs.RowPlanes.{planes_in}
use Rattle.fmeda_report.specs.Report.{report, true_report, summary}
use Rattle.pair_campaign.specs.PairText.{pairs_text}
use Rattle.campaign_tables.specs.FaultTable.{fault_table}
use Rattle.campaign_tables.specs.PartTable.{part_table}
use Rattle.metric_bounds.specs.Progress.{progress}
use Rattle.readings.specs.Breakdown.{breakdown}
use Rattle.readings.specs.Latencies.{latencies}
use Rattle.coverage.specs.Coverage.{coverage}
use Rattle.always_answers.specs.declared.answers.Answers.{Answers}
use Rattle.claim_search.specs.Hypotheses.{Contradict}
use Rattle.claim_search.specs.declared.hypotheses.Contradiction.{Contradiction}
use Rattle.always.specs.Asked.{AreRightOf, terms_of_plan}
use Rattle.always.specs.Laws.{AreTermsFor, claim_of}
use Rattle.always.specs.Text.{always_text}
use Rattle.always.specs.Verdict.{Terms}
use Rattle.wave_dump.specs.Asked.{waves_asked}
use Rattle.wave_dump.specs.Dump.{dump_text}
use Rattle.row_audit.specs.Audited.{each_nth}
use Rattle.row_audit.specs.Simulated.{WasSimulatedBy}
use Rattle.row_audit.specs.declared.kernel.Kernel.{Kernel}
use Rattle.row_audit.specs.declared.kernel.Kernel.TheVariants as kernel
use Rattle.campaign_run.specs.Outside.{had_written}
use Rattle.campaign_run.specs.Found.{checkpointed_or_true}
use Rattle.campaign_run.specs.Reported.{BeginsWith, HasReported, ResumedAs}
use Rattle.campaign_run.specs.Left.{IsPrefixOf, LeftPrefix, StoppedRows}
use Rattle.campaign_shard.specs.LeftPart.{LeftPart, StoppedPart}
use Rattle.commands.specs.declared.command.AuditBy.{AuditBy}
use Rattle.commands.specs.declared.command.AuditBy.TheVariants.{Lanes, Alone}
use Rattle.commands.specs.declared.command.Task.{Task}
use Rattle.commands.specs.declared.command.Task.TheVariants as task
use Rattle.commands.specs.declared.command.Which.{Which}
use Rattle.commands.specs.declared.command.Which.TheVariants as which
use Rattle.commands.specs.Commands.{Command}
use Rattle.refusals.specs.declared.status.Status.{Status}
use Rattle.refusals.specs.declared.status.Status.TheVariants as status
use Rattle.refusals.specs.RefusalLines.{refusal_line}
use Rattle.class_table.specs.ClassTable.{classes_text}
use Rattle.refusals.specs.Texts.{check_text, audit_line, shard_line, merge_line, reweigh_line}
use Rattle.command_reads.specs.Files.{Reads, bytes_of as bytes_read, exchanged}
use Rattle.command_reads.specs.FirstRefusal.{Judged, Driven, Rated, Planned, Begun, Merged, Reweighed, Supposed, own_header}

-- ---- commands that print

-- the text that a task prints; none where it writes a result file
abbrev pub text_of : Task → Judged → Option Bytes
text_of task.Classes (Planned p) = Some (classes_text p)
text_of task.Check (Planned p) = Some (check_text p)
text_of task.Report (Planned p) = Some (true_report p)
text_of (task.Audit every by) (Begun p k) = Some (audit_line every (length (each_nth every k.rows)) (batch_count p))
text_of (task.Pairs workers) (Begun p k) = Some (pairs_text p (planes_in k.rows))
text_of task.Parts (Rated c table) = Some (part_table c table)
text_of task.Faults (Begun p k) = Some (fault_table p (kept_entries k))
text_of task.Progress (Begun p k) = Some (progress p (kept_entries k))
text_of (task.Breakdown intervals workers) (Planned p) = Some (breakdown p intervals)
text_of (task.Latencies workers) (Planned p) = Some (latencies p)
text_of (task.Coverage workers) (Planned p) = Some (coverage p)
text_of (task.Trace run fault nets) (Driven c runs set) =
    Some (elim (waves_asked c runs set.flips set.pulses run fault nets) [ Ok waves ↦ dump_text waves | Err why ↦ [] ])
text_of _ _ = None

-- the kernel of an audit: one circuit at a time where its words ask for it, and else many at once
abbrev pub kernel_for : AuditBy → Kernel
kernel_for Lanes = kernel.EveryTable
kernel_for Alone = kernel.OneCircuit

-- AN AUDIT HAS SIMULATED by the kernel that its words ask for
abbrev pub IsSimulated : Task → Type 0
IsSimulated (task.Audit every by) = WasSimulatedBy (kernel_for by)
IsSimulated _ = Unit {0}

-- a command that prints this text: no file was changed; the text went out, or `out` failed and a prefix of it did
abbrev pub PrintsAs : (text : Bytes) → Status → (before after : Outside) → Type 0
PrintsAs text ended before after =
    IsUnchanged before.shelf after.shelf
    × (((ended ≡ status.Done) × Wrote before.out after.out text) ⊎ ((ended ≡ status.OutFault) × WrotePrefix before.out after.out text))

-- ---- commands that write a result file

-- RESUMING what is accepted: the report of the kept planes, and of the true ones of other batches; stopped: EVERY PREFIX RESUMES as the campaign
pub record Resumed (own : Bytes) (p : Analysis) (k : KeptRows) (bytes name : Bytes) (before after : Outside) : Type 0 where
  pub resumed : ResumedAs own (report p (checkpointed_or_true p k)) p (checkpointed_or_true p k) bytes name before after
  pub stopped : LeftPrefix own p (true_planes p) (Held bytes) → ResumedAs own (true_report p) p (true_planes p) bytes name before after

-- A PART OF A CAMPAIGN: the file holds a row for each batch of the part, once, with its true planes, and took them so; the line tells how many
abbrev pub HasShard : (part parts : ℕ) → (own : Bytes) → Analysis → (name : Bytes) → (before after : Outside) → Type 0
HasShard part parts own p name before after =
    (entries : List Entry) × HasPart p (true_planes p) part parts entries
    × HasIfKnown (after.shelf.content name) (result_text own p entries) × Wrote before.out after.out (shard_line part parts (length entries))
    × WritesOn 0 (result_text own p entries) (after.shelf.given name) (before.shelf.changed name) (after.shelf.changed name)

-- MERGING: the file holds the rows of both files, and was written so
abbrev pub HasMerged : (own : Bytes) → Analysis → List Row → (name : Bytes) → (before after : Outside) → Type 0
HasMerged own p both name before after =
    HasIfKnown (after.shelf.content name) (own ++ flat_map row_text both) × Wrote before.out after.out (merge_line (length both) (batch_count p))
    × WritesOn 0 (own ++ flat_map row_text both) (after.shelf.given name) (before.shelf.changed name) (after.shelf.changed name)

-- REWEIGHING: the file holds the rows by the other rates, under the header of the campaign with them, and was written so
abbrev pub HasReweighed : (own : Bytes) → Analysis → List Row → (name : Bytes) → (before after : Outside) → Type 0
HasReweighed own p rows name before after =
    HasIfKnown (after.shelf.content name) (own ++ flat_map row_text rows) × Wrote before.out after.out (reweigh_line (length rows) (batch_count p))
    × WritesOn 0 (own ++ flat_map row_text rows) (after.shelf.given name) (before.shelf.changed name) (after.shelf.changed name)

-- WHAT A TASK HAS WRITTEN to the result file of this name and to `out`
abbrev pub HasWritten : Task → Judged → Reads → (name : Bytes) → (before after : Outside) → Type 0
HasWritten (task.Run workers) (Planned p) reads = HasReported (own_header reads p) (true_report p) p (true_planes p) 0
HasWritten (task.Gen stages workers) (Planned p) reads = HasReported (own_header reads p) (summary stages p (true_planes p)) p (true_planes p) 0
HasWritten (task.Resume workers) (Begun p k) reads = Resumed (own_header reads p) p k (bytes_read (reads which.Result))
HasWritten (task.Shard part parts) (Planned p) reads = HasShard part parts (own_header reads p) p
HasWritten task.Merge (Merged p both) reads = HasMerged (own_header reads p) p both
HasWritten task.Reweigh (Reweighed p rows) reads = HasReweighed (own_header (exchanged reads) p) p rows
HasWritten _ _ reads = λ name before after. ⊥

-- what may be left of a result file that can't be written: a byte prefix of one of the plan, of a part's own rows, or of that of `merge` and of
-- `reweigh`, with the bytes that were kept
abbrev pub MayLeave : Task → Judged → Reads → (before after : Content) → Type 0
MayLeave (task.Shard part parts) (Planned p) reads before after = LeftPart part parts (own_header reads p) p after
MayLeave _ (Planned p) reads before after = LeftPrefix (own_header reads p) p (true_planes p) after
MayLeave _ (Begun p k) reads before after =
    LeftPrefix (own_header reads p) p (checkpointed_or_true p k) after × IsIfKnown after (λ bytes. BeginsWith bytes (take k.whole (bytes_of before)))
MayLeave _ (Merged p both) reads before after = IsPrefixOf after (own_header reads p ++ flat_map row_text both)
MayLeave _ (Reweighed p rows) reads before after = IsPrefixOf after (own_header (exchanged reads) p ++ flat_map row_text rows)
MayLeave _ _ reads before after = ⊥

-- ROWS THAT WERE WRITTEN STAY: known or not, up to the call that failed it was written so from the kept bytes on, and was not cut again
abbrev pub MayStop : Task → Judged → Reads → List Given → (before after : List Change) → Type 0
MayStop (task.Shard part parts) (Planned p) reads = StoppedPart part parts (own_header reads p) p
MayStop _ (Planned p) reads = StoppedRows (own_header reads p) p (true_planes p) 0 []
MayStop _ (Begun p k) reads = StoppedRows (own_header reads p) p (checkpointed_or_true p k) k.whole (kept_entries k)
MayStop _ (Merged p both) reads = StopsOn 0 (own_header reads p ++ flat_map row_text both)
MayStop _ (Reweighed p rows) reads = StopsOn 0 (own_header (exchanged reads) p ++ flat_map row_text rows)
MayStop _ _ reads = λ given before after. ⊥

-- a command that writes the result file of this name: files of other names are as before. All was written; or `out` failed, and all is as
-- then but for a part of a text; or a write to the file failed: it is as before, or so, what was written stays, and the line of this fault went out
pub data WritesAs (own : Task) (made : Judged) (reads : Reads) (name : Bytes) (before after : Outside) : Status → Type 0 where
  All : HasWritten own made reads name before after → WritesAs own made reads name before after status.Done
  OutFailed : (text : Bytes) → WrotePrefix before.out after.out text → HasWritten own made reads name before (had_written before after text)
      → WritesAs own made reads name before after status.OutFault
  ResultFailed : CountRose (before.shelf.write_faults name) (after.shelf.write_faults name)
      → (after.shelf.content name ≡ before.shelf.content name) ⊎ MayLeave own made reads (before.shelf.content name) (after.shelf.content name)
      → MayStop own made reads (after.shelf.given name) (before.shelf.changed name) (after.shelf.changed name)
      → WroteOrFailed before.out after.out (line (codes "refused: cannot write" ∷ name ∷ []))
      → WritesAs own made reads name before after status.ResultFault

-- ---- how a command ends

-- AFTER A REFUSAL: no file was changed, and its line was written, or a prefix of it where `out` failed
abbrev pub RefusedAs : (line : Bytes) → (before after : Outside) → Type 0
RefusedAs line before after = IsUnchanged before.shelf after.shelf × WroteOrFailed before.out after.out line

-- what `always` asks, and of which plan
abbrev pub asked_of : Task → Judged → Option (Analysis × Terms)
asked_of (task.Always window ahead) (Supposed p held) = Some (p, terms_of_plan p held window ahead)
asked_of _ _ = None

-- FOR EVERY WORKLOAD: what is asked fits the plan, and the text of right answers went out, or a prefix of it where `out` failed; or what is supposed
-- of runs contradicts itself, and the line of this went out
abbrev pub HasAnswered : (files : Which → Bytes) → Analysis → Terms → Status → (before after : Outside) → Type 0
HasAnswered files p terms ended before after =
    AreTermsFor p terms
    × (((answers : Answers) × AreRightOf p terms answers × PrintsAs (always_text p terms answers) ended before after)
    ⊎ ((why : Contradiction) × Contradict (claim_of p terms) why × (ended ≡ status.Contradiction why)
    × RefusedAs (refusal_line files p.circuit (status.Contradiction why)) before after))

-- nothing was refused: it has answered for every workload, printed its text, or written its result file, or a write has failed
abbrev pub IsDoneOrFailed : Command → Judged → Reads → Status → (before after : Outside) → Type 0
IsDoneOrFailed command made reads ended before after =
    MatchOption (asked_of command.task made)
    (MatchOption (text_of command.task made)
    (KeepsOthers before.shelf after.shelf (command.files which.Result) × WritesAs command.task made reads (command.files which.Result) before after ended)
    (λ text. PrintsAs text ended before after × IsSimulated command.task))
    (λ asked. HasAnswered command.files asked.0 asked.1 ended before after)
