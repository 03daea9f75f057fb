-- What a task has written, by how its campaign has run.
use Rattle.std.proofs.Common.{ℕ, List, ◌≡◌, ◌≤◌, ap, sym, subst, Ok, inl, inr, length, arith}
use Rattle.std.specs.Prelude.{◌⊎◌, Option, Some, None, MatchOption, ◌∷◌, [], ◌++◌, codes, flat_map, map}
use Rattle.std.proofs.lemmas.List.{take_all}
use Rattle.fm_base.specs.Names.{Bytes}
use Rattle.fm_base.specs.Text.{line}
use Rattle.fm_shelf.specs.Content.{Held, HasIfKnown}
use Rattle.fm_shelf.specs.Past.{StopsOn, WritesOn}
use Rattle.fm_shelf.specs.Shelf.{ShelfState}
use Rattle.fm_shelf.specs.Sink.{SinkState, Wrote, WroteOrFailed}
use Rattle.fm_shelf.specs.Outside.{Outside, outside}
use Rattle.campaign_plan.specs.declared.Outcome.{Outcome}
use Rattle.campaign_plan.specs.declared.Settings.{Settings}
use Rattle.campaign_plan.specs.Analysis.{Analysis, batch_count}
use Rattle.campaign_plan.specs.Batches.{AreTrue, Entry, true_planes}
use Rattle.result_file.specs.declared.KeptRows.{KeptRows}
use Rattle.result_file.specs.declared.Row.{Row}
use Rattle.result_file.specs.ResultText.{result_rows, result_text, row_text}
use Rattle.result_file.specs.KeptRows.{entry_of, kept, kept_entries}
use Rattle.result_merge.specs.Merged.{first_other, merged, merged_entries, merged_unless}
use Rattle.result_merge.specs.PlanLaws.{MergesAreLawful}
use Rattle.fmeda_report.specs.Report.{report, summary, true_report}
use Rattle.campaign_run.specs.declared.run.End.{End}
use Rattle.campaign_run.specs.declared.run.End.TheVariants as end
use Rattle.campaign_run.specs.declared.run.Text.{Text}
use Rattle.campaign_run.specs.declared.run.Text.TheVariants.{Report, Summary}
use Rattle.campaign_run.specs.Found.{checkpointed_or_true}
use Rattle.campaign_run.specs.Left.{IsPrefixOf, LeftPrefix, StoppedRows}
use Rattle.campaign_run.specs.Outside.{KeepsOthers}
use Rattle.campaign_run.specs.Ran.{Campaign, HasRun, HasStopped, IsReported, IsTruncatedResult, campaign_text}
use Rattle.campaign_run.specs.Reported.{HasReported, ResumedAs}
use Rattle.campaign_run.specs.Starting.{no_kept_rows}
use Rattle.campaign_run.specs.Stopped.{StoppedAreTakenUp}
use Rattle.always.specs.Verdict.{Terms}
use Rattle.commands.specs.declared.command.Task.{Task}
use Rattle.commands.specs.declared.command.Task.TheVariants as task
use Rattle.commands.specs.declared.command.Which.{Which}
use Rattle.commands.specs.declared.command.Which.TheVariants as which
use Rattle.commands.specs.Commands.{Command}
use Rattle.refusals.specs.declared.status.Status.{Status}
use Rattle.refusals.specs.declared.status.Status.TheVariants as status
use Rattle.refusals.specs.WantOfMemory.{IsMemory}
use Rattle.command_reads.specs.declared.begun.Begun.{Begun as BegunOf}
use Rattle.command_reads.specs.declared.planned.Planned.{Planned as PlannedOf}
use Rattle.command_reads.specs.declared.judge.Judged.{Judged as Made}
use Rattle.command_reads.specs.Answers.{IsSound}
use Rattle.command_reads.specs.Judging.{made_by}
use Rattle.command_reads.specs.Files.{Reads, bytes_of as bytes_read, known_by}
use Rattle.command_reads.specs.FirstRefusal.{Judged, Begun, Planned, own_header}
use Rattle.fmeda_top.specs.TaskRefusals.{task_refusal}
use Rattle.fmeda_top.specs.Doing.{DoesAs, EndSaid, HasEnded, HasRefused, IsHeld, task_of_text}
use Rattle.fmeda_top.specs.Ends.{HasAnswered, HasWritten, IsDoneOrFailed, IsSimulated, MayLeave, MayStop, PrintsAs, WritesAs, asked_of, text_of}
use Rattle.fmeda_top.specs.Ends.WritesAs.{All, OutFailed, ResultFailed}
use Rattle.fmeda_top.specs.Written.{line_by, made_by as made_of, reads_of, rows_file, task_by}
use Rattle.fmeda_top.specs.declared.merge.Origin.{Origin}
use Rattle.fmeda_top.specs.declared.merge.Origin.TheVariants.{Merged as ByMerge, Reweighed as ByReweigh}

-- ---- the end of a campaign, told

module _ (command : Command) (it : Judged) (reads : Reads) (before after : Outside) (out : SinkState)
    (no_asking : asked_of command.task it ≡ None) (no_text : text_of command.task it ≡ None) (no_refusal : task_refusal command.task it ≡ None) where
  abbrev name : Bytes
  name = command.files which.Result

  abbrev at_end : Outside
  at_end = outside after.shelf out

  module _ (ended : Status) where
    -- what it has done, where its text is so, and where it asks so
    abbrev HasTold : Option Bytes → Type 0
    HasTold text =
        MatchOption text (KeepsOthers before.shelf after.shelf name × WritesAs command.task it reads name before at_end ended)
        (λ text. PrintsAs text ended before at_end × IsSimulated command.task)

    abbrev HasDone : Option (Analysis × Terms) → Type 0
    HasDone asked = MatchOption asked (HasTold (text_of command.task it)) (λ asked. HasAnswered command.files asked.0 asked.1 ended before at_end)

  writes_end : (ended : Status) → before.out.faults ≤ out.faults → after.shelf.given ≡ before.shelf.given → KeepsOthers before.shelf after.shelf name → WritesAs command.task it reads name before at_end ended
      → DoesAs command it reads ended before at_end
  writes_end ended grows given others writes = (
    inl (subst
        (λ refusal. MatchOption refusal (IsDoneOrFailed command it reads ended before at_end)
        (λ why. (ended ≡ why) × HasRefused command.files (known_by (reads which.Netlist)) why before at_end))
        (sym no_refusal)
        (subst (HasDone ended) (sym no_asking) (subst (HasTold ended) (sym no_text) (others, writes)))),
    grows,
    given,
  )

  -- it is told at this status, with nothing more to say
  silent_end : (ended own : Status) → ended ≡ own → out ≡ after.out → before.out.faults ≤ after.out.faults → after.shelf.given ≡ before.shelf.given
      → KeepsOthers before.shelf after.shelf name → WritesAs command.task it reads name before after own → DoesAs command it reads ended before at_end
  silent_end ended own is same grows given others writes =
      writes_end ended (subst (λ (s : SinkState). before.out.faults ≤ s.faults) (sym same) grows) given others
      (subst (λ s. WritesAs command.task it reads name before at_end s) (sym is)
      (subst (λ now. WritesAs command.task it reads name before (outside after.shelf now) own) (sym same) writes))

  -- HOW A TASK THAT WRITES A RESULT FILE ENDS
  pub told_ends : (how : End) (ended : Status) → HasEnded how command.task it reads name before after → EndSaid how ended after.out out command.files
      → DoesAs command it reads ended before at_end
  told_ends end.Done ended ran (is, same) = silent_end ended status.Done is same ran.grows ran.given ran.others (All ran.ends)
  told_ends end.OutFault ended ran (is, same) =
      silent_end ended status.OutFault is same ran.grows ran.given ran.others (OutFailed ran.ends.0 ran.ends.2 ran.ends.1)
  told_ends end.ResultFault ended ran (is, (said, more)) =
      writes_end ended (omega (arith, ran.grows, more)) ran.given ran.others
      (subst (λ s. WritesAs command.task it reads name before at_end s) (sym is)
      (ResultFailed ran.ends.0 ran.ends.1 ran.ends.3 (subst (λ from. WroteOrFailed from out (line (codes "refused: cannot write" ∷ name ∷ []))) ran.ends.2 said)))
  told_ends (end.NoMemory no_room) ended ran (is, (said, more)) = (
    inr (
      subst IsMemory (sym is) tt,
      no_room.why,
      (
        record { content = ap (λ (s : Outside). s.shelf.content) ran.ends; changed = ap (λ (s : Outside). s.shelf.changed) ran.ends },
        subst (λ from. WroteOrFailed from out (codes "refused: out of memory\n")) (ap (λ (s : Outside). s.out) ran.ends) said,
      ),
    ),
    omega (arith, ran.grows, more),
    ran.given,
  )

-- ---- where the task is this one, and what was made is this

-- a task with these names and settings
abbrev command_with : (Which → Bytes) → Settings → Task → Command
command_with names set own = record { files = names; settings = set; task = own }

module _ (names : Which → Bytes) (set : Settings) (own as_own : Task) (it as_made : Made) (reads : Reads) (ended : Status) (before : Outside)
    (own_is : own ≡ as_own) (made_is : it ≡ as_made) where
  pub does_by : (after : Outside) → DoesAs (command_with names set as_own) (made_by as_made) reads ended before after
      → DoesAs (command_with names set own) (made_by it) reads ended before after
  does_by after does =
      subst (λ t. DoesAs (command_with names set t) (made_by it) reads ended before after) (sym own_is)
      (subst (λ other. DoesAs (command_with names set as_own) (made_by other) reads ended before after) (sym made_is) does)

  pub told_does : (after : Outside) (shelf : ShelfState) (out : SinkState) (how : End) → asked_of as_own (made_by as_made) ≡ None → text_of as_own (made_by as_made) ≡ None
      → task_refusal as_own (made_by as_made) ≡ None → HasEnded how as_own (made_by as_made) reads (names which.Result) before after
      → EndSaid how ended after.out out names → shelf ≡ after.shelf → DoesAs (command_with names set own) (made_by it) reads ended before (outside shelf out)
  told_does after shelf out how no_asking no_text no_refusal ran said same =
      does_by (outside shelf out)
      (subst (λ other. DoesAs (command_with names set as_own) (made_by as_made) reads ended before (outside other out)) (sym same)
      (told_ends (command_with names set as_own) (made_by as_made) reads before after out no_asking no_text no_refusal how ended ran said))

-- ---- a campaign that begins anew

-- the campaign of a plan that keeps nothing of its result file, and writes this text
abbrev pub begun_anew : PlannedOf → (name : Bytes) → Text → Campaign
begun_anew planned name text = record { name = name; own = planned.own; p = planned.plan; k = no_kept_rows; text = text }

module _ (planned : PlannedOf) (reads : Reads) (name : Bytes) (workers : ℕ) (before : Outside) (sound : IsSound reads planned) where
  anew_written : (text : Text) (after : Outside) → IsReported (begun_anew planned name text) before after
      → HasWritten (task_of_text text workers) (Planned planned.plan) reads name before after
  anew_written Report after is =
      subst (λ own. HasReported own (true_report planned.plan) planned.plan (true_planes planned.plan) 0 name before after) sound.own is.reported
  anew_written (Summary stages) after is =
      subst (λ own. HasReported own (summary stages planned.plan (true_planes planned.plan)) planned.plan (true_planes planned.plan) 0 name before after) sound.own is.reported

  anew_left : (text : Text) (after : Outside) → IsTruncatedResult (begun_anew planned name text) before.shelf after.shelf
      → (after.shelf.content name ≡ before.shelf.content name)
      ⊎ MayLeave (task_of_text text workers) (Planned planned.plan) reads (before.shelf.content name) (after.shelf.content name)
  anew_left text after (inl same) = inl same
  anew_left Report after (inr left) = inr (subst (λ own. LeftPrefix own planned.plan (true_planes planned.plan) (after.shelf.content name)) sound.own left.0)
  anew_left (Summary stages) after (inr left) = inr (subst (λ own. LeftPrefix own planned.plan (true_planes planned.plan) (after.shelf.content name)) sound.own left.0)

  anew_stopped : (text : Text) (after : Outside) → HasStopped (begun_anew planned name text) before.shelf after.shelf
      → MayStop (task_of_text text workers) (Planned planned.plan) reads (after.shelf.given name) (before.shelf.changed name) (after.shelf.changed name)
  anew_stopped Report after stopped =
      subst (λ own. StoppedRows own planned.plan (true_planes planned.plan) 0 [] (after.shelf.given name) (before.shelf.changed name) (after.shelf.changed name)) sound.own stopped
  anew_stopped (Summary stages) after stopped =
      subst (λ own. StoppedRows own planned.plan (true_planes planned.plan) 0 [] (after.shelf.given name) (before.shelf.changed name) (after.shelf.changed name)) sound.own stopped

  pub anew_ended : (how : End) (text : Text) (after : Outside) → HasRun how (begun_anew planned name text) before after
      → HasEnded how (task_of_text text workers) (Planned planned.plan) reads name before after
  anew_ended end.Done text after ran = record { ends = anew_written text after ran.ends; others = ran.others; given = ran.given; grows = ran.out_faults }
  anew_ended (end.NoMemory no_room) text after ran = record { ends = ran.ends; others = ran.others; given = ran.given; grows = ran.out_faults }
  anew_ended end.ResultFault text after ran = record {
    ends = (ran.ends.0, anew_left text after ran.ends.1, ran.ends.2, anew_stopped text after ran.ends.3);
    others = ran.others;
    given = ran.given;
    grows = ran.out_faults;
  }
  anew_ended end.OutFault text after ran = record {
    ends = (campaign_text (begun_anew planned name text), anew_written text _ ran.ends.0, ran.ends.1);
    others = ran.others;
    given = ran.given;
    grows = ran.out_faults;
  }

-- ---- one that goes on

-- it keeps the rows of its file, and writes the report
abbrev pub going_on : BegunOf → (name : Bytes) → Campaign
going_on begun name = record { name = name; own = begun.planned.own; p = begun.planned.plan; k = begun.kept; text = Report }

module _ (law : StoppedAreTakenUp) (begun : BegunOf) (reads : Reads) (name : Bytes) (workers : ℕ) (before : Outside) (sound : IsSound reads begun.planned)
    (held : IsHeld (before.shelf.content name) reads begun) where
  abbrev p : Analysis
  p = begun.planned.plan

  abbrev bytes : Bytes
  bytes = bytes_read (reads which.Result)

  abbrev planes : ℕ → Outcome
  planes = checkpointed_or_true p begun.kept

  on_resumed : (after : Outside) → IsReported (going_on begun name) before after
      → ResumedAs (own_header reads p) (report p planes) p planes bytes name before after
  on_resumed after is =
      subst (λ own. ResumedAs own (report p planes) p planes bytes name before after) sound.own
      (record { k = begun.kept; kept_rows = held.1; reported = is.reported; first = is.first })

  on_written : (after : Outside) → IsReported (going_on begun name) before after
      → HasWritten (task.Resume workers) (Begun p begun.kept) reads name before after
  on_written after is = record {
    resumed = on_resumed after is;
    stopped = λ left.
        let long = subst (λ own. length own ≡ 89) sound.own sound.header in
        let taken = law p sound.plan (own_header reads p) bytes left.entries left.prefix.0 long left.part left.prefix.1 in
        (taken.truly begun.kept (subst (λ own. kept own p bytes ≡ Ok begun.kept) sound.own held.1)).resumed name before after (on_resumed after is);
  }

  on_left : (after : Outside) → IsTruncatedResult (going_on begun name) before.shelf after.shelf
      → (after.shelf.content name ≡ before.shelf.content name)
      ⊎ MayLeave (task.Resume workers) (Begun p begun.kept) reads (before.shelf.content name) (after.shelf.content name)
  on_left after (inl same) = inl same
  on_left after (inr left) = inr (subst (λ own. LeftPrefix own p planes (after.shelf.content name)) sound.own left.0, left.1)

  on_stopped : (after : Outside) → HasStopped (going_on begun name) before.shelf after.shelf
      → MayStop (task.Resume workers) (Begun p begun.kept) reads (after.shelf.given name) (before.shelf.changed name) (after.shelf.changed name)
  on_stopped after stopped =
      subst (λ own. StoppedRows own p planes begun.kept.whole (kept_entries begun.kept) (after.shelf.given name) (before.shelf.changed name) (after.shelf.changed name)) sound.own stopped

  pub on_ended : (how : End) (after : Outside) → HasRun how (going_on begun name) before after
      → HasEnded how (task.Resume workers) (Begun p begun.kept) reads name before after
  on_ended end.Done after ran = record { ends = on_written after ran.ends; others = ran.others; given = ran.given; grows = ran.out_faults }
  on_ended (end.NoMemory no_room) after ran = record { ends = ran.ends; others = ran.others; given = ran.given; grows = ran.out_faults }
  on_ended end.ResultFault after ran = record {
    ends = (ran.ends.0, on_left after ran.ends.1, ran.ends.2, on_stopped after ran.ends.3);
    others = ran.others;
    given = ran.given;
    grows = ran.out_faults;
  }
  on_ended end.OutFault after ran = record { ends = (campaign_text (going_on begun name), on_written _ ran.ends.0, ran.ends.1); others = ran.others; given = ran.given; grows = ran.out_faults }

-- ---- merged rows

-- rows that were merged are those of the union
union_rows : (p : Analysis) (a b : List Row) (rows : List Row) → merged p a b ≡ Ok rows → rows ≡ result_rows p (merged_entries p (map entry_of a) (map entry_of b))
unfolding merged
union_rows p a b rows is = by_first (first_other (batch_count p) (map entry_of a) (map entry_of b)) is
  where
    by_first : (o : Option ℕ) → merged_unless o p (map entry_of a) (map entry_of b) ≡ Ok rows → rows ≡ result_rows p (merged_entries p (map entry_of a) (map entry_of b))
    by_first (Some batch) e = absurd (cc)
    by_first None e = cc

-- OF MERGING
pub merged_stopped : MergesAreLawful → (own : Bytes) (p : Analysis) (first second : KeptRows) (both : List Row) → merged p first.rows second.rows ≡ Ok both
    → AreTrue p (kept_entries first) → AreTrue p (kept_entries second) → LeftPrefix own p (true_planes p) (Held (own ++ flat_map row_text both))
merged_stopped laws own p first second both is one_true two_true =
    let law = (laws p).0 in
    let entries : List Entry = merged_entries p (kept_entries first) (kept_entries second) in
    let text : Bytes = result_text own p entries in
    let same : text ≡ rows_file own both = ap (rows_file own) (sym (union_rows p first.rows second.rows both is)) in
    record {
      entries = entries;
      part = record {
        distinct = law.distinct (kept_entries first) (kept_entries second);
        have = law.have (true_planes p) (kept_entries first) (kept_entries second) one_true two_true;
      };
      prefix = subst (λ bytes. IsPrefixOf (Held bytes) text) same (length text, sym (take_all (length text) text (omega arith)));
    }

-- ---- a file of merged rows, or of rows by other rates

module _ (origin : Origin) (it : PlannedOf) (rows : List Row) (reads : Reads) (name : Bytes) (before : Outside) (sound : IsSound (reads_of origin reads) it) where
  abbrev own : Bytes
  own = own_header (reads_of origin reads) it.plan

  -- the bytes of the file that is written
  file_is : rows_file it.own rows ≡ rows_file own rows
  file_is = ap (λ header. rows_file header rows) sound.own

  pub file_written : (after : Outside) → HasIfKnown (after.shelf.content name) (rows_file it.own rows)
      → Wrote before.out after.out (line_by origin (length rows) (batch_count it.plan))
      → WritesOn 0 (rows_file it.own rows) (after.shelf.given name) (before.shelf.changed name) (after.shelf.changed name)
      → HasWritten (task_by origin) (made_of origin it.plan rows) reads name before after
  file_written after has wrote written = by_origin origin (
    subst (HasIfKnown (after.shelf.content name)) file_is has,
    wrote,
    subst (λ text. WritesOn 0 text (after.shelf.given name) (before.shelf.changed name) (after.shelf.changed name)) file_is written,
  )
    where
      by_origin : (o : Origin)
          → HasIfKnown (after.shelf.content name) (rows_file (own_header (reads_of o reads) it.plan) rows)
          × Wrote before.out after.out (line_by o (length rows) (batch_count it.plan))
          × WritesOn 0 (rows_file (own_header (reads_of o reads) it.plan) rows) (after.shelf.given name) (before.shelf.changed name) (after.shelf.changed name)
          → HasWritten (task_by o) (made_of o it.plan rows) reads name before after
      by_origin ByMerge is = is
      by_origin ByReweigh is = is

  pub file_stopped : (after : Outside) → StopsOn 0 (rows_file it.own rows) (after.shelf.given name) (before.shelf.changed name) (after.shelf.changed name)
      → MayStop (task_by origin) (made_of origin it.plan rows) reads (after.shelf.given name) (before.shelf.changed name) (after.shelf.changed name)
  file_stopped after stopped =
      by_origin origin (subst (λ text. StopsOn 0 text (after.shelf.given name) (before.shelf.changed name) (after.shelf.changed name)) file_is stopped)
    where
      by_origin : (o : Origin)
          → StopsOn 0 (rows_file (own_header (reads_of o reads) it.plan) rows) (after.shelf.given name) (before.shelf.changed name) (after.shelf.changed name)
          → MayStop (task_by o) (made_of o it.plan rows) reads (after.shelf.given name) (before.shelf.changed name) (after.shelf.changed name)
      by_origin ByMerge is = is
      by_origin ByReweigh is = is

  pub file_left : (after : Outside)
      → (after.shelf.content name ≡ before.shelf.content name) ⊎ IsPrefixOf (after.shelf.content name) (rows_file it.own rows)
      → (after.shelf.content name ≡ before.shelf.content name)
      ⊎ MayLeave (task_by origin) (made_of origin it.plan rows) reads (before.shelf.content name) (after.shelf.content name)
  file_left after (inl same) = inl same
  file_left after (inr prefix) = inr (by_origin origin (subst (IsPrefixOf (after.shelf.content name)) file_is prefix))
    where
      by_origin : (o : Origin) → IsPrefixOf (after.shelf.content name) (rows_file (own_header (reads_of o reads) it.plan) rows)
          → MayLeave (task_by o) (made_of o it.plan rows) reads (before.shelf.content name) (after.shelf.content name)
      by_origin ByMerge is = is
      by_origin ByReweigh is = is
