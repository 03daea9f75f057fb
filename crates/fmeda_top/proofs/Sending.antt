-- What is promised of a call holds also where more writes have failed since.
use Rattle.std.proofs.Common.{ℕ, List, [], ◌++◌, ◌≡◌, ◌≤◌, ◌∙◌, ap, refl, sym, subst, take, inl, inr, arith}
use Rattle.std.proofs.lemmas.List.{append-nil}
use Rattle.std.specs.Prelude.{◌<◌, Option, Some, None, MatchOption, MatchResult, Result, Ok, Err, IfOk, OnErr, codes}
use Rattle.fm_base.specs.Names.{Bytes}
use Rattle.fm_shelf.specs.declared.shelf.Failed.{Failed}
use Rattle.fm_shelf.specs.Shelf.{CountRose, ShelfState}
use Rattle.fm_shelf.specs.Sink.{SinkState, WroteOrFailed, WrotePrefix, with_more}
use Rattle.fm_shelf.specs.Outside.{Outside, outside}
use Rattle.fm_shelf.proofs.Sends.{with_more-append}
use Rattle.campaign_plan.specs.declared.Outcome.{Outcome}
use Rattle.campaign_plan.specs.Analysis.{Analysis}
use Rattle.campaign_run.specs.Reported.{HasReported, ResumedAs}
use Rattle.always.specs.Text.{always_text}
use Rattle.always.specs.Verdict.{Terms}
use Rattle.commands.specs.declared.command.Task.{Task}
use Rattle.commands.specs.declared.command.Task.TheVariants as task
use Rattle.commands.specs.declared.command.Which.{Which}
use Rattle.commands.specs.declared.command.Which.TheVariants as which
use Rattle.commands.specs.Commands.{Command}
use Rattle.refusals.specs.declared.status.Status.{Status}
use Rattle.refusals.specs.RefusalLines.{refusal_line}
use Rattle.command_reads.specs.Files.{Reads}
use Rattle.command_reads.specs.FirstRefusal.{Judged, Planned, Begun, Merged, Reweighed}
use Rattle.fmeda_top.specs.TaskRefusals.{judged}
use Rattle.campaign_run.specs.Outside.{KeepsOthers}
use Rattle.fmeda_top.specs.Ends.{HasAnswered, HasWritten, IsDoneOrFailed, IsSimulated, PrintsAs, RefusedAs, WritesAs, asked_of, text_of}
use Rattle.fmeda_top.specs.Ends.WritesAs.{All, OutFailed, ResultFailed}
use Rattle.fmeda_top.specs.Promises.{CommandEnds, Promises}
use Rattle.fmeda_top.specs.Program.{ExitsWith, ProgramEnds, SendsOn, SendsRest}

-- as many bytes are known to have gone out, and no fewer writes have failed
module _ (before : Outside) (shelf : ShelfState) (written : Option Bytes) (low high : ℕ) (grows : low ≤ high) where
  abbrev early : Outside
  early = outside shelf (record { written = written; faults = low })

  abbrev late : Outside
  late = outside shelf (record { written = written; faults = high })

  rose_later : CountRose before.out.faults low → CountRose before.out.faults high
  rose_later rose = λ below. let first : before.out.faults < low = rose (omega (arith, below, grows)) in omega (arith, first, grows)

  prefix_later : (text : Bytes) → WrotePrefix before.out early.out text → WrotePrefix before.out late.out text
  prefix_later text (rose, went) = (rose_later rose, went)

  line_later : (text : Bytes) → WroteOrFailed before.out early.out text → WroteOrFailed before.out late.out text
  line_later text (inl wrote) = inl wrote
  line_later text (inr torn) = inr (prefix_later text torn)

  refused_later : (said : Bytes) → RefusedAs said before early → RefusedAs said before late
  refused_later said (files, went) = (files, line_later said went)

  prints_later : (text : Bytes) (ended : Status) → PrintsAs text ended before early → PrintsAs text ended before late
  prints_later text ended (files, inl done) = (files, inl done)
  prints_later text ended (files, inr (is, torn)) = (files, inr (is, prefix_later text torn))

  answered_later : (files : Which → Bytes) (p : Analysis) (terms : Terms) (ended : Status) → HasAnswered files p terms ended before early → HasAnswered files p terms ended before late
  answered_later files p terms ended (fit, inl (answers, right, printed)) = (fit, inl (answers, right, prints_later (always_text p terms answers) ended printed))
  answered_later files p terms ended (fit, inr (why, holds, is, said)) = (fit, inr (why, holds, is, refused_later _ said))

  abbrev reported_later : (own text : Bytes) (p : Analysis) (planes : ℕ → Outcome) (kept_bytes : ℕ) (name : Bytes) → HasReported own text p planes kept_bytes name before early
      → HasReported own text p planes kept_bytes name before late
  reported_later own text p planes kept_bytes name is =
      record { wrote = is.wrote; entries = is.entries; whole = is.whole; result = is.result; written = is.written }

  resumed_later : (own text : Bytes) (p : Analysis) (planes : ℕ → Outcome) (bytes name : Bytes) → ResumedAs own text p planes bytes name before early
      → ResumedAs own text p planes bytes name before late
  resumed_later own text p planes bytes name is =
      record { k = is.k; kept_rows = is.kept_rows; reported = reported_later own text p planes is.k.whole name is.reported; first = is.first }

  written_later : (own : Task) (made : Judged) (reads : Reads) (name : Bytes) → HasWritten own made reads name before early → HasWritten own made reads name before late
  written_later (task.Run workers) (Planned p) reads name is = reported_later _ _ p _ 0 name is
  written_later (task.Gen stages workers) (Planned p) reads name is = reported_later _ _ p _ 0 name is
  written_later (task.Resume workers) (Begun p k) reads name is = record {
    resumed = resumed_later _ _ p _ _ name is.resumed;
    stopped = λ left. resumed_later _ _ p _ _ name (is.stopped left);
  }
  written_later (task.Shard part parts) (Planned p) reads name is = is
  written_later task.Merge (Merged p both) reads name is = is
  written_later task.Reweigh (Reweighed p rows) reads name is = is
  written_later _ _ reads name is = absurd is

-- what a call has written, where so many bytes are known to have gone out
module _ (before : Outside) (shelf : ShelfState) (written : Option Bytes) (low high : ℕ) (grows : low ≤ high) where
  abbrev sooner : Outside
  sooner = outside shelf (record { written = written; faults = low })

  abbrev later : Outside
  later = outside shelf (record { written = written; faults = high })

  writes_later : (own : Task) (made : Judged) (reads : Reads) (name : Bytes) {ended : Status} → WritesAs own made reads name before sooner ended
      → WritesAs own made reads name before later ended
  writes_later own made reads name (All is) = All (written_later before shelf written low high grows own made reads name is)
  writes_later own made reads name (OutFailed text torn is) =
      OutFailed text (prefix_later before shelf written low high grows text torn)
      (written_later before shelf (with_more before.out.written text) low high grows own made reads name is)
  writes_later own made reads name (ResultFailed rose left stops said) = ResultFailed rose left stops (line_later before shelf written low high grows _ said)

  done_later : (command : Command) (made : Judged) (reads : Reads) (ended : Status) → IsDoneOrFailed command made reads ended before sooner
      → IsDoneOrFailed command made reads ended before later
  done_later command made reads ended is = by_asked (asked_of command.task made) is
    where
      by_text : (text : Option Bytes)
          → MatchOption text (KeepsOthers before.shelf shelf (command.files which.Result) × WritesAs command.task made reads (command.files which.Result) before sooner ended)
          (λ text. PrintsAs text ended before sooner × IsSimulated command.task)
          → MatchOption text (KeepsOthers before.shelf shelf (command.files which.Result) × WritesAs command.task made reads (command.files which.Result) before later ended)
          (λ text. PrintsAs text ended before later × IsSimulated command.task)
      by_text None (others, writes) = (others, writes_later command.task made reads (command.files which.Result) writes)
      by_text (Some text) (printed, by) = (prints_later before shelf written low high grows text ended printed, by)

      by_asked : (asked : Option (Analysis × Terms))
          → MatchOption asked (MatchOption (text_of command.task made) (KeepsOthers before.shelf shelf (command.files which.Result)
          × WritesAs command.task made reads (command.files which.Result) before sooner ended) (λ text. PrintsAs text ended before sooner × IsSimulated command.task))
          (λ asked. HasAnswered command.files asked.0 asked.1 ended before sooner)
          → MatchOption asked (MatchOption (text_of command.task made) (KeepsOthers before.shelf shelf (command.files which.Result)
          × WritesAs command.task made reads (command.files which.Result) before later ended) (λ text. PrintsAs text ended before later × IsSimulated command.task))
          (λ asked. HasAnswered command.files asked.0 asked.1 ended before later)
      by_asked None told = by_text (text_of command.task made) told
      by_asked (Some asked) told = answered_later before shelf written low high grows command.files asked.0 asked.1 ended told

  command_later : (command : Command) (ended : Status) → CommandEnds command ended before sooner → CommandEnds command ended before later
  command_later command ended (reads, read, (c, walk, loops, ends)) = (reads, read, (c, walk, loops, by_first (judged walk command reads) ends))
    where
      by_first : (first : Result Judged Status)
          → MatchResult first (λ made. IsDoneOrFailed command made reads ended before sooner)
          (λ why. (ended ≡ why) × RefusedAs (refusal_line command.files c why) before sooner)
          → MatchResult first (λ made. IsDoneOrFailed command made reads ended before later)
          (λ why. (ended ≡ why) × RefusedAs (refusal_line command.files c why) before later)
      by_first (Ok made) is = done_later command made reads ended is
      by_first (Err why) (same, refused) =
          (same, refused_later before shelf written low high grows (refusal_line command.files c why) refused)

  promises_later : (words : List Bytes) (ended : Status) → Promises words ended before sooner → Promises words ended before later
  promises_later words ended (inl (command, is, alone, ends)) = inl (command, is, alone, command_later command ended ends)
  promises_later words ended (inr (inl (none, usage, refused))) =
      inr (inl (none, usage, refused_later before shelf written low high grows (codes "refused: usage\n") refused))
  promises_later words ended (inr (inr (memory, was, refused))) =
      inr (inr (memory, was, refused_later before shelf written low high grows (codes "refused: out of memory\n") refused))

-- a page in front of a sink, in which this waits
abbrev page_of : SinkState → List ℕ → SinkState
page_of sink waits = record { written = with_more sink.written waits; faults = sink.faults }

nothing_more : (written : Option Bytes) → with_more written [] ≡ written
nothing_more None = refl
nothing_more (Some bytes) = ap Some (append-nil bytes)

-- nothing waits in a page that was just made
pub page_begins : (out sink : SinkState) (waits : List ℕ) → sink ≡ out → waits ≡ [] → page_of sink waits ≡ out
page_begins out sink waits same none =
    ap (λ (s : SinkState). page_of s waits) same ∙ ap (page_of out) none
    ∙ ap (λ (written : Option Bytes). let s : SinkState = record { written = written; faults = out.faults } in s) (nothing_more out.written)

-- what a call has told as written was sent, or a rest of it wasn't; what had gone out before stands
pub program_ends : (words : List Bytes) (ended : Status) (code : ℕ) (before : Outside) (shelf : ShelfState) (told after : SinkState)
    → Promises words ended before (outside shelf told) → told.faults ≤ after.faults → SendsOn before.out.written after.written
    → SendsRest ended code before.out.faults told.written after → ProgramEnds words code before (outside shelf after)
program_ends words ended code before shelf told after promised grows on sends = (ended, by_sends sends)
  where
    kept : (written : Option Bytes) → written ≡ told.written → Promises words ended before (outside shelf (record { written = written; faults = after.faults }))
    kept written is =
        subst (λ w. Promises words ended before (outside shelf (record { written = w; faults = after.faults }))) (sym is)
        (promises_later before shelf told.written told.faults after.faults grows words ended promised)

    by_sends : SendsRest ended code before.out.faults told.written after → ExitsWith code words ended before (outside shelf after)
    by_sends (inl (same, all)) = inl (same, kept after.written all)
    by_sends (inr (same, rose, (rest, is))) = inr (same, rose, on, (rest, kept (with_more after.written rest) is))

-- a write sends on
pub sends_on : (earlier before now : Option Bytes) (piece : Bytes) (result : Result ℕ Failed) → SendsOn earlier before
    → IfOk result (λ n. now ≡ with_more before (take n piece)) → OnErr result (now ≡ before) → SendsOn earlier now
sends_on earlier before now piece (Ok n) (sent, is) wrote none =
    (sent ++ take n piece, wrote ∙ ap (λ w. with_more w (take n piece)) is ∙ with_more-append earlier sent (take n piece))
sends_on earlier before now piece (Err e) (sent, is) wrote none = (sent, none ∙ is)
