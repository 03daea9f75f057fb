-- A task that prints has done what it promises.
use Rattle.std.proofs.Common.{◌≡◌, ◌≤◌, refl, sym, subst, Ok, Err, inl, inr}
use Rattle.std.specs.Prelude.{◌⊎◌, Option, Some, None, Result, MatchOption}
use Rattle.std.proofs.lemmas.Option.{none-some}
use Rattle.fm_base.specs.Names.{Bytes}
use Rattle.fm_shelf.specs.Content.{Content, Unknown}
use Rattle.fm_shelf.specs.Outside.{Outside, outside}
use Rattle.fm_shelf.specs.Shelf.{IsUnchanged, ShelfState}
use Rattle.fm_shelf.specs.Sink.{SinkState, Wrote, WrotePrefix}
use Rattle.campaign_run.specs.Outside.{KeepsOthers}
use Rattle.campaign_plan.specs.Analysis.{Analysis}
use Rattle.always.specs.Verdict.{Terms}
use Rattle.commands.specs.declared.command.Task.{Task}
use Rattle.commands.specs.declared.command.Task.TheVariants as task
use Rattle.commands.specs.declared.command.Which.TheVariants as which
use Rattle.commands.specs.Commands.{Command}
use Rattle.refusals.specs.declared.refused.Refused.{Refused}
use Rattle.refusals.specs.declared.refused.Refused.TheVariants.{By, Looped}
use Rattle.refusals.specs.declared.status.Status.{Status}
use Rattle.refusals.specs.declared.status.Status.TheVariants as status
use Rattle.refusals.specs.Refusals.{IsSaidOf}
use Rattle.refusals.specs.WantOfMemory.{IsMemory}
use Rattle.command_reads.specs.Files.{Reads, known_by}
use Rattle.command_reads.specs.FirstRefusal.{Judged}
use Rattle.fmeda_top.specs.TaskRefusals.{task_refusal}
use Rattle.fmeda_top.specs.Ends.{HasAnswered, IsDoneOrFailed, IsSimulated, PrintsAs, WritesAs, asked_of, text_of}
use Rattle.fmeda_top.specs.Doing.{DoesAs, DoesItsTask, HasRefused, PrintedAs, TellsAs}
use Rattle.fmeda_top.proofs.Ending.{memory_said}

-- a task that has a text of its own asks nothing
asks_nothing : (own : Task) (made : Judged) (text : Bytes) → text_of own made ≡ Some text → asked_of own made ≡ None
asks_nothing (task.Always window ahead) made text is = absurd (none-some text is)
asks_nothing _ made text is = refl

module _ (command : Command) (made : Judged) (reads : Reads) (shelf : ShelfState) (out mid now : SinkState) (ended : Status) where
  abbrev before : Outside
  before = outside shelf out

  abbrev after : Outside
  after = outside shelf now

  -- what it does, where it refuses so
  abbrev DoesUnless : Option Status → Type 0
  DoesUnless refusal =
      MatchOption refusal (IsDoneOrFailed command made reads ended before after)
      (λ why. (ended ≡ why) × HasRefused command.files (known_by (reads which.Netlist)) why before after)

  -- what it has done, where its text is so
  abbrev HasTold : Option Bytes → Type 0
  HasTold text =
      let name : Bytes = command.files which.Result in
      MatchOption text (KeepsOthers before.shelf after.shelf name × WritesAs command.task made reads name before after ended)
      (λ t. PrintsAs t ended before after × IsSimulated command.task)

  -- what it has done, where it asks so
  abbrev HasDone : Option (Analysis × Terms) → Type 0
  HasDone asked = MatchOption asked (HasTold (text_of command.task made)) (λ asked. HasAnswered command.files asked.0 asked.1 ended before after)

  unchanged : IsUnchanged shelf shelf
  unchanged = record { content = refl; changed = refl }

  -- a text went out, or a prefix of it, and nothing else
  does_print : (how : Status) → TellsAs command.task made out mid (Ok how) → PrintedAs (Ok how) ended mid now command.files
      → DoesItsTask command made reads ended before after
  does_print how (free, grows, (text, is, sent), by) (same, kept) =
      inl (subst DoesUnless (sym free) (subst HasDone (sym (asks_nothing command.task made text is)) (subst HasTold (sym is) ((unchanged, by_sent sent), by))))
    where
      by_sent : ((how ≡ status.Done) × Wrote out mid text) ⊎ ((how ≡ status.OutFault) × WrotePrefix out mid text)
          → ((ended ≡ status.Done) × Wrote out now text) ⊎ ((ended ≡ status.OutFault) × WrotePrefix out now text)
      by_sent (inl (done, wrote)) = inl (rw same done, rw kept wrote)
      by_sent (inr (torn, wrote)) = inr (rw same torn, rw kept wrote)

  -- it was refused, with its line
  does_refuse : (why : Status) → TellsAs command.task made out mid (Err (By why)) → PrintedAs (Err (By why)) ended mid now command.files
      → DoesItsTask command made reads ended before after
  does_refuse why (cause, plain, kept) (is, line) = by_cause cause
    where
      said : (held : Content) → IsSaidOf held out now command.files why
      said held = subst (λ s. IsSaidOf held s now command.files why) kept (line held plain)

      by_cause : IsMemory why ⊎ (task_refusal command.task made ≡ Some why) → DoesItsTask command made reads ended before after
      by_cause (inl memory) = inr (memory_said ended why command.files Unknown before after (subst IsMemory (sym is) memory) memory unchanged (said Unknown))
      by_cause (inr refusal) = inl (subst DoesUnless (sym refusal) (is, record { files = unchanged; said = said (known_by (reads which.Netlist)) }))

  -- A TASK THAT PRINTS has done what it promises, where it told its text or the line of its refusal
  pub printed_does : (told : Result Status Refused) → TellsAs command.task made out mid told → PrintedAs told ended mid now command.files
      → DoesAs command made reads ended before after
  printed_does (Ok how) tells printed =
      (does_print how tells printed, subst (λ (s : SinkState). out.faults ≤ s.faults) (sym printed.1) tells.1, refl)
  printed_does (Err (By why)) tells printed =
      (does_refuse why tells printed, subst (λ (s : SinkState). s.faults ≤ now.faults) tells.2 (printed.1 Unknown tells.1).2.1, refl)
  printed_does (Err (Looped walk net)) tells printed = absurd tells
