-- `always` has done what it promises, and what follows for every workload.
use Rattle.std.proofs.Common.{◌≡◌, ◌≤◌, ◌∙◌, ℕ, List, refl, sym, subst, Ok, Err, inl, inr}
use Rattle.std.specs.Prelude.{◌⊎◌, Option, Some, None, Result, MatchOption, MatchResult, slice_index}
use Rattle.fm_base.specs.Names.{Bytes}
use Rattle.fm_shelf.specs.Content.{Content, Unknown}
use Rattle.fm_shelf.specs.Outside.{Outside, outside}
use Rattle.fm_shelf.specs.Shelf.{IsUnchanged, KeepsOthers, ShelfState}
use Rattle.fm_shelf.specs.Sink.{SinkState, WroteOrFailed, Wrote, WrotePrefix}
use Rattle.circuit.specs.Circuit.{Circuit}
use Rattle.circuit.specs.Loop.{HasNoLoop}
use Rattle.circuit.specs.declared.parts.NetId.{NetId}
use Rattle.campaign_plan.specs.Analysis.{Analysis}
use Rattle.campaign_plan.specs.declared.Settings.{Settings}
use Rattle.workload.specs.declared.run.Run.{Run}
use Rattle.coverage_claim.specs.declared.parts.Held.{Held}
use Rattle.always_answers.specs.declared.answers.Answers.{Answers as AnswersOf}
use Rattle.claim_search.specs.Hypotheses.{Contradict}
use Rattle.claim_search.specs.declared.hypotheses.Contradiction.{Contradiction}
use Rattle.claim_search.specs.declared.hypotheses.Contradiction.TheVariants as contradiction
use Rattle.always.specs.Asked.{AreRightOf, net_parts, terms_of_plan}
use Rattle.always.specs.Laws.{AreTermsFor, HoldsSpfm, PrintedLaterSpfmHolds, PrintedSpfmHolds, TextIsOfNoRuns, claim_of, with_runs}
use Rattle.always.specs.Text.{always_text}
use Rattle.always.specs.Verdict.{Terms}
use Rattle.commands.specs.declared.command.Kind.TheVariants as kind
use Rattle.commands.specs.declared.command.Task.{Task}
use Rattle.commands.specs.declared.command.Task.TheVariants as task
use Rattle.commands.specs.declared.command.Which.{Which}
use Rattle.commands.specs.declared.command.Which.TheVariants as which
use Rattle.commands.specs.Commands.{Command, kind_of}
use Rattle.refusals.specs.declared.refused.Refused.{Refused}
use Rattle.refusals.specs.declared.refused.Refused.TheVariants.{By, Looped}
use Rattle.refusals.specs.declared.status.Status.{Status}
use Rattle.refusals.specs.declared.status.Status.TheVariants as status
use Rattle.refusals.specs.RefusalLines.{refusal_line}
use Rattle.refusals.specs.Refusals.{IsSaidOf}
use Rattle.refusals.specs.WantOfMemory.{IsMemory}
use Rattle.command_reads.specs.Files.{Reads, WereRead, known_by}
use Rattle.command_reads.specs.FirstRefusal.{Judged, Supposed}
use Rattle.fmeda_top.specs.TaskRefusals.{judged, task_refusal}
use Rattle.fmeda_top.specs.Ends.{HasAnswered, HasWritten, IsDoneOrFailed, IsSimulated, PrintsAs, RefusedAs, WritesAs, asked_of, text_of}
use Rattle.fmeda_top.specs.Ends.WritesAs.{All}
use Rattle.fmeda_top.specs.Doing.{AnswersAs, DoesAs, DoesItsTask, HasRefused, PrintedAs}
use Rattle.fmeda_top.specs.Laws.{AlwaysHolds, HoldsForAllRuns, circuit_in}
use Rattle.fmeda_top.proofs.Causing.{answered}
use Rattle.fmeda_top.proofs.Ending.{memory_said}
use Rattle.fmeda_top.proofs.Judging.{IsOfFiles, Meets, judged_files, judged_meets, none_asked}

-- the line of a contradiction names no net
line_same : (names : Which → Bytes) (c d : Circuit) (why : Contradiction)
    → refusal_line names c (status.Contradiction why) ≡ refusal_line names d (status.Contradiction why)
unfolding refusal_line
line_same names c d contradiction.Held = refl
line_same names c d contradiction.Alarms = refl

-- ---- what `always` has done

module _ (names : Which → Bytes) (set : Settings) (window : Option ℕ) (ahead : ℕ) (p : Analysis) (held : List Held) (reads : Reads)
    (shelf : ShelfState) (out mid now : SinkState) (ended : Status) where
  abbrev command : Command
  command = record { files = names; settings = set; task = task.Always window ahead }

  abbrev terms : Terms
  terms = terms_of_plan p held window ahead

  abbrev before : Outside
  before = outside shelf out

  abbrev after : Outside
  after = outside shelf now

  abbrev Tells : Result Status Refused → Type 0
  Tells told = AnswersAs (task.Always window ahead) p terms (Supposed p held) out mid told

  -- what it does, where it refuses so
  abbrev DoesUnless : Option Status → Type 0
  DoesUnless refusal =
      MatchOption refusal (HasAnswered names p terms ended before after)
      (λ why. (ended ≡ why) × HasRefused names (known_by (reads which.Netlist)) why before after)

  unchanged : IsUnchanged shelf shelf
  unchanged = record { content = refl; changed = refl }

  does_answer : (how : Status) → Tells (Ok how) → PrintedAs (Ok how) ended mid now names → DoesItsTask command (Supposed p held) reads ended before after
  does_answer how (free, fit, grows, (answers, right, sent)) (same, kept) =
      inl (subst DoesUnless (sym free) (fit, inl (answers, right, (unchanged, by_sent (always_text p terms answers) sent))))
    where
      by_sent : (text : Bytes) → ((how ≡ status.Done) × Wrote out mid text) ⊎ ((how ≡ status.OutFault) × WrotePrefix out mid text)
          → ((ended ≡ status.Done) × Wrote out now text) ⊎ ((ended ≡ status.OutFault) × WrotePrefix out now text)
      by_sent text (inl (done, wrote)) = inl (rw same done, rw kept wrote)
      by_sent text (inr (torn, wrote)) = inr (rw same torn, rw kept wrote)

  does_refuse : (why : Status) → Tells (Err (By why)) → PrintedAs (Err (By why)) ended mid now names → DoesItsTask command (Supposed p held) reads ended before after
  does_refuse why (cause, plain, kept) (is, line) = by_cause cause
    where
      said : (held : Content) → IsSaidOf held out now names why
      said held = subst (λ s. IsSaidOf held s now names why) kept (line held plain)

      of_contradiction : (what : Contradiction) → why ≡ status.Contradiction what → RefusedAs (refusal_line names p.circuit (status.Contradiction what)) before after
      of_contradiction what told =
          let own = subst (IsSaidOf Unknown out now names) told (said Unknown) in
          (unchanged, subst (WroteOrFailed out now) (line_same names own.0 p.circuit what) own.2.0)

      by_cause : IsMemory why ⊎ ((task_refusal (task.Always window ahead) (Supposed p held) ≡ Some why)
          ⊎ ((task_refusal (task.Always window ahead) (Supposed p held) ≡ None) × AreTermsFor p terms
          × ((what : Contradiction) × Contradict (claim_of p terms) what × (why ≡ status.Contradiction what))))
          → DoesItsTask command (Supposed p held) reads ended before after
      by_cause (inl memory) = inr (memory_said ended why names Unknown before after (subst IsMemory (sym is) memory) memory unchanged (said Unknown))
      by_cause (inr (inl refusal)) = inl (subst DoesUnless (sym refusal) (is, record { files = unchanged; said = said (known_by (reads which.Netlist)) }))
      by_cause (inr (inr (free, fit, (what, false, told)))) =
          inl (subst DoesUnless (sym free) (fit, inr (what, false, is ∙ told, of_contradiction what told)))

  pub answered_does : (told : Result Status Refused) → Tells told → PrintedAs told ended mid now names → DoesAs command (Supposed p held) reads ended before after
  answered_does (Ok how) tells printed =
      (does_answer how tells printed, subst (λ (s : SinkState). out.faults ≤ s.faults) (sym printed.1) tells.2, refl)
  answered_does (Err (By why)) tells printed =
      (does_refuse why tells printed, subst (λ (s : SinkState). s.faults ≤ now.faults) tells.2 (printed.1 Unknown tells.1).2.1, refl)
  answered_does (Err (Looped walk net)) tells printed = absurd tells

-- ---- what follows for every workload

-- a file that was written whole
written_whole : (own : Task) (made : Judged) (reads : Reads) (name : Bytes) (start finish : Outside) → WritesAs own made reads name start finish status.Done
    → HasWritten own made reads name start finish
written_whole own made reads name start finish (All is) = is

module _ (spfm : PrintedSpfmHolds) (later : PrintedLaterSpfmHolds) (same_text : TextIsOfNoRuns) where
  -- what is asked of a plan fits it with other runs
  fit_again : (p : Analysis) (asked : Terms) (runs : List Run) → AreTermsFor p asked → AreTermsFor (with_runs p runs) asked
  fit_again p asked runs fit =
      record { netlist = fit.netlist; order = fit.order; ordered = fit.ordered; nets = fit.nets; settled = fit.settled; fits = fit.fits }

  for_all_runs : (p : Analysis) (terms : Terms) (answers : AnswersOf) → AreTermsFor p terms → AreRightOf p terms answers
      → HoldsForAllRuns p terms (always_text p terms answers)
  for_all_runs p terms answers fit right = record {
    answers = answers;
    is = refl;
    spfm = λ runs supposed ends. subst (HoldsSpfm (with_runs p runs) 0) (same_text p runs terms answers)
        (spfm (with_runs p runs) terms (slice_index (net_parts p)) answers (fit_again p terms runs fit) right supposed ends);
    later = λ runs supposed ends starts. subst (HoldsSpfm (with_runs p runs) terms.from) (same_text p runs terms answers)
        (later (with_runs p runs) terms (slice_index (net_parts p)) answers (fit_again p terms runs fit) right supposed ends starts);
  }

  module _ (own : Command) (window : Option ℕ) (ahead : ℕ) (before after : Outside) (is : own.task ≡ task.Always window ahead) (reads : Reads)
      (read : WereRead before.shelf after.shelf own.files reads (kind_of own.task)) (walk : Option (List NetId)) where
    -- what is told of the plan that was judged
    abbrev Holds : Type 0
    Holds = (reads : Reads) × WereRead before.shelf after.shelf own.files reads kind.Supposed
        × ((walk : Option (List NetId)) × (p : Analysis) × (held : List Held) × (judged walk own reads ≡ Ok (Supposed p held))
        × ((text : Bytes) × Wrote before.out after.out text × HoldsForAllRuns p (terms_of_plan p held window ahead) text))

    -- what a task has done
    abbrev HasDone : Judged → Task → Type 0
    HasDone made t =
        MatchOption (asked_of t made)
        (MatchOption (text_of t made)
        (KeepsOthers before.shelf after.shelf (own.files which.Result) × WritesAs t made reads (own.files which.Result) before after status.Done)
        (λ text. PrintsAs text status.Done before after × IsSimulated t))
        (λ asked. HasAnswered own.files asked.0 asked.1 status.Done before after)

    by_answer : (p : Analysis) (held : List Held) → judged walk own reads ≡ Ok (Supposed p held)
        → HasAnswered own.files p (terms_of_plan p held window ahead) status.Done before after → Holds
    by_answer p held e (fit, inl (answers, right, (keeps, inl (done, wrote)))) = (
      reads,
      subst (λ t. WereRead before.shelf after.shelf own.files reads (kind_of t)) is read,
      (walk, p, held, e, (always_text p (terms_of_plan p held window ahead) answers, wrote, for_all_runs p (terms_of_plan p held window ahead) answers fit right)),
    )
    by_answer p held e (fit, inl (answers, right, (keeps, inr (torn, wrote)))) = absurd (cc)
    by_answer p held e (fit, inr (why, false, told, said)) = absurd (cc)

    by_made : (made : Judged) → judged walk own reads ≡ Ok made → HasDone made (task.Always window ahead) → Holds
    by_made (Supposed p held) e done = by_answer p held e done
    by_made made e (others, writes) = absurd (written_whole (task.Always window ahead) made reads (own.files which.Result) before after writes)

    by_judged : (c : Circuit) (r : Result Judged Status) → judged walk own reads ≡ r
        → MatchResult r (λ made. IsDoneOrFailed own made reads status.Done before after)
        (λ why. (status.Done ≡ why) × RefusedAs (refusal_line own.files c why) before after)
        → Meets (λ file. Unit {0}) r (λ made. HasNoLoop (circuit_in made)) → Holds
    by_judged c (Ok made) e done meets = by_made made e (subst (HasDone made) is done)
    by_judged c (Err why) e (same, said) meets = absurd (subst (IsOfFiles (λ file. Unit {0})) (sym same) meets)

  pub always_holds : AlwaysHolds
  always_holds own window ahead before after is (reads, read, (c, walk, loops, ends)) =
      by_judged own window ahead before after is reads read walk c (judged walk own reads) refl ends
      (judged_meets (λ file. Unit {0}) walk own reads (answered (own.files which.Netlist) reads c walk loops) (none_asked reads (judged_files (kind_of own.task))))
