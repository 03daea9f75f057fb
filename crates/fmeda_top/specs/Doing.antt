-- Shapes of private steps: what a command does of what its files stand for. Nothing public cites them.
use Rattle.std.specs.Prelude.{◌≡◌, ◌≤◌, ◌⊎◌, ℕ, ◌∷◌, [], Some, None, option_map, MatchOption, Result, Ok, Err, codes}
use Rattle.fm_base.specs.Names.{Bytes}
use Rattle.fm_base.specs.Text.{line}
use Rattle.fm_shelf.specs.Content.{Content, HasIfKnown}
use Rattle.fm_shelf.specs.Shelf.{CountRose, IsUnchanged, ShelfState}
use Rattle.fm_shelf.specs.Sink.{SinkState, Wrote, WrotePrefix}
use Rattle.fm_shelf.specs.Outside.{Outside}
use Rattle.campaign_plan.specs.Analysis.{Analysis}
use Rattle.result_file.specs.declared.KeptRows.{KeptRows}
use Rattle.result_file.specs.KeptRows.{kept}
use Rattle.result_file.specs.RowPlanes.{planes_in}
use Rattle.pair_list.specs.Chosen.{Chosen, chosen, pair_refusal}
use Rattle.campaign_run.specs.declared.run.Text.{Text}
use Rattle.campaign_run.specs.declared.run.Text.TheVariants.{Report, Summary}
use Rattle.campaign_run.specs.declared.run.End.{End}
use Rattle.campaign_run.specs.declared.run.End.TheVariants as end
use Rattle.campaign_run.specs.Outside.{KeepsOthers, had_written}
use Rattle.commands.specs.declared.command.Task.{Task}
use Rattle.commands.specs.declared.command.Task.TheVariants as task
use Rattle.commands.specs.declared.command.Which.{Which}
use Rattle.commands.specs.declared.command.Which.TheVariants as which
use Rattle.commands.specs.Commands.{Command, kind_of}
use Rattle.refusals.specs.declared.refused.Refused.{Refused}
use Rattle.refusals.specs.declared.refused.Refused.TheVariants.{By, Looped}
use Rattle.refusals.specs.declared.status.Status.{Status}
use Rattle.refusals.specs.declared.status.Status.TheVariants as status
use Rattle.refusals.specs.Said.{IsSaid}
use Rattle.refusals.specs.Refusals.{HasItsNets, IsPlain, IsSaidOf, status_of}
use Rattle.refusals.specs.WantOfMemory.{IsMemory}
use Rattle.room.specs.declared.edge.NoRoom.{NoRoom}
use Rattle.command_reads.specs.declared.begun.Begun.{Begun as BegunOf}
use Rattle.command_reads.specs.declared.judge.Judged.{Judged as Made}
use Rattle.command_reads.specs.declared.judge.Judged.TheVariants as made
use Rattle.command_reads.specs.Files.{Reads, WereRead, bytes_of as bytes_read, known_by}
use Rattle.command_reads.specs.FirstRefusal.{Judged}
use Rattle.row_audit.specs.Audited.{first_false}
use Rattle.always_answers.specs.declared.answers.Answers.{Answers}
use Rattle.claim_search.specs.Hypotheses.{Contradict}
use Rattle.claim_search.specs.declared.hypotheses.Contradiction.{Contradiction}
use Rattle.always.specs.Asked.{AreRightOf}
use Rattle.always.specs.Laws.{AreTermsFor, claim_of}
use Rattle.always.specs.Text.{always_text}
use Rattle.always.specs.Verdict.{Terms}
use Rattle.fm_base.specs.declared.Refusal.{Refusal}
use Rattle.fm_base.specs.declared.Refusal.TheVariants.{Fault, Memory}
use Rattle.fm_shelf.specs.declared.shelf.Failed.{Failed}
use Rattle.fmeda_top.specs.TaskRefusals.{task_refusal}
use Rattle.command_reads.specs.Judging.{AreSound, IsOfKind, JudgesAs}
use Rattle.fmeda_top.specs.Ends.{HasWritten, IsDoneOrFailed, IsSimulated, MayLeave, MayStop, text_of}
use Rattle.fmeda_top.specs.Promises.{CommandEnds, RanOut}

-- the files of a command were read and judged
abbrev pub PreparesAs : Command → (before after : ShelfState) → Reads → Result Made Refused → Type 0
PreparesAs command before after reads made =
    WereRead before after command.files reads (kind_of command.task)
    × JudgesAs (command.files which.Netlist) command.settings reads (kind_of command.task) made

-- the same, or there was no memory to read them
abbrev pub IsPrepared : Command → (before after : ShelfState) → Result Made Refused → Type 0
IsPrepared command before after it = ((no_room : NoRoom) × (it ≡ Err (By (status.Memory no_room)))) ⊎ ((reads : Reads) × PreparesAs command before after reads it)

-- the text of a task went out, or a prefix of it where `out` failed; or it was refused, and nothing went out; want of memory is free
abbrev pub TellsAs : Task → Judged → (before after : SinkState) → Result Status Refused → Type 0
TellsAs own made before after (Ok ended) =
    (task_refusal own made ≡ None) × (before.faults ≤ after.faults) × ((text : Bytes) × (text_of own made ≡ Some text)
    × (((ended ≡ status.Done) × Wrote before after text) ⊎ ((ended ≡ status.OutFault) × WrotePrefix before after text)))
    × IsSimulated own
TellsAs own made before after (Err (By ended)) =
    (IsMemory ended ⊎ (task_refusal own made ≡ Some ended)) × IsPlain ended × (after ≡ before)
TellsAs own made before after (Err (Looped walk net)) = ⊥

-- how the campaign of a task has ended, before it is told
abbrev pub EndsWith : End → Task → Judged → Reads → (name : Bytes) → (before after : Outside) → Type 0
EndsWith end.Done own made reads name before after = HasWritten own made reads name before after
EndsWith (end.NoMemory no_room) own made reads name before after = after ≡ before
EndsWith end.ResultFault own made reads name before after =
    CountRose (before.shelf.write_faults name) (after.shelf.write_faults name)
    × ((after.shelf.content name ≡ before.shelf.content name) ⊎ MayLeave own made reads (before.shelf.content name) (after.shelf.content name))
    × (after.out ≡ before.out)
    × MayStop own made reads (after.shelf.given name) (before.shelf.changed name) (after.shelf.changed name)
EndsWith end.OutFault own made reads name before after =
    (text : Bytes) × HasWritten own made reads name before (had_written before after text) × WrotePrefix before.out after.out text

-- the same; files of other names are as before, none was read, and no fewer writes of `out` have failed
pub record HasEnded (how : End) (own : Task) (made : Judged) (reads : Reads) (name : Bytes) (before after : Outside) : Type 0 where
  pub ends : EndsWith how own made reads name before after
  pub others : KeepsOthers before.shelf after.shelf name
  pub given : after.shelf.given ≡ before.shelf.given
  pub grows : before.out.faults ≤ after.out.faults

-- what a command says at the end of its campaign: nothing where it has written its text, or the line of a refusal
abbrev pub EndSaid : End → Status → (before after : SinkState) → (names : Which → Bytes) → Type 0
EndSaid end.Done ended before after names = (ended ≡ status.Done) × (after ≡ before)
EndSaid end.OutFault ended before after names = (ended ≡ status.OutFault) × (after ≡ before)
EndSaid (end.NoMemory no_room) ended before after names = (ended ≡ status.Memory no_room) × IsSaid before after (codes "refused: out of memory\n")
EndSaid end.ResultFault ended before after names =
    (ended ≡ status.ResultFault) × IsSaid before after (line (codes "refused: cannot write" ∷ names which.Result ∷ []))

-- the task prints
abbrev pub Prints : Task → Type 0
Prints own = elim own [
  | task.Run _ ↦ ⊥
  | task.Resume _ ↦ ⊥
  | task.Gen _ _ ↦ ⊥
  | task.Shard _ _ ↦ ⊥
  | task.Merge ↦ ⊥
  | task.Reweigh ↦ ⊥
  | task.Always _ _ ↦ ⊥
  | _ ↦ Unit {0}
]

-- the files of the task were judged: its parts fit together
abbrev pub IsJudged : Task → Made → Type 0
IsJudged own made = IsOfKind (kind_of own) made × ((reads : Reads) × AreSound reads made)

-- these rows are kept of what the file holds, where that is known
abbrev pub IsHeld : Content → Reads → BegunOf → Type 0
IsHeld held reads begun =
    HasIfKnown held (bytes_read (reads which.Result))
    × (kept begun.planned.own begun.planned.plan (bytes_read (reads which.Result)) ≡ Ok begun.kept)

-- what was made is ready to be worked on: its parts fit together, and its rows are kept of what was read; the result file holds this
abbrev pub IsReady : Content → Reads → Made → Type 0
IsReady held reads it = AreSound reads it × elim it [ made.Begun begun ↦ IsHeld held reads begun | _ ↦ Unit {0} ]

-- the task whose campaign writes this text
abbrev pub task_of_text : Text → (workers : ℕ) → Task
task_of_text Report workers = task.Run workers
task_of_text (Summary stages) workers = task.Gen stages workers

-- how `always` has told its text, as `TellsAs` has it of others: right answers, or what is supposed contradicts itself
abbrev pub AnswersAs : Task → Analysis → Terms → Judged → (before after : SinkState) → Result Status Refused → Type 0
AnswersAs own p terms made before after (Ok ended) =
    (task_refusal own made ≡ None) × AreTermsFor p terms × (before.faults ≤ after.faults) × ((answers : Answers) × AreRightOf p terms answers
    × (((ended ≡ status.Done) × Wrote before after (always_text p terms answers)) ⊎ ((ended ≡ status.OutFault) × WrotePrefix before after (always_text p terms answers))))
AnswersAs own p terms made before after (Err (By ended)) =
    (IsMemory ended ⊎ ((task_refusal own made ≡ Some ended)
    ⊎ ((task_refusal own made ≡ None) × AreTermsFor p terms × ((why : Contradiction) × Contradict (claim_of p terms) why × (ended ≡ status.Contradiction why)))))
    × IsPlain ended × (after ≡ before)
AnswersAs own p terms made before after (Err (Looped walk net)) = ⊥

-- how a task that prints ends: as it told, or with the line of its refusal
abbrev pub PrintedAs : Result Status Refused → Status → (before after : SinkState) → (names : Which → Bytes) → Type 0
PrintedAs (Ok told) ended before after names = (ended ≡ told) × (after ≡ before)
PrintedAs (Err refused) ended before after names =
    (ended ≡ status_of refused)
    × ((held : Content) → HasItsNets (names which.Netlist) held refused → IsSaidOf held before after names (status_of refused))

-- all of the audited rows have the planes that their batches truly have, or the first that hasn't is refused
abbrev pub ChecksAs : (every : ℕ) → Analysis → KeptRows → Result (Unit {0}) Refused → Type 0
ChecksAs every p k (Ok done) = first_false p every k.rows ≡ None
ChecksAs every p k (Err (By ended)) = (IsMemory ended ⊎ (option_map status.Disagrees (first_false p every k.rows) ≡ Some ended)) × IsPlain ended
ChecksAs every p k (Err (Looped walk net)) = ⊥

-- the status of a text that needs memory beside: it went out, or a prefix of it where `out` failed; or there was no memory, and nothing did
abbrev pub AfterAs : Result (Unit {0}) (Refusal Failed) → Result Status Refused → Type 0
AfterAs (Ok done) told = told ≡ Ok status.Done
AfterAs (Err (Fault failed)) told = told ≡ Ok status.OutFault
AfterAs (Err (Memory no_room)) told = told ≡ Err (By (status.Memory no_room))

-- the pairs are those by the rows that were kept, or the refusal says why there are none
abbrev pub ChoosesAs : Analysis → KeptRows → Result Chosen Status → Type 0
ChoosesAs p k (Ok c) = (option_map status.Pairs (pair_refusal p k.rows) ≡ None) × (c ≡ chosen p (planes_in k.rows))
ChoosesAs p k (Err ended) = (IsMemory ended ⊎ (option_map status.Pairs (pair_refusal p k.rows) ≡ Some ended)) × IsPlain ended

-- no file was changed, and the line of a refusal went out, by the nets of the netlist as far as it is known
pub record HasRefused (names : Which → Bytes) (netlist : Content) (why : Status) (before after : Outside) : Type 0 where
  pub files : IsUnchanged before.shelf after.shelf
  pub said : IsSaidOf netlist before.out after.out names why

-- what a command does behind its checks: what its task refuses, or it is done or a write has failed; or memory ran out
abbrev pub DoesItsTask : Command → Judged → Reads → Status → (before after : Outside) → Type 0
DoesItsTask command made reads ended before after =
    MatchOption (task_refusal command.task made) (IsDoneOrFailed command made reads ended before after)
    (λ why. (ended ≡ why) × HasRefused command.files (known_by (reads which.Netlist)) why before after)
    ⊎ RanOut ended before after

-- the same; no fewer writes of `out` have failed, and no file was read
abbrev pub DoesAs : Command → Judged → Reads → Status → (before after : Outside) → Type 0
DoesAs command made reads ended before after = DoesItsTask command made reads ended before after × (before.out.faults ≤ after.out.faults) × (after.shelf.given ≡ before.shelf.given)

-- what a command has done, or memory ran out
abbrev pub EndsOrRanOut : Command → Status → (before after : Outside) → Type 0
EndsOrRanOut command ended before after = CommandEnds command ended before after ⊎ RanOut ended before after

-- the same, and no fewer writes of `out` have failed
abbrev pub MayEnd : Command → Status → (before after : Outside) → Type 0
MayEnd command ended before after = EndsOrRanOut command ended before after × (before.out.faults ≤ after.out.faults)
