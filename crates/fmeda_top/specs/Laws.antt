-- Laws under the promises of a call.
use Rattle.std.specs.Prelude.{◌≡◌, ◌⊎◌, ◌↔◌, ◌++◌, ◌∷◌, [], ℕ, List, flat_map, Option, None, MatchOption, MatchResult, Ok}
use Rattle.std.specs.List.{AllByRecursion as ForEach}
use Rattle.fm_base.specs.Names.{Bytes}
use Rattle.fm_shelf.specs.Content.{Held}
use Rattle.fm_shelf.specs.Shelf.{CountRose, ShelfState}
use Rattle.fm_shelf.specs.Outside.{Outside}
use Rattle.fm_shelf.specs.Sink.{Wrote}
use Rattle.circuit.specs.declared.parts.NetId.{NetId}
use Rattle.circuit.specs.Circuit.{Circuit}
use Rattle.circuit.specs.Loop.{HasNoLoop}
use Rattle.campaign_plan.specs.Analysis.{Analysis}
use Rattle.campaign_plan.specs.Batches.{AreDistinct, AreTrue, in_order, true_planes}
use Rattle.campaign_plan.specs.declared.Settings.{Settings}
use Rattle.result_file.specs.declared.KeptRows.{KeptRows}
use Rattle.result_file.specs.declared.Row.{Row}
use Rattle.result_file.specs.ResultText.{result_rows, row_text}
use Rattle.result_file.specs.KeptRows.{kept_entries}
use Rattle.result_file.specs.RowPlanes.{planes_in}
use Rattle.pair_list.specs.Chosen.{pair_refusal}
use Rattle.pair_campaign.specs.PairText.{pairs_text}
use Rattle.campaign_run.specs.Left.{LeftPrefix}
use Rattle.result_merge.specs.Merged.{merged}
use Rattle.result_reweigh.specs.Laws.{DifferInRates}
use Rattle.workload.specs.declared.run.Run.{Run}
use Rattle.coverage_claim.specs.declared.parts.Held.{Held as HeldInput}
use Rattle.always_answers.specs.declared.answers.Answers.{Answers}
use Rattle.claim_search.specs.Hypotheses.{Contradict}
use Rattle.claim_search.specs.declared.hypotheses.Contradiction.{Contradiction}
use Rattle.always.specs.Asked.{terms_of_plan}
use Rattle.always.specs.Laws.{AreAsSupposed, EndsSame, HoldsSpfm, StartsSame, claim_of, with_runs}
use Rattle.always.specs.Text.{always_text}
use Rattle.always.specs.Verdict.{Terms}
use Rattle.commands.specs.declared.command.Kind.{Kind}
use Rattle.commands.specs.declared.command.Kind.TheVariants as kind
use Rattle.commands.specs.declared.command.Task.TheVariants as task
use Rattle.commands.specs.declared.command.Which.{Which}
use Rattle.commands.specs.declared.command.Which.TheVariants as which
use Rattle.commands.specs.Commands.{Command, files_of, kind_of}
use Rattle.command_line.specs.Words.{IsCommand, IsNoCommand}
use Rattle.refusals.specs.declared.status.Status.{Status}
use Rattle.refusals.specs.declared.status.Status.TheVariants as status
use Rattle.refusals.specs.WantOfMemory.{IsMemory}
use Rattle.command_reads.specs.declared.files.FileRead.TheVariants.{Failed}
use Rattle.command_reads.specs.Files.{Reads, WereRead, exchanged, given}
use Rattle.command_reads.specs.FirstRefusal.{IsLoopAnswer, Judged, Driven, Rated, Planned, Begun, Merged, Reweighed, Supposed, judge, own_header, plan_of, rows_in}
use Rattle.fmeda_top.specs.TaskRefusals.{judged}
use Rattle.fmeda_top.specs.Ends.{asked_of}
use Rattle.fmeda_top.specs.Promises.{CommandEnds, Promises, RanOut}
use Rattle.fmeda_top.specs.Program.{ProgramEnds}
use Rattle.room.specs.Refused.{WasRefused}

-- the circuit that is worked on
abbrev pub circuit_in : Judged → Circuit
circuit_in (Planned p) = p.circuit
circuit_in (Driven c runs set) = c
circuit_in (Rated c table) = c
circuit_in (Begun p k) = p.circuit
circuit_in (Merged p both) = p.circuit
circuit_in (Reweighed p rows) = p.circuit
circuit_in (Supposed p held) = p.circuit

-- OF THE COMMAND: who knows which command the words are has what is promised of it, or memory has run out
abbrev pub AreOfTheCommand : Type 0
AreOfTheCommand =
    (words : List Bytes) (ended : Status) (before after : Outside) → Promises words ended before after → (command : Command) → IsCommand words command
    → CommandEnds command ended before after ⊎ RanOut ended before after

-- OF THE WORDS: Usage is the answer exactly where the words are no command, or memory has run out
abbrev pub UsageIsOfTheWords : Type 0
UsageIsOfTheWords =
    (words : List Bytes) (ended : Status) (before after : Outside) → Promises words ended before after
    → ((ended ≡ status.Usage) ↔ IsNoCommand words) ⊎ IsMemory ended

-- this tells truly that what is supposed of runs contradicts itself
abbrev pub Contradicts : Status → Analysis → Terms → Type 0
Contradicts ended p terms = (why : Contradiction) × Contradict (claim_of p terms) why × (ended ≡ status.Contradiction why)

-- the command is refused with this, as the first refusal of what was read of its files, or since these suppose what contradicts itself
abbrev pub IsOfTheFiles : Command → Status → (before after : Outside) → Type 0
IsOfTheFiles command ended before after =
    (reads : Reads) × WereRead before.shelf after.shelf command.files reads (kind_of command.task)
    × ((c : Circuit) × (walk : Option (List NetId)) × IsLoopAnswer (command.files which.Netlist) reads c walk
    × MatchResult (judged walk command reads) (λ made. MatchOption (asked_of command.task made) ⊥ (λ asked. Contradicts ended asked.0 asked.1)) (λ why. ended ≡ why))

-- a write has failed in this call, and was counted
abbrev pub IsOfAWrite : Command → Status → (before after : Outside) → Type 0
IsOfAWrite command status.OutFault before after = CountRose before.out.faults after.out.faults
IsOfAWrite command status.ResultFault before after =
    CountRose (before.shelf.write_faults (command.files which.Result)) (after.shelf.write_faults (command.files which.Result))
IsOfAWrite command _ before after = ⊥

-- OF WANT OF MEMORY: it is the answer only where the allocator has refused a request. Where it has refused none, a call ends Done, with a refusal
-- of its words or of its files, or with a write that has failed; and the program's exit status isn't that of want of memory
abbrev pub MemoryWasRefused : Type 0
MemoryWasRefused =
    ((words : List Bytes) (ended : Status) (before after : Outside) → Promises words ended before after → IsMemory ended → WasRefused)
    × ((words : List Bytes) (code : ℕ) (before after : Outside) → ProgramEnds words code before after → code ≡ 30 → WasRefused)

abbrev pub OthersHaveCauses : Type 0
OthersHaveCauses =
    (words : List Bytes) (ended : Status) (before after : Outside) → Promises words ended before after → ¬ WasRefused
    → ((ended ≡ status.Usage) × IsNoCommand words)
    ⊎ ((command : Command) × IsCommand words command
    × ((ended ≡ status.Done) ⊎ (IsOfTheFiles command ended before after ⊎ IsOfAWrite command ended before after)))

-- OF WHAT IS KNOWN: where a file is known to hold these bytes, they are what was read of it, or a read of it has failed
abbrev pub HeldIsRead : Type 0
HeldIsRead =
    (before after : ShelfState) (names : Which → Bytes) (reads : Reads) (kind : Kind) (held : Which → Bytes)
    → WereRead before after names reads kind → ((file : Which) → before.content (names file) ≡ Held (held file))
    → ForEach (λ file. (reads file ≡ given (held file)) ⊎ (reads file ≡ Failed)) (files_of kind)

-- OF FAULTS OF READING: a file can't be read only where a read of it has failed in this call
abbrev pub ReadFaultsRose : Type 0
ReadFaultsRose =
    (command : Command) (file : Which) (before after : Outside) → CommandEnds command (status.ReadFault file) before after
    → CountRose (before.shelf.read_faults (command.files file)) (after.shelf.read_faults (command.files file))

-- OF LOOPS: what wasn't refused has a netlist without a loop
abbrev pub HaveNoLoop : Type 0
HaveNoLoop =
    (command : Command) (c : Circuit) (walk : Option (List NetId)) (reads : Reads) (made : Judged)
    → IsLoopAnswer (command.files which.Netlist) reads c walk → judged walk command reads ≡ Ok made → HasNoLoop (circuit_in made)

-- OF PAIRS: where the rows that are kept have true planes, their pairs are those of the true planes
abbrev pub PairsAreTrue : Type 0
PairsAreTrue =
    (p : Analysis) (k : KeptRows) → AreDistinct p (kept_entries k) → pair_refusal p k.rows ≡ None → AreTrue p (kept_entries k)
    → pairs_text p (planes_in k.rows) ≡ pairs_text p (true_planes p)

-- OF MERGING: where both files have true planes, the merged one is such a file as a campaign leaves that was stopped, so that `resume` reports
-- the campaign
abbrev pub MergedAreStopped : Type 0
MergedAreStopped =
    (own : Bytes) (p : Analysis) (first second : KeptRows) (both : List Row) → merged p first.rows second.rows ≡ Ok both
    → AreTrue p (kept_entries first) → AreTrue p (kept_entries second) → LeftPrefix own p (true_planes p) (Held (own ++ flat_map row_text both))

-- rows by other rates: RESULT has these by the plan with RATES, and `p` is the plan of a `run` with NEWRATES, from which that one differs in nothing
-- but its rates. Where RESULT's rows are true, NEWRESULT is such a file as this run leaves that was stopped, so that `resume` reports it; and where they
-- are all, in rising order, it is the file of this run by one worker
pub record AreOfTheRun (netlist : Bytes) (set : Settings) (reads : Reads) (p : Analysis) (rows : List Row) : Type 0 where
  pub before : Analysis
  pub k : KeptRows
  pub planned : plan_of netlist None set reads ≡ Ok before
  pub kept : rows_in which.First reads before ≡ Ok k
  pub run : plan_of netlist None set (exchanged reads) ≡ Ok p
  pub rates : DifferInRates before p
  pub stopped : AreTrue before (kept_entries k)
      → LeftPrefix (own_header (exchanged reads) p) p (true_planes p) (Held (own_header (exchanged reads) p ++ flat_map row_text rows))
  pub whole : k.rows ≡ result_rows before (in_order before (true_planes before)) → rows ≡ result_rows p (in_order p (true_planes p))

-- OF OTHER RATES: so of all rows that `reweigh` writes
abbrev pub ReweighedAreOfTheRun : Type 0
ReweighedAreOfTheRun =
    (netlist : Bytes) (set : Settings) (reads : Reads) (p : Analysis) (rows : List Row)
    → judge netlist None set reads kind.Reweighed ≡ Ok (Reweighed p rows) → AreOfTheRun netlist set reads p rows

-- what the text tells of each plan with other runs, of the same netlist, rates, points and settings: where they are as is asked and end without a
-- difference by an alarmed fault, the single-point fault metrics of its report are at least those that are printed, since cycle 0; and where nothing
-- differs before the first cycle either, since that
pub record HoldsForAllRuns (p : Analysis) (terms : Terms) (text : Bytes) : Type 0 where
  pub answers : Answers
  pub is : text ≡ always_text p terms answers
  pub spfm : (runs : List Run) → AreAsSupposed (with_runs p runs) terms → EndsSame (with_runs p runs) terms answers → HoldsSpfm (with_runs p runs) 0 text
  pub later : (runs : List Run) → AreAsSupposed (with_runs p runs) terms → EndsSame (with_runs p runs) terms answers
      → StartsSame (with_runs p runs) terms answers → HoldsSpfm (with_runs p runs) terms.from text

-- OF EVERY WORKLOAD: so of the text of each `always` that is done, and of the plan and the held inputs that its files stand for
abbrev pub AlwaysHolds : Type 0
AlwaysHolds =
    (command : Command) (window : Option ℕ) (ahead : ℕ) (before after : Outside) → command.task ≡ task.Always window ahead
    → CommandEnds command status.Done before after
    → (reads : Reads) × WereRead before.shelf after.shelf command.files reads kind.Supposed
    × ((walk : Option (List NetId)) × (p : Analysis) × (held : List HeldInput) × (judged walk command reads ≡ Ok (Supposed p held))
    × ((text : Bytes) × Wrote before.out after.out text × HoldsForAllRuns p (terms_of_plan p held window ahead) text))

-- OF REPORTS: over the same netlist, rates, points and settings, the plan of `report` is that of `always` with the runs of its workload
abbrev pub ReportsAreOfThePlan : Type 0
ReportsAreOfThePlan =
    (report always : Command) (window : Option ℕ) (ahead : ℕ) (reads others : Reads) (walk loops : Option (List NetId)) (p q : Analysis) (held : List HeldInput)
    → report.task ≡ task.Report → always.task ≡ task.Always window ahead → report.settings ≡ always.settings
    → report.files which.Netlist ≡ always.files which.Netlist
    → ForEach (λ file. reads file ≡ others file) (which.Netlist ∷ which.Rates ∷ which.Points ∷ [])
    → judged walk report reads ≡ Ok (Planned p) → judged loops always others ≡ Ok (Supposed q held) → p ≡ with_runs q p.runs
