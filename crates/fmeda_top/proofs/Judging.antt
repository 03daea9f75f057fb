-- What is true of each step of a command's checks: what it gives has no loop and was read whole, and what it refuses is no Usage, nor a fault
-- of reading but of a file of which a read has failed.
use Rattle.std.proofs.Common.{◌≡◌, ◌∙◌, ap, refl, subst, Bool, true, false, List, [], ◌∷◌, length, Ok, Err}
use Rattle.std.specs.Prelude.{Option, Some, None, Result, MatchOption, MatchResult, option_map, if◌then◌else◌, nat_lt}
use Rattle.std.specs.List.{AllByRecursion as ForEach}
use Rattle.fm_base.specs.Names.{Bytes}
use Rattle.circuit.specs.Circuit.{Circuit}
use Rattle.circuit.specs.Loop.{AnswersLoops, HasNoLoop}
use Rattle.circuit.specs.declared.parts.NetId.{NetId}
use Rattle.workload.specs.WorkloadFile.{workload_of}
use Rattle.rate_table.specs.RatesFile.{rates_of}
use Rattle.alarm_points.specs.PointsFile.{points_of}
use Rattle.campaign_plan.specs.declared.PlanRefusal.{PlanRefusal}
use Rattle.campaign_plan.specs.declared.Settings.{Settings}
use Rattle.campaign_plan.specs.Analysis.{Analysis}
use Rattle.campaign_plan.specs.PlanFaults.{plan_refusal}
use Rattle.result_file.specs.declared.KeptRows.{KeptRows}
use Rattle.result_file.specs.KeptRows.{kept}
use Rattle.result_merge.specs.Merged.{merged}
use Rattle.result_reweigh.specs.Reweighed.{reweighed}
use Rattle.row_audit.specs.Audited.{first_false}
use Rattle.result_file.specs.declared.FalseRow.{FalseRow}
use Rattle.always.specs.Asked.{asked_fault}
use Rattle.always.specs.declared.asked.AskedFault.{AskedFault}
use Rattle.always.specs.declared.asked.AskedFault.TheVariants.{LongWindow, NoAlarm}
use Rattle.held_inputs.specs.HeldFile.{held_of}
use Rattle.wave_dump.specs.Asked.{waves_asked}
use Rattle.wave_dump.specs.declared.DumpFault.{DumpFault}
use Rattle.wave_dump.specs.declared.DumpFault.TheVariants as dump
use Rattle.pair_list.specs.declared.pairs.PairRefusal.{PairRefusal}
use Rattle.pair_list.specs.Chosen.{pair_refusal}
use Rattle.commands.specs.declared.command.Kind.{Kind}
use Rattle.commands.specs.declared.command.Kind.TheVariants as kind
use Rattle.commands.specs.declared.command.Task.{Task}
use Rattle.commands.specs.declared.command.Task.TheVariants as task
use Rattle.commands.specs.declared.command.Which.{Which}
use Rattle.commands.specs.declared.command.Which.TheVariants as which
use Rattle.commands.specs.Commands.{Command, files_of, inputs_of, kind_of}
use Rattle.refusals.specs.declared.status.Status.{Status}
use Rattle.refusals.specs.declared.status.Status.TheVariants as status
use Rattle.refusals.specs.NetlistFile.{netlist_in, or_refuse}
use Rattle.command_reads.specs.declared.files.FileRead.{FileRead}
use Rattle.command_reads.specs.declared.files.FileRead.TheVariants.{Whole, TooLong, Failed}
use Rattle.command_reads.specs.Answers.{LoopsAnswered, generated_settings}
use Rattle.command_reads.specs.Files.{Reads, bytes_of as bytes_read, exchanged}
use Rattle.command_reads.specs.FirstRefusal.{Judged, classes_plan_of, judge, netlist_read, netlist_step, new_file, of_new, own_header, plan_of, read_as, rows_in, runless_plan_of, told_of_new, unless, whole, ◌>>=◌}
use Rattle.fmeda_top.specs.TaskRefusals.{judged, not_asked, not_there, refusal_in, task_refusal}
use Rattle.command_reads.specs.FirstRefusal as stands
use Rattle.fmeda_top.specs.Laws.{circuit_in}

-- the files that are judged; of a generated campaign the texts stand for them
abbrev pub judged_files : Kind → List Which
judged_files (kind.Generated stages) = inputs_of kind.Planned
judged_files own = files_of own

-- the kind isn't that of `reweigh`
abbrev IsOther : Kind → Type 0
IsOther kind.Reweighed = ⊥
IsOther _ = Unit {0}

-- a file was read whole
abbrev pub IsWhole : FileRead → Type 0
IsWhole read = (bytes : Bytes) × (read ≡ Whole bytes)

-- these files were
abbrev pub AreWhole : Reads → List Which → Type 0
AreWhole reads files = ForEach (λ file. IsWhole (reads file)) files

-- rows are kept of what was read of RESULT, where they are
abbrev pub AreKept : Reads → Judged → Type 0
AreKept reads (stands.Begun p k) = kept (own_header reads p) p (bytes_read (reads which.Result)) ≡ Ok k
AreKept reads _ = Unit {0}

-- what files stand for that were judged
abbrev pub IsJudgedOf : Reads → List Which → Judged → Type 0
IsJudgedOf reads files made = HasNoLoop (circuit_in made) × AreWhole reads files × AreKept reads made

module _ (HasFailed : Which → Type 0) where
  -- it is a refusal, no Usage, and no fault of reading but of a file of which a read has failed
  abbrev pub IsOfFiles : Status → Type 0
  IsOfFiles status.Done = ⊥
  IsOfFiles status.Usage = ⊥
  IsOfFiles (status.ReadFault file) = HasFailed file
  IsOfFiles _ = Unit {0}

  -- what a step gives is so, and its refusal is of files
  abbrev pub Meets : {A : Type 0} → Result A Status → (A → Type 0) → Type 0
  Meets r P = MatchResult r P IsOfFiles

  -- A STEP BEHIND A STEP
  and_then : {A B : Type 0} (r : Result A Status) (next : A → Result B Status) (P : A → Type 0) (Q : B → Type 0) → Meets r P
      → ((x : A) → r ≡ Ok x → P x → Meets (next x) Q) → Meets (r >>= next) Q
  and_then (Ok x) next P Q h more = more x refl h
  and_then (Err ended) next P Q h more = h

  told_meets : {A E : Type 0} (told : E → Status) (r : Result A E) (P : A → Type 0) → ((x : A) → r ≡ Ok x → P x) → ((e : E) → IsOfFiles (told e))
      → Meets (or_refuse told r) P
  told_meets told (Ok x) P fits other = fits x refl
  told_meets told (Err e) P fits other = other e

  unless_meets : {A : Type 0} (refusal : Option Status) (x : A) (P : A → Type 0) → MatchOption refusal (P x) IsOfFiles → Meets (unless refusal x) P
  unless_meets None x P h = h
  unless_meets (Some why) x P h = h

  loop_meets : (c : Circuit) (walk : Option (List NetId)) (P : Type 0) → P → AnswersLoops c walk → Meets (unless (option_map status.Loop walk) c) (λ d. HasNoLoop d × P)
  loop_meets c None P h none = (none, h)
  loop_meets c (Some nets) P h shown = tt

  -- one of two answers
  either_meets : {A E F : Type 0} (test : Bool) (told : E → Status) (other : F → Status) (r : Result A E) (s : Result A F) (P : Type 0) → P
      → ((e : E) → IsOfFiles (told e)) → ((f : F) → IsOfFiles (other f)) → Meets (if test then or_refuse told r else or_refuse other s) (λ x. P)
  either_meets true told other r s P h first second = told_meets told r (λ x. P) (λ x is. h) first
  either_meets false told other r s P h first second = told_meets other s (λ x. P) (λ x is. h) second

  form_meets : (name bytes : Bytes) (P : Type 0) → P → Meets (netlist_in name bytes) (λ c. P)
  unfolding netlist_in
  form_meets name bytes P h = either_meets _ status.Bench status.Netlist _ _ P h (λ f. tt) (λ f. tt)

  outputs_meet : (c : Circuit) (P : Circuit → Type 0) → P c → (many : Bool) → Meets (unless (if many then Some status.ManyOutputs else None) c) P
  outputs_meet c P h true = tt
  outputs_meet c P h false = h

  causes_meet : (refusal : Option PlanRefusal) (p : Analysis) (P : Analysis → Type 0) → P p → Meets (unless (option_map status.Plan refusal) p) P
  causes_meet None p P h = h
  causes_meet (Some why) p P h = tt

  -- ---- what a task itself refuses

  row_of_files : (P : Type 0) → P → (found : Option FalseRow) → MatchOption (option_map status.Disagrees found) P IsOfFiles
  row_of_files P h None = h
  row_of_files P h (Some row) = tt

  pairs_of_files : (P : Type 0) → P → (why : Option PairRefusal) → MatchOption (option_map status.Pairs why) P IsOfFiles
  pairs_of_files P h None = h
  pairs_of_files P h (Some why) = tt

  not_there_is_of_files : (why : DumpFault) → IsOfFiles (not_there why)
  not_there_is_of_files dump.NoRun = tt
  not_there_is_of_files dump.NoFault = tt
  not_there_is_of_files dump.NoNet = tt

  waves_of_files : {A : Type 0} (P : Type 0) → P → (answer : Result A DumpFault) → MatchOption (refusal_in not_there answer) P IsOfFiles
  waves_of_files P h (Ok waves) = h
  waves_of_files P h (Err why) = not_there_is_of_files why

  not_asked_is_of_files : (why : AskedFault) → IsOfFiles (not_asked why)
  not_asked_is_of_files NoAlarm = tt
  not_asked_is_of_files (LongWindow window least) = tt

  asked_of_files : (P : Type 0) → P → (why : Option AskedFault) → MatchOption (option_map not_asked why) P IsOfFiles
  asked_of_files P h None = h
  asked_of_files P h (Some why) = not_asked_is_of_files why

  task_of_files : (P : Type 0) → P → (own : Task) (made : Judged) → MatchOption (task_refusal own made) P IsOfFiles
  task_of_files P h (task.Audit every by) (stands.Begun p k) = row_of_files P h (first_false p every k.rows)
  task_of_files P h (task.Pairs workers) (stands.Begun p k) = pairs_of_files P h (pair_refusal p k.rows)
  task_of_files P h (task.Trace run fault nets) (stands.Driven c runs set) =
      waves_of_files P h (waves_asked c runs set.flips set.pulses run fault nets)
  task_of_files P h (task.Always window ahead) (stands.Supposed p held) = asked_of_files P h (asked_fault p window)
  task_of_files P h _ _ = h

  -- ---- over what was read

  module _ (reads : Reads) where
    -- where the read of this file has failed, so it is counted
    abbrev pub IfFailed : Which → Type 0
    IfFailed file = reads file ≡ Failed → HasFailed file

    whole_meets : (file : Which) → IfFailed file → Meets (whole file reads) (λ bytes. reads file ≡ Whole bytes)
    whole_meets file failed = by_read (reads file) refl
      where
        by_read : (got : FileRead) → reads file ≡ got
            → Meets {A = Bytes} (elim got [ Whole bytes ↦ Ok bytes | TooLong ↦ Err (status.TooLong file) | Failed ↦ Err (status.ReadFault file) ]) (λ bytes. reads file ≡ Whole bytes)
        by_read (Whole bytes) is = is
        by_read TooLong is = tt
        by_read Failed is = failed is

    -- a file was read whole, and stands for this
    abbrev StandsFor : {A E : Type 0} → Which → (Bytes → Result A E) → A → Type 0
    StandsFor file meaning x = (bytes : Bytes) × (reads file ≡ Whole bytes) × (meaning bytes ≡ Ok x)

    -- a file, and then what follows it
    file_then : {A B E : Type 0} (file : Which) (told : E → Status) (meaning : Bytes → Result A E) (next : A → Result B Status) (Q : B → Type 0)
        → IfFailed file → ((e : E) → IsOfFiles (told e)) → ((x : A) → StandsFor file meaning x → Meets (next x) Q)
        → Meets (read_as file told meaning reads >>= next) Q
    file_then file told meaning next Q failed other rest =
        and_then (read_as file told meaning reads) next (StandsFor file meaning) Q
        (and_then (whole file reads) (λ bytes. or_refuse told (meaning bytes)) (λ bytes. reads file ≡ Whole bytes) (StandsFor file meaning) (whole_meets file failed)
        (λ bytes got is. told_meets told (meaning bytes) (StandsFor file meaning) (λ x stands. (bytes, is, stands)) other))
        (λ x got fits. rest x fits)

    -- ---- over an answer of loops

    module _ (netlist : Bytes) (walk : Option (List NetId)) (loops : LoopsAnswered netlist reads walk) where
      -- the netlist, and then what follows it
      netlist_then : {B : Type 0} (next : Circuit → Result B Status) (Q : B → Type 0) → IfFailed which.Netlist
          → ((c : Circuit) → HasNoLoop c → IsWhole (reads which.Netlist) → Meets (next c) Q) → Meets (netlist_step netlist walk reads >>= next) Q
      unfolding netlist_step
      netlist_then next Q failed rest =
          and_then (netlist_step netlist walk reads) next (λ c. HasNoLoop c × IsWhole (reads which.Netlist)) Q
          (and_then (netlist_read netlist reads) (λ c. unless (option_map status.Loop walk) c) (λ c. IsWhole (reads which.Netlist)) (λ c. HasNoLoop c × IsWhole (reads which.Netlist))
          (and_then (whole which.Netlist reads) (netlist_in netlist) (λ bytes. reads which.Netlist ≡ Whole bytes) (λ c. IsWhole (reads which.Netlist)) (whole_meets which.Netlist failed)
          (λ bytes got is. form_meets netlist bytes (IsWhole (reads which.Netlist)) (bytes, is)))
          (λ c read own. loop_meets c walk (IsWhole (reads which.Netlist)) own (loops c read)))
          (λ c got fits. rest c fits.0 fits.1)

      -- a plan's circuit has no loop, and its four files were read whole
      abbrev IsOfFour : Analysis → Type 0
      IsOfFour p = HasNoLoop p.circuit × AreWhole reads (inputs_of kind.Planned)

      -- the plan of four files
      plan_meets : (set : Settings) → ForEach IfFailed (inputs_of kind.Planned) → Meets (plan_of netlist walk set reads) IsOfFour
      unfolding plan_of
      plan_meets set (net, (work, (rates, (points, end)))) =
          netlist_then _ IsOfFour net (λ c none first.
          file_then which.Workload status.Workload (workload_of c) _ IsOfFour work (λ f. tt) (λ runs second.
          file_then which.Rates status.Rates rates_of _ IsOfFour rates (λ f. tt) (λ table third.
          file_then which.Points status.Points (points_of c) _ IsOfFour points (λ f. tt) (λ observed fourth.
          causes_meet (plan_refusal (record { circuit = c; runs = runs; rates = table; points = observed; settings = set }))
          (record { circuit = c; runs = runs; rates = table; points = observed; settings = set }) IsOfFour
          (none, (first, ((second.0, second.1), ((third.0, third.1), ((fourth.0, fourth.1), tt)))))))))

      -- and then what follows it
      plan_then : {B : Type 0} (set : Settings) (next : Analysis → Result B Status) (Q : B → Type 0) → ForEach IfFailed (inputs_of kind.Planned)
          → ((p : Analysis) → HasNoLoop p.circuit → AreWhole reads (inputs_of kind.Planned) → Meets (next p) Q)
          → Meets (plan_of netlist walk set reads >>= next) Q
      plan_then set next Q each rest =
          and_then (plan_of netlist walk set reads) next IsOfFour Q (plan_meets set each) (λ p got fits. rest p fits.0 fits.1)

      -- a plan's circuit has no loop, and its three files were read whole
      abbrev IsOfThree : Analysis → Type 0
      IsOfThree p = HasNoLoop p.circuit × AreWhole reads (which.Netlist ∷ which.Rates ∷ which.Points ∷ [])

      -- the plan without runs of three files
      runless_meets : (set : Settings) → ForEach IfFailed (which.Netlist ∷ which.Rates ∷ which.Points ∷ []) → Meets (runless_plan_of netlist walk set reads) IsOfThree
      unfolding runless_plan_of
      runless_meets set (net, (rates, (points, end))) =
          netlist_then _ IsOfThree net (λ c none first.
          file_then which.Rates status.Rates rates_of _ IsOfThree rates (λ f. tt) (λ table second.
          file_then which.Points status.Points (points_of c) _ IsOfThree points (λ f. tt) (λ observed third.
          causes_meet (plan_refusal (record { circuit = c; runs = []; rates = table; points = observed; settings = set }))
          (record { circuit = c; runs = []; rates = table; points = observed; settings = set }) IsOfThree
          (none, (first, ((second.0, second.1), ((third.0, third.1), tt)))))))

      -- the rows of a result file, and then what follows them
      rows_then : {B : Type 0} (file : Which) (p : Analysis) (next : KeptRows → Result B Status) (Q : B → Type 0) → IfFailed file
          → ((k : KeptRows) → StandsFor file (kept (own_header reads p) p) k → Meets (next k) Q) → Meets (rows_in file reads p >>= next) Q
      rows_then file p next Q failed rest = file_then file status.Result (kept (own_header reads p) p) next Q failed (λ e. tt) rest

      -- what the files of a kind stand for that isn't the one of `reweigh`
      others_meet : (set : Settings) (own : Kind) → IsOther own → ForEach IfFailed (judged_files own)
          → Meets (judge netlist walk set reads own) (IsJudgedOf reads (files_of own))
      unfolding judge classes_plan_of
      others_meet set kind.Observed other (net, (work, end)) =
          and_then (classes_plan_of netlist walk reads) (λ p. Ok (stands.Planned p)) (λ p. HasNoLoop p.circuit × AreWhole reads (inputs_of kind.Observed)) _
          (netlist_then _ _ net (λ c none first.
          and_then (unless (if nat_lt 1024 (length c.outputs) then Some status.ManyOutputs else None) c) _ HasNoLoop _
          (outputs_meet c HasNoLoop none (nat_lt 1024 (length c.outputs)))
          (λ counted got free. file_then which.Workload status.Workload (workload_of counted) _ _ work (λ f. tt) (λ runs second.
          (free, (first, ((second.0, second.1), tt)))))))
          (λ p got fits. (fits.0, fits.1, tt))
      others_meet set kind.Driven other (net, (work, end)) =
          netlist_then _ _ net (λ c none first.
          file_then which.Workload status.Workload (workload_of c) _ _ work (λ f. tt) (λ runs second. (none, (first, ((second.0, second.1), tt)), tt)))
      others_meet set kind.Rated other (net, (rates, end)) =
          netlist_then _ _ net (λ c none first.
          file_then which.Rates status.Rates rates_of _ _ rates (λ f. tt) (λ table second. (none, (first, ((second.0, second.1), tt)), tt)))
      others_meet set kind.Planned other each = plan_then set (λ p. Ok (stands.Planned p)) _ each (λ p none four. (none, four, tt))
      others_meet set kind.Begun other (net, (work, (rates, (points, (result, end))))) =
          plan_then set _ _ (net, (work, (rates, (points, tt)))) (λ p none four. rows_then which.Result p _ _ result (λ k rows. (
            none,
            (four.0, (four.1.0, (four.1.1.0, (four.1.1.1.0, ((rows.0, rows.1), tt))))),
            ap (λ (read : FileRead). kept (own_header reads p) p (bytes_read read)) rows.1 ∙ rows.2,
          )))
      others_meet set kind.Merged apart (net, (work, (rates, (points, (first, (second, end)))))) =
          plan_then set _ _ (net, (work, (rates, (points, tt)))) (λ p none four.
          rows_then which.First p _ _ first (λ one own. rows_then which.Second p _ _ second (λ two other.
          and_then (or_refuse status.Merge (merged p one.rows two.rows)) (λ both. Ok (stands.Merged p both)) (λ both. Unit {0}) _
          (told_meets status.Merge (merged p one.rows two.rows) (λ both. Unit {0}) (λ both is. tt) (λ e. tt))
          (λ both got u. (none, (four.0, (four.1.0, (four.1.1.0, (four.1.1.1.0, ((own.0, own.1), ((other.0, other.1), tt)))))), tt)))))
      others_meet set kind.Reweighed other each = elim other [ ]
      others_meet set kind.Supposed other (net, (rates, (points, (held, end)))) =
          and_then (runless_plan_of netlist walk set reads) _ IsOfThree _ (runless_meets set (net, (rates, (points, tt))))
          (λ p got fits. file_then which.Held status.Held (held_of p.circuit) _ _ held (λ f. tt) (λ inputs fourth.
          (fits.0, (fits.1.0, (fits.1.1.0, (fits.1.1.1.0, ((fourth.0, fourth.1), tt)))), tt)))
      others_meet set (kind.Generated stages) other each =
          plan_then generated_settings (λ p. Ok (stands.Planned p)) _ each (λ p none four. (none, tt, tt))

-- ---- with NEWRATES in the place of RATES

new_of_files : (HasFailed : Which → Type 0) (ended : Status) → IsOfFiles (λ file. HasFailed (new_file file)) ended → IsOfFiles HasFailed (of_new ended)
new_of_files HasFailed (status.Rates fault) h = tt
new_of_files HasFailed (status.Plan cause) h = tt
new_of_files HasFailed (status.TooLong file) h = tt
new_of_files HasFailed (status.ReadFault file) h = h
new_of_files HasFailed ended h = h

told_new_meets : (HasFailed : Which → Type 0) {A : Type 0} (r : Result A Status) (P : A → Type 0) → Meets (λ file. HasFailed (new_file file)) r P
    → Meets HasFailed (told_of_new r) P
told_new_meets HasFailed (Ok x) P h = h
told_new_meets HasFailed (Err ended) P h = new_of_files HasFailed ended h

reweigh_meets : (HasFailed : Which → Type 0) (reads : Reads) (netlist : Bytes) (walk : Option (List NetId)) → LoopsAnswered netlist reads walk → (set : Settings)
    → ForEach (IfFailed HasFailed reads) (files_of kind.Reweighed)
    → Meets HasFailed (judge netlist walk set reads kind.Reweighed) (IsJudgedOf reads (files_of kind.Reweighed))
unfolding judge
reweigh_meets HasFailed reads netlist walk loops set (net, (work, (rates, (points, (first, (new, end)))))) =
    plan_then HasFailed reads netlist walk loops set _ _ (net, (work, (rates, (points, tt)))) (λ p none four.
    rows_then HasFailed reads netlist walk loops which.First p _ _ first (λ k rows.
    and_then HasFailed (told_of_new (plan_of netlist walk set (exchanged reads))) (λ q. Ok (stands.Reweighed q (reweighed q k.rows)))
    (λ q. HasNoLoop q.circuit × AreWhole (exchanged reads) (inputs_of kind.Planned)) _
    (told_new_meets HasFailed (plan_of netlist walk set (exchanged reads)) _
    (plan_meets (λ file. HasFailed (new_file file)) (exchanged reads) netlist walk loops set (net, (work, (new, (points, tt))))))
    (λ q got fits. (fits.0, (four.0, (four.1.0, (four.1.1.0, (four.1.1.1.0, ((rows.0, rows.1), (fits.1.1.1.0, tt)))))), tt))))

-- WHAT THE FILES OF A KIND STAND FOR
pub judge_meets : (HasFailed : Which → Type 0) (reads : Reads) (netlist : Bytes) (walk : Option (List NetId)) → LoopsAnswered netlist reads walk
    → (set : Settings) (own : Kind) → ForEach (IfFailed HasFailed reads) (judged_files own)
    → Meets HasFailed (judge netlist walk set reads own) (IsJudgedOf reads (files_of own))
judge_meets HasFailed reads netlist walk loops set kind.Reweighed each = reweigh_meets HasFailed reads netlist walk loops set each
judge_meets HasFailed reads netlist walk loops set own each = others_meet HasFailed reads netlist walk loops set own tt each

-- WHAT A COMMAND'S FILES STAND FOR has no loop, or the refusal is of files
pub judged_meets : (HasFailed : Which → Type 0) (walk : Option (List NetId)) (command : Command) (reads : Reads) → LoopsAnswered (command.files which.Netlist) reads walk
    → ForEach (IfFailed HasFailed reads) (judged_files (kind_of command.task)) → Meets HasFailed (judged walk command reads) (λ made. HasNoLoop (circuit_in made))
judged_meets HasFailed walk command reads loops failed =
    and_then HasFailed (judge (command.files which.Netlist) walk command.settings reads (kind_of command.task)) (λ made. unless (task_refusal command.task made) made)
    (IsJudgedOf reads (files_of (kind_of command.task))) (λ made. HasNoLoop (circuit_in made))
    (judge_meets HasFailed reads (command.files which.Netlist) walk loops command.settings (kind_of command.task) failed)
    (λ made got fits. unless_meets HasFailed (task_refusal command.task made) made _ (task_of_files HasFailed (HasNoLoop (circuit_in made)) fits.0 command.task made))

-- where nothing is asked of reads that have failed
pub none_asked : (reads : Reads) (files : List Which) → ForEach (IfFailed (λ file. Unit {0}) reads) files
none_asked reads [] = tt
none_asked reads (file ∷ files) = (λ failed. tt, none_asked reads files)

-- what was judged has no loop, its files were read whole, and its rows are kept of them
pub judged_gives : (netlist : Bytes) (walk : Option (List NetId)) (set : Settings) (reads : Reads) (own : Kind) (it : Judged) → LoopsAnswered netlist reads walk
    → judge netlist walk set reads own ≡ Ok it → IsJudgedOf reads (files_of own) it
judged_gives netlist walk set reads own it loops is =
    subst (λ r. Meets (λ file. Unit {0}) r (IsJudgedOf reads (files_of own))) is
    (judge_meets (λ file. Unit {0}) reads netlist walk loops set own (none_asked reads (judged_files own)))
