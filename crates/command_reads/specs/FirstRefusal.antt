-- THE ORDER OF THE CHECKS. Each step gives what it reads, or the refusal; a line is reached only where no line above it refuses.
use Rattle.std.specs.Prelude.{◌≡◌, List, [], ◌∷◌, length, Option, Some, None, Result, Ok, Err, option_map, if◌then◌else◌, nat_lt, true, false, codes}
use Rattle.fm_base.specs.Names.{Bytes}
use Rattle.metric_sums.specs.declared.Role.TheVariants.{Mission}
use Rattle.circuit.specs.declared.parts.NetId.{NetId}
use Rattle.circuit.specs.Circuit.{Circuit}
use Rattle.circuit.specs.Loop.{AnswersLoops}
use Rattle.workload.specs.declared.run.Run.{Run}
use Rattle.workload.specs.WorkloadFile.{workload_of}
use Rattle.rate_table.specs.RatesFile.{rates_of}
use Rattle.rate_table.specs.Table.{RateTable}
use Rattle.rate_table.specs.declared.Part.{Part}
use Rattle.alarm_points.specs.declared.Points.{Points}
use Rattle.alarm_points.specs.PointsFile.{points_of}
use Rattle.campaign_plan.specs.declared.Settings.{Settings}
use Rattle.campaign_plan.specs.Analysis.{Analysis, batch_count}
use Rattle.campaign_plan.specs.PlanFaults.{plan_refusal}
use Rattle.result_file.specs.declared.KeptRows.{KeptRows}
use Rattle.result_file.specs.declared.Row.{Row}
use Rattle.result_file.specs.ResultText.{own_digest, header_text}
use Rattle.result_file.specs.KeptRows.{kept}
use Rattle.result_merge.specs.Merged.{merged}
use Rattle.result_reweigh.specs.Reweighed.{reweighed}
use Rattle.coverage_claim.specs.declared.parts.Held.{Held}
use Rattle.held_inputs.specs.HeldFile.{held_of}
use Rattle.commands.specs.declared.command.Kind.{Kind}
use Rattle.commands.specs.declared.command.Kind.TheVariants as kind
use Rattle.commands.specs.declared.command.Which.{Which}
use Rattle.commands.specs.declared.command.Which.TheVariants as which
use Rattle.commands.specs.Commands.{settings_of}
use Rattle.refusals.specs.declared.status.Status.{Status}
use Rattle.refusals.specs.declared.status.Status.TheVariants as status
use Rattle.refusals.specs.NetlistFile.{netlist_in, or_refuse}
use Rattle.command_reads.specs.declared.files.FileRead.TheVariants.{Whole, TooLong, Failed}
use Rattle.command_reads.specs.Files.{Reads, bytes_of, exchanged}

-- a step after another: it is reached where the other gave something
infixl 10 ◌>>=◌
abbrev pub ◌>>=◌ : {A B : Type 0} → Result A Status → (A → Result B Status) → Result B Status
(Ok x) >>= next = next x
(Err refusal) >>= next = Err refusal

-- the value, unless there is a refusal
abbrev pub unless : {A : Type 0} → Option Status → A → Result A Status
unless refusal x = elim refusal [ None ↦ Ok x | Some why ↦ Err why ]

-- a file that was read whole, of at most 2^26 bytes
abbrev pub whole : Which → Reads → Result Bytes Status
whole file reads = elim (reads file) [ Whole bytes ↦ Ok bytes | TooLong ↦ Err (status.TooLong file) | Failed ↦ Err (status.ReadFault file) ]

-- what a file stands for, where it was read, or its refusal
abbrev pub read_as : {A E : Type 0} → Which → (E → Status) → (Bytes → Result A E) → Reads → Result A Status
read_as file refusal meaning reads = whole file reads >>= (λ bytes. or_refuse refusal (meaning bytes))

-- the netlist in a file of this name
abbrev pub netlist_read : Bytes → Reads → Result Circuit Status
netlist_read netlist reads = whole which.Netlist reads >>= netlist_in netlist

-- NETLIST, and then its loops, of which `walk` is answered
unfoldable pub netlist_step : Bytes → Option (List NetId) → Reads → Result Circuit Status
netlist_step netlist walk reads = netlist_read netlist reads >>= unless (option_map status.Loop walk)

-- the plan of four files, or the first refusal: NETLIST of this name, WORKLOAD, RATES, POINTS; TOO MANY FAULTS, MISSING RATE, IDLE RATE
unfoldable pub plan_of : Bytes → Option (List NetId) → Settings → Reads → Result Analysis Status
plan_of netlist walk set reads = do
  c ← netlist_step netlist walk reads
  runs ← read_as which.Workload status.Workload (workload_of c) reads
  rates ← read_as which.Rates status.Rates rates_of reads
  points ← read_as which.Points status.Points (points_of c) reads
  let p : Analysis = record { circuit = c; runs = runs; rates = rates; points = points; settings = set }
  unless (option_map status.Plan (plan_refusal p)) p

-- the plan without runs of three files, or the first refusal: NETLIST of this name, RATES, POINTS; TOO MANY FAULTS, MISSING RATE, IDLE RATE
unfoldable pub runless_plan_of : Bytes → Option (List NetId) → Settings → Reads → Result Analysis Status
runless_plan_of netlist walk set reads = do
  c ← netlist_step netlist walk reads
  rates ← read_as which.Rates status.Rates rates_of reads
  points ← read_as which.Points status.Points (points_of c) reads
  let p : Analysis = record { circuit = c; runs = []; rates = rates; points = points; settings = set }
  unless (option_map status.Plan (plan_refusal p)) p

-- the plan of `classes`, or the first refusal: NETLIST, more than 1,024 outputs, WORKLOAD; one goal has all outputs, one part all nets
unfoldable pub classes_plan_of : Bytes → Option (List NetId) → Reads → Result Analysis Status
classes_plan_of netlist walk reads = do
  c ← netlist_step netlist walk reads
  counted ← unless (if nat_lt 1024 (length c.outputs) then Some status.ManyOutputs else None) c
  runs ← read_as which.Workload status.Workload (workload_of counted) reads
  let all : Part = record { name = codes "all"; role = Mission; covered = false; permanent = 0; transient = 0 }
  let rates : RateTable = record { patterns = record { name = []; star = true; part = 0 } ∷ []; parts = all ∷ [] }
  let points : Points = record { goals = record { name = []; ftti = None; observe = counted.outputs } ∷ []; alarm = [] }
  Ok (record { circuit = counted; runs = runs; rates = rates; points = points; settings = settings_of [] [] })

-- the plan's own header over these files
abbrev pub own_header : Reads → Analysis → Bytes
own_header reads p =
    let bytes : Which → Bytes = λ file. bytes_of (reads file) in
    header_text (own_digest p.settings (bytes which.Netlist) (bytes which.Workload) (bytes which.Rates) (bytes which.Points)) (batch_count p)

-- RESULT, or another result file: what is kept of it under the plan's own header
abbrev pub rows_in : Which → Reads → Analysis → Result KeptRows Status
rows_in file reads p = read_as file status.Result (kept (own_header reads p) p) reads

-- a file, where NEWRATES stands in the place of RATES
abbrev pub new_file : Which → Which
new_file file = elim file [ which.Rates ↦ which.NewRates | other ↦ other ]

-- what refuses RATES, told of NEWRATES
abbrev pub of_new : Status → Status
of_new (status.Rates fault) = status.NewRates fault
of_new (status.Plan cause) = status.NewPlan cause
of_new (status.TooLong file) = status.TooLong (new_file file)
of_new (status.ReadFault file) = status.ReadFault (new_file file)
of_new ended = ended

-- the same of a step
abbrev pub told_of_new : {A : Type 0} → Result A Status → Result A Status
told_of_new (Ok x) = Ok x
told_of_new (Err ended) = Err (of_new ended)

-- what the files stand for: a plan; a netlist, its workload and settings; a netlist and rates; a plan and its kept rows, or those of two files;
-- a plan with other rates, and rows by its weights; or a plan without runs, and its held inputs
pub data Judged : Type 0 where
  Planned : (p : Analysis) → Judged
  Driven : (c : Circuit) → (runs : List Run) → (set : Settings) → Judged
  Rated : (c : Circuit) → (t : RateTable) → Judged
  Begun : (p : Analysis) → (k : KeptRows) → Judged
  Merged : (p : Analysis) → (both : List Row) → Judged
  Reweighed : (p : Analysis) → (rows : List Row) → Judged
  Supposed : (p : Analysis) → (held : List Held) → Judged

-- what the files of this kind stand for, or the first refusal. Of two result files FIRST is judged whole before SECOND, and then the batches
-- of both; of RESULT (FIRST) and NEWRATES, RESULT by the plan with RATES before the plan with NEWRATES; the plan without runs before HELD; with a netlist and rates alone a net may lack a rate; a generated netlist has no name, is BLIF, and has flips in cycle 1 and no pulses
unfoldable pub judge : Bytes → Option (List NetId) → Settings → Reads → Kind → Result Judged Status
judge netlist walk set reads kind.Observed = classes_plan_of netlist walk reads >>= (λ p. Ok (Planned p))
judge netlist walk set reads kind.Planned = plan_of netlist walk set reads >>= (λ p. Ok (Planned p))
judge netlist walk set reads (kind.Generated stages) = plan_of netlist walk (settings_of (1 ∷ []) []) reads >>= (λ p. Ok (Planned p))
judge netlist walk set reads kind.Driven = do
  c ← netlist_step netlist walk reads
  runs ← read_as which.Workload status.Workload (workload_of c) reads
  Ok (Driven c runs set)
judge netlist walk set reads kind.Rated = do
  c ← netlist_step netlist walk reads
  table ← read_as which.Rates status.Rates rates_of reads
  Ok (Rated c table)
judge netlist walk set reads kind.Begun = do
  p ← plan_of netlist walk set reads
  k ← rows_in which.Result reads p
  Ok (Begun p k)
judge netlist walk set reads kind.Merged = do
  p ← plan_of netlist walk set reads
  first ← rows_in which.First reads p
  second ← rows_in which.Second reads p
  both ← or_refuse status.Merge (merged p first.rows second.rows)
  Ok (Merged p both)
judge netlist walk set reads kind.Reweighed = do
  p ← plan_of netlist walk set reads
  k ← rows_in which.First reads p
  q ← told_of_new (plan_of netlist walk set (exchanged reads))
  Ok (Reweighed q (reweighed q k.rows))
judge netlist walk set reads kind.Supposed = do
  p ← runless_plan_of netlist walk set reads
  held ← read_as which.Held status.Held (held_of p.circuit) reads
  Ok (Supposed p held)

-- where the file of this name was read and is a netlist, it is `c`, and `walk` is what is answered of its loops
abbrev pub IsLoopAnswer : Bytes → Reads → Circuit → Option (List NetId) → Type 0
IsLoopAnswer netlist reads c walk = (d : Circuit) → netlist_read netlist reads ≡ Ok d → (c ≡ d) × AnswersLoops c walk
