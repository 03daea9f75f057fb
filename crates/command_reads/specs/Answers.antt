-- Shapes of private steps: what the steps over what was read answer. Nothing public cites them but what `Judging` has.
use Rattle.std.specs.Prelude.{◌≡◌, ◌⊎◌, List, [], ◌∷◌, Option, Some, None, Result, Ok, Err, true, false, length, map, option_map, if◌then◌else◌, nat_lt, codes}
use Rattle.fm_base.specs.Names.{Bytes}
use Rattle.metric_sums.specs.declared.Role.TheVariants.{Mission}
use Rattle.circuit.specs.declared.parts.NetId.{NetId}
use Rattle.circuit.specs.Circuit.{Circuit}
use Rattle.circuit.specs.Loop.{AnswersLoops, HasNoLoop, IsShownLoop}
use Rattle.circuit.specs.Order.{IsOrder}
use Rattle.workload.specs.declared.run.Run.{Run}
use Rattle.workload.specs.WorkloadFile.{workload_of}
use Rattle.rate_table.specs.RatesFile.{rates_of}
use Rattle.rate_table.specs.Table.{RateTable}
use Rattle.rate_table.specs.declared.Part.{Part}
use Rattle.alarm_points.specs.PointsFile.{all_outputs, points_of}
use Rattle.alarm_points.specs.PointsKept.{ArePointsFor}
use Rattle.alarm_points.specs.declared.Points.{Points}
use Rattle.campaign_plan.specs.declared.Settings.{Settings}
use Rattle.campaign_plan.specs.Analysis.{Analysis}
use Rattle.campaign_plan.specs.Batches.{AreDistinct}
use Rattle.campaign_plan.specs.Kept.{IsPlan}
use Rattle.campaign_plan.specs.PlanFaults.{plan_refusal}
use Rattle.result_file.specs.declared.KeptRows.{KeptRows}
use Rattle.result_file.specs.declared.Row.{Row}
use Rattle.result_file.specs.KeptRows.{entry_of, kept_entries}
use Rattle.result_merge.specs.Merged.{merged}
use Rattle.result_reweigh.specs.Reweighed.{reweighed}
use Rattle.held_inputs.specs.HeldKept.{AreHeldFor}
use Rattle.commands.specs.declared.command.Kind.TheVariants as kind
use Rattle.commands.specs.declared.command.Which.TheVariants as which
use Rattle.commands.specs.Commands.{settings_of}
use Rattle.refusals.specs.declared.refused.Refused.{Refused}
use Rattle.refusals.specs.declared.refused.Refused.TheVariants.{By, Looped}
use Rattle.refusals.specs.declared.status.Status.{Status}
use Rattle.refusals.specs.declared.status.Status.TheVariants as status
use Rattle.refusals.specs.NetlistFile.{or_refuse}
use Rattle.refusals.specs.Refusals.{HasItsNets, IsPlain, status_of}
use Rattle.refusals.specs.WantOfMemory.{IsMemory}
use Rattle.command_reads.specs.declared.begun.Begun.{Begun}
use Rattle.command_reads.specs.declared.driven.Driven.{Driven}
use Rattle.command_reads.specs.declared.merged.Merged.{Merged}
use Rattle.command_reads.specs.declared.netlist.Ordered.{Ordered}
use Rattle.command_reads.specs.declared.observed.Observed.{Observed}
use Rattle.command_reads.specs.declared.planned.Planned.{Planned}
use Rattle.command_reads.specs.declared.rated.Rated.{Rated}
use Rattle.command_reads.specs.declared.reweighed.Reweighed.{Reweighed}
use Rattle.command_reads.specs.declared.supposed.Runless.{Runless}
use Rattle.command_reads.specs.declared.supposed.RunlessTables.{RunlessTables}
use Rattle.command_reads.specs.declared.supposed.Supposed.{Supposed}
use Rattle.command_reads.specs.declared.tables.Tables.{Tables}
use Rattle.command_reads.specs.Files.{Reads, known_by}
use Rattle.command_reads.specs.FirstRefusal.{Judged, Planned as StandsPlanned, Driven as StandsDriven, Rated as StandsRated, Begun as StandsBegun, Merged as StandsMerged, Reweighed as StandsReweighed, Supposed as StandsSupposed, judge, netlist_read, of_new, netlist_step, own_header, plan_of, read_as, rows_in, runless_plan_of, unless, ◌>>=◌}

-- a step over bytes: it gives this, or refuses by a status that names no net; want of memory is free
abbrev pub AnswersAs : {A : Type 0} → Result A Status → Result A Status → Type 0
AnswersAs expected (Ok x) = expected ≡ Ok x
AnswersAs expected (Err ended) = (IsMemory ended ⊎ (expected ≡ Err ended)) × IsPlain ended

-- `walk` is what is answered of the netlist's loops, where it was read
abbrev pub LoopsAnswered : (netlist : Bytes) → Reads → Option (List NetId) → Type 0
LoopsAnswered netlist reads walk = (c : Circuit) → netlist_read netlist reads ≡ Ok c → AnswersLoops c walk

-- steps from the netlist on, by what is answered of loops: they give this, or refuse; the nets of a loop are those of the netlist
abbrev pub TakesAs : {A : Type 0} → (netlist : Bytes) → Reads → (Option (List NetId) → Result A Status) → Result A Refused → Type 0
TakesAs netlist reads step (Ok x) = (step None ≡ Ok x) × LoopsAnswered netlist reads None
TakesAs netlist reads step (Err refused) =
    (IsMemory (status_of refused)
    ⊎ ((walk : Option (List NetId)) × LoopsAnswered netlist reads walk × (step walk ≡ Err (status_of refused))))
    × HasItsNets netlist (known_by (reads which.Netlist)) refused

-- an order of the netlist's tables, or a loop
abbrev pub OrdersAs : Circuit → Result Ordered Refused → Type 0
OrdersAs c (Ok made) = (made.net ≡ c) × IsOrder c made.order × HasNoLoop c
OrdersAs c (Err (By ended)) = IsMemory ended
OrdersAs c (Err (Looped walk net)) = (net ≡ c) × IsShownLoop c walk

-- NETLIST
abbrev pub NetTakenAs : (netlist : Bytes) → Reads → Result Ordered Refused → Type 0
NetTakenAs netlist reads (Ok made) = TakesAs netlist reads (λ walk. netlist_step netlist walk reads) (Ok made.net)
NetTakenAs netlist reads (Err refused) = TakesAs netlist reads (λ walk. netlist_step netlist walk reads) (Err refused)

-- TOO MANY FAULTS, MISSING RATE, IDLE RATE
abbrev pub plan_step : Analysis → Result Analysis Status
plan_step p = unless (option_map status.Plan (plan_refusal p)) p

-- the plan behind a netlist
unfoldable pub plan_behind : Circuit → Settings → Reads → Result Analysis Status
plan_behind c set reads = do
  runs ← read_as which.Workload status.Workload (workload_of c) reads
  rates ← read_as which.Rates status.Rates rates_of reads
  points ← read_as which.Points status.Points (points_of c) reads
  plan_step (record { circuit = c; runs = runs; rates = rates; points = points; settings = set })

-- WORKLOAD, RATES, POINTS behind a netlist, or the first refusal, whichever the settings
abbrev pub TablesAs : Circuit → Reads → Result Tables Status → Type 0
TablesAs c reads (Ok made) =
    (read_as which.Workload status.Workload (workload_of c) reads ≡ Ok made.work) × (read_as which.Rates status.Rates rates_of reads ≡ Ok made.rates)
    × (read_as which.Points status.Points (points_of c) reads ≡ Ok made.points)
TablesAs c reads (Err ended) = (IsMemory ended ⊎ ((set : Settings) → plan_behind c set reads ≡ Err ended)) × IsPlain ended

-- the plan of what was read
abbrev pub PlannedAs : Analysis → Result Planned Status → Type 0
PlannedAs p (Ok made) = AnswersAs (plan_step p) (Ok made.plan)
PlannedAs p (Err ended) = AnswersAs (plan_step p) (Err ended)

-- the order is one of the plan's tables, and the header is the plan's own
pub record IsSound (reads : Reads) (made : Planned) : Type 0 where
  pub plan : IsPlan made.plan
  pub order : IsOrder made.plan.circuit made.order
  pub own : made.own ≡ own_header reads made.plan
  pub header : length made.own ≡ 89

-- the settings of `gen`
abbrev pub generated_settings : Settings
generated_settings = settings_of (1 ∷ []) []

-- the plan of the four files
abbrev pub PlansAs : (netlist : Bytes) → Settings → Reads → Result Planned Refused → Type 0
PlansAs netlist set reads (Ok made) = TakesAs netlist reads (λ walk. plan_of netlist walk set reads) (Ok made.plan)
PlansAs netlist set reads (Err refused) = TakesAs netlist reads (λ walk. plan_of netlist walk set reads) (Err refused)

-- a plan and what is kept of its result file
abbrev pub BeginsAs : (netlist : Bytes) → Settings → Reads → Result Begun Refused → Type 0
BeginsAs netlist set reads (Ok made) =
    TakesAs netlist reads (λ walk. judge netlist walk set reads kind.Begun) (Ok (StandsBegun made.planned.plan made.kept))
BeginsAs netlist set reads (Err refused) = TakesAs netlist reads (λ walk. judge netlist walk set reads kind.Begun) (Err refused)

-- the two result files behind a plan
unfoldable pub both_behind : Analysis → Reads → Result Judged Status
both_behind p reads = do
  first ← rows_in which.First reads p
  second ← rows_in which.Second reads p
  both ← or_refuse status.Merge (merged p first.rows second.rows)
  Ok (StandsMerged p both)

abbrev pub BothAs : Analysis → Reads → Result (List Row) Status → Type 0
BothAs p reads (Ok rows) = AnswersAs (both_behind p reads) (Ok (StandsMerged p rows))
BothAs p reads (Err ended) = AnswersAs (both_behind p reads) (Err ended)

-- a plan and two of its result files
abbrev pub MergesAs : (netlist : Bytes) → Settings → Reads → Result Merged Refused → Type 0
MergesAs netlist set reads (Ok made) =
    TakesAs netlist reads (λ walk. judge netlist walk set reads kind.Merged) (Ok (StandsMerged made.planned.plan made.rows))
MergesAs netlist set reads (Err refused) = TakesAs netlist reads (λ walk. judge netlist walk set reads kind.Merged) (Err refused)

-- a refusal of RATES, told of NEWRATES
abbrev pub refused_new : Refused → Refused
refused_new (By ended) = By (of_new ended)
refused_new (Looped walk net) = Looped walk net

-- a plan with other rates, and rows by its weights
abbrev pub ReweighsAs : (netlist : Bytes) → Settings → Reads → Result Reweighed Refused → Type 0
ReweighsAs netlist set reads (Ok made) =
    TakesAs netlist reads (λ walk. judge netlist walk set reads kind.Reweighed) (Ok (StandsReweighed made.planned.plan made.rows))
ReweighsAs netlist set reads (Err refused) = TakesAs netlist reads (λ walk. judge netlist walk set reads kind.Reweighed) (Err refused)

-- the rows of RESULT, by a plan with RATES
pub record AreBefore (netlist : Bytes) (set : Settings) (reads : Reads) (k : KeptRows) : Type 0 where
  pub plan : Analysis
  pub planned : TakesAs netlist reads (λ walk. plan_of netlist walk set reads) (Ok plan)
  pub kept : rows_in which.First reads plan ≡ Ok k
  pub distinct : AreDistinct plan (kept_entries k)

abbrev pub KeepsAs : (netlist : Bytes) → Settings → Reads → Result KeptRows Refused → Type 0
KeepsAs netlist set reads (Ok k) = AreBefore netlist set reads k
KeepsAs netlist set reads (Err refused) = TakesAs netlist reads (λ walk. judge netlist walk set reads kind.Reweighed) (Err refused)

-- the batches of rows are distinct in each plan that the four files can be
abbrev pub StayDistinct : (netlist : Bytes) → Settings → Reads → List Row → Type 0
StayDistinct netlist set reads rows = (p : Analysis) → plan_of netlist None set reads ≡ Ok p → AreDistinct p (map entry_of rows)

-- the plan of the four files, and rows by its weights
abbrev pub WeighsAs : (netlist : Bytes) → Settings → Reads → List Row → Result Reweighed Refused → Type 0
WeighsAs netlist set reads rows (Ok made) =
    TakesAs netlist reads (λ walk. plan_of netlist walk set reads) (Ok made.planned.plan) × (made.rows ≡ reweighed made.planned.plan rows)
WeighsAs netlist set reads rows (Err refused) = TakesAs netlist reads (λ walk. plan_of netlist walk set reads) (Err refused)

-- at most 1,024 outputs, in `classes`, all of which are observed
abbrev pub outputs_step : Circuit → Result Points Status
outputs_step c = unless (if nat_lt 1024 (length c.outputs) then Some status.ManyOutputs else None) (all_outputs c)

-- the plan of `classes`: all outputs observed, no alarm, no flips, no pulses, and for all nets one part of role mission that isn't covered
abbrev pub classes_plan : Circuit → List Run → Analysis
classes_plan c runs =
    let all : Part = record { name = codes "all"; role = Mission; covered = false; permanent = 0; transient = 0 } in
    let rates : RateTable = record { patterns = record { name = []; star = true; part = 0 } ∷ []; parts = all ∷ [] } in
    record { circuit = c; runs = runs; rates = rates; points = all_outputs c; settings = settings_of [] [] }

-- what `classes` works on fits together
pub record IsObserved (made : Observed) : Type 0 where
  pub no_loop : HasNoLoop made.ordered.net
  pub order : IsOrder made.ordered.net made.ordered.order
  pub points : made.points ≡ all_outputs made.ordered.net
  pub fit : ArePointsFor made.ordered.net made.points

abbrev pub ObservesAs : (netlist : Bytes) → Settings → Reads → Result Observed Refused → Type 0
ObservesAs netlist set reads (Ok made) =
    TakesAs netlist reads (λ walk. judge netlist walk set reads kind.Observed) (Ok (StandsPlanned (classes_plan made.ordered.net made.work)))
ObservesAs netlist set reads (Err refused) = TakesAs netlist reads (λ walk. judge netlist walk set reads kind.Observed) (Err refused)

-- what `trace` works on
abbrev pub DrivesAs : (netlist : Bytes) → Settings → Reads → Result Driven Refused → Type 0
DrivesAs netlist set reads (Ok made) =
    TakesAs netlist reads (λ walk. judge netlist walk set reads kind.Driven) (Ok (StandsDriven made.ordered.net made.work made.settings))
DrivesAs netlist set reads (Err refused) = TakesAs netlist reads (λ walk. judge netlist walk set reads kind.Driven) (Err refused)

abbrev pub RatesAs : (netlist : Bytes) → Settings → Reads → Result Rated Refused → Type 0
RatesAs netlist set reads (Ok made) =
    TakesAs netlist reads (λ walk. judge netlist walk set reads kind.Rated) (Ok (StandsRated made.ordered.net made.rates))
RatesAs netlist set reads (Err refused) = TakesAs netlist reads (λ walk. judge netlist walk set reads kind.Rated) (Err refused)

-- what `always` works on fits together: a plan that has no runs, an order of its tables, and held inputs of its netlist
pub record IsSupposed (made : Supposed) : Type 0 where
  pub plan : IsPlan made.plan
  pub order : IsOrder made.plan.circuit made.order
  pub no_loop : HasNoLoop made.plan.circuit
  pub held : AreHeldFor made.plan.circuit made.held
  pub runs : made.plan.runs ≡ []

abbrev pub SupposesAs : (netlist : Bytes) → Settings → Reads → Result Supposed Refused → Type 0
SupposesAs netlist set reads (Ok made) =
    TakesAs netlist reads (λ walk. judge netlist walk set reads kind.Supposed) (Ok (StandsSupposed made.plan made.held))
SupposesAs netlist set reads (Err refused) = TakesAs netlist reads (λ walk. judge netlist walk set reads kind.Supposed) (Err refused)

-- the plan without runs behind a netlist
unfoldable pub runless_behind : Circuit → Settings → Reads → Result Analysis Status
runless_behind c set reads = do
  rates ← read_as which.Rates status.Rates rates_of reads
  points ← read_as which.Points status.Points (points_of c) reads
  plan_step (record { circuit = c; runs = []; rates = rates; points = points; settings = set })

-- RATES, POINTS behind a netlist, or the first refusal, whichever the settings
abbrev pub RunlessTablesAs : Circuit → Reads → Result RunlessTables Status → Type 0
RunlessTablesAs c reads (Ok made) =
    (read_as which.Rates status.Rates rates_of reads ≡ Ok made.rates) × (read_as which.Points status.Points (points_of c) reads ≡ Ok made.points)
RunlessTablesAs c reads (Err ended) = (IsMemory ended ⊎ ((set : Settings) → runless_behind c set reads ≡ Err ended)) × IsPlain ended

-- the plan of what was read
abbrev pub RunlessAs : Analysis → Result Runless Status → Type 0
RunlessAs p (Ok made) = AnswersAs (plan_step p) (Ok made.plan)
RunlessAs p (Err ended) = AnswersAs (plan_step p) (Err ended)

-- the plan without runs of the three files
abbrev pub RunlessPlansAs : (netlist : Bytes) → Settings → Reads → Result Runless Refused → Type 0
RunlessPlansAs netlist set reads (Ok made) = TakesAs netlist reads (λ walk. runless_plan_of netlist walk set reads) (Ok made.plan)
RunlessPlansAs netlist set reads (Err refused) = TakesAs netlist reads (λ walk. runless_plan_of netlist walk set reads) (Err refused)

-- it has no runs, and the order is one of its tables
pub record IsRunless (made : Runless) : Type 0 where
  pub order : IsOrder made.plan.circuit made.order
  pub runs : made.plan.runs ≡ []
