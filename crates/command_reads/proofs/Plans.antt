-- The plan behind a netlist: what refuses it, and what it is made of.
use Rattle.std.proofs.Common.{◌≡◌, ◌∙◌, ap, refl, sym, List, inl, inr}
use Rattle.std.specs.Prelude.{Option, Some, None, Result, Ok, Err, option_map}
use Rattle.fm_base.specs.Names.{Bytes}
use Rattle.circuit.specs.declared.parts.NetId.{NetId}
use Rattle.circuit.specs.Circuit.{Circuit}
use Rattle.workload.specs.declared.run.Run.{Run}
use Rattle.workload.specs.WorkloadFile.{workload_of}
use Rattle.rate_table.specs.RatesFile.{rates_of}
use Rattle.rate_table.specs.Table.{RateTable}
use Rattle.alarm_points.specs.declared.Points.{Points}
use Rattle.alarm_points.specs.PointsFile.{points_of}
use Rattle.campaign_plan.specs.declared.PlanRefusal.{PlanRefusal}
use Rattle.campaign_plan.specs.declared.Settings.{Settings}
use Rattle.campaign_plan.specs.Analysis.{Analysis}
use Rattle.campaign_plan.specs.PlanFaults.{plan_refusal}
use Rattle.commands.specs.declared.command.Which.TheVariants as which
use Rattle.refusals.specs.declared.status.Status.{Status}
use Rattle.refusals.specs.declared.status.Status.TheVariants as status
use Rattle.refusals.proofs.Refusals.{ok_same}
use Rattle.command_reads.specs.declared.tables.Tables.{Tables}
use Rattle.command_reads.specs.Files.{Reads}
use Rattle.command_reads.specs.FirstRefusal.{netlist_step, plan_of, read_as, unless, ◌>>=◌}
use Rattle.command_reads.specs.Answers.{AnswersAs, TablesAs, plan_behind, plan_step}

-- a plan that was made is of what it was made of
pub plan_same : (p made : Analysis) → plan_step p ≡ Ok made → made ≡ p
plan_same p made e = by_refusal (plan_refusal p) e
  where
    by_refusal : (r : Option PlanRefusal) → unless (option_map status.Plan r) p ≡ Ok made → made ≡ p
    by_refusal None is = ok_same (Ok made) made p refl (sym is)
    by_refusal (Some refusal) is = let bad : Err (status.Plan refusal) ≡ Ok made = is in cc bad

-- the plan of four files is the netlist's step, and then the plan behind it
pub plan_is : (netlist : Bytes) (walk : Option (List NetId)) (set : Settings) (reads : Reads)
    → plan_of netlist walk set reads ≡ (netlist_step netlist walk reads >>= (λ c. plan_behind c set reads))
unfolding plan_of plan_behind
plan_is netlist walk set reads = refl

module _ (c : Circuit) (reads : Reads) where
  -- the plan, by what stands in its files
  abbrev pub made_of : Settings → List Run → RateTable → Points → Analysis
  made_of set runs rates points = record { circuit = c; runs = runs; rates = rates; points = points; settings = set }

  abbrev pub after_rates : Settings → List Run → RateTable → Result Analysis Status
  after_rates set runs rates = read_as which.Points status.Points (points_of c) reads >>= (λ points. plan_step (made_of set runs rates points))

  abbrev pub after_runs : Settings → List Run → Result Analysis Status
  after_runs set runs = read_as which.Rates status.Rates rates_of reads >>= after_rates set runs

  pub behind_is : (set : Settings) → plan_behind c set reads ≡ (read_as which.Workload status.Workload (workload_of c) reads >>= after_runs set)
  unfolding plan_behind
  behind_is set = refl

  -- a step that refuses the plan, whichever its settings
  tables_by : {A : Type 0} (step : Result A Status) (ended : Status) → ((set : Settings) → step ≡ Err ended → plan_behind c set reads ≡ Err ended)
      → AnswersAs step (Err ended) → TablesAs c reads (Err ended)
  tables_by step ended refused (inl memory, plain) = (inl memory, plain)
  tables_by step ended refused (inr is, plain) = (inr (λ set. refused set is), plain)

  -- the workload is refused
  pub tables_runs : (ended : Status) → AnswersAs (read_as which.Workload status.Workload (workload_of c) reads) (Err ended) → TablesAs c reads (Err ended)
  tables_runs ended =
      tables_by (read_as which.Workload status.Workload (workload_of c) reads) ended (λ set is. behind_is set ∙ ap (λ r. r >>= after_runs set) is)

  module _ (runs : List Run) (work : read_as which.Workload status.Workload (workload_of c) reads ≡ Ok runs) where
    runs_are : (set : Settings) → plan_behind c set reads ≡ after_runs set runs
    runs_are set = behind_is set ∙ ap (λ r. r >>= after_runs set) work

    -- the rates are refused
    pub tables_rates : (ended : Status) → AnswersAs (read_as which.Rates status.Rates rates_of reads) (Err ended) → TablesAs c reads (Err ended)
    tables_rates ended =
        tables_by (read_as which.Rates status.Rates rates_of reads) ended (λ set is. runs_are set ∙ ap (λ r. r >>= after_rates set runs) is)

    module _ (rates : RateTable) (table : read_as which.Rates status.Rates rates_of reads ≡ Ok rates) where
      rates_are : (set : Settings) → plan_behind c set reads ≡ after_rates set runs rates
      rates_are set = runs_are set ∙ ap (λ r. r >>= after_rates set runs) table

      -- the points are refused
      pub tables_points : (ended : Status) → AnswersAs (read_as which.Points status.Points (points_of c) reads) (Err ended) → TablesAs c reads (Err ended)
      tables_points ended =
          tables_by (read_as which.Points status.Points (points_of c) reads) ended
          (λ set is. rates_are set ∙ ap (λ r. r >>= (λ points. plan_step (made_of set runs rates points))) is)

  -- a refusal of the tables is one of the plan
  pub tables_refuse : (set : Settings) (ended : Status) → TablesAs c reads (Err ended) → AnswersAs (plan_behind c set reads) (Err ended)
  tables_refuse set ended (inl memory, plain) = (inl memory, plain)
  tables_refuse set ended (inr is, plain) = (inr (is set), plain)

  -- behind tables that were read stands the plan's own refusal
  pub tables_give : (set : Settings) (made : Tables) → TablesAs c reads (Ok made)
      → plan_behind c set reads ≡ plan_step (record { circuit = c; runs = made.work; rates = made.rates; points = made.points; settings = set })
  tables_give set made (work, rates, points) =
      rates_are made.work work made.rates rates set ∙ ap (λ r. r >>= (λ points. plan_step (made_of set made.work made.rates points))) points

-- ---- what a plan was made of

-- a step that gives something gives it behind what stood before it
pub bound : {A B : Type 0} (first : Result A Status) (next : A → Result B Status) (y : B) → (first >>= next) ≡ Ok y → (x : A) × (first ≡ Ok x) × (next x ≡ Ok y)
bound (Ok x) next y e = (x, refl, e)
bound (Err ended) next y e = let bad : Err ended ≡ Ok y = e in cc bad

-- the parts of a plan are those that its files stand for
pub record AreParts (netlist : Bytes) (set : Settings) (reads : Reads) (p : Analysis) : Type 0 where
  pub circuit : netlist_step netlist None reads ≡ Ok p.circuit
  pub runs : read_as which.Workload status.Workload (workload_of p.circuit) reads ≡ Ok p.runs
  pub points : read_as which.Points status.Points (points_of p.circuit) reads ≡ Ok p.points
  pub settings : p.settings ≡ set

pub parts_of : (netlist : Bytes) (set : Settings) (reads : Reads) (p : Analysis) → plan_of netlist None set reads ≡ Ok p → AreParts netlist set reads p
parts_of netlist set reads p e =
    let net = bound (netlist_step netlist None reads) (λ c. plan_behind c set reads) p (sym (plan_is netlist None set reads) ∙ e) in
    let c = net.0 in
    let work = bound (read_as which.Workload status.Workload (workload_of c) reads) (after_runs c reads set) p (sym (behind_is c reads set) ∙ net.2) in
    let rates = bound (read_as which.Rates status.Rates rates_of reads) (after_rates c reads set work.0) p work.2 in
    let points = bound (read_as which.Points status.Points (points_of c) reads) (λ it. plan_step (made_of c reads set work.0 rates.0 it)) p rates.2 in
    let same : p ≡ made_of c reads set work.0 rates.0 points.0 = plan_same (made_of c reads set work.0 rates.0 points.0) p points.2 in
    let circuit : p.circuit ≡ c = ap (λ (q : Analysis). q.circuit) same in
    record {
      circuit = net.1 ∙ ap (λ d. Ok d) (sym circuit);
      runs = ap (λ d. read_as which.Workload status.Workload (workload_of d) reads) circuit ∙ work.1 ∙ ap (λ (q : Analysis). Ok q.runs) (sym same);
      points = ap (λ d. read_as which.Points status.Points (points_of d) reads) circuit ∙ points.1 ∙ ap (λ (q : Analysis). Ok q.points) (sym same);
      settings = ap (λ (q : Analysis). q.settings) same;
    }
