-- The plan without runs behind a netlist: what refuses it, and what is judged behind it.
use Rattle.std.proofs.Common.{◌≡◌, ◌∙◌, ap, refl, List, [], inl, inr}
use Rattle.std.specs.Prelude.{Option, Result, Ok, Err}
use Rattle.fm_base.specs.Names.{Bytes}
use Rattle.circuit.specs.declared.parts.NetId.{NetId}
use Rattle.circuit.specs.Circuit.{Circuit}
use Rattle.rate_table.specs.RatesFile.{rates_of}
use Rattle.rate_table.specs.Table.{RateTable}
use Rattle.alarm_points.specs.PointsFile.{points_of}
use Rattle.campaign_plan.specs.declared.Settings.{Settings}
use Rattle.campaign_plan.specs.Analysis.{Analysis}
use Rattle.coverage_claim.specs.declared.parts.Held.{Held}
use Rattle.held_inputs.specs.HeldFile.{held_of}
use Rattle.commands.specs.declared.command.Kind.TheVariants as kind
use Rattle.commands.specs.declared.command.Which.TheVariants as which
use Rattle.refusals.specs.declared.refused.Refused.{Refused}
use Rattle.refusals.specs.declared.refused.Refused.TheVariants.{By}
use Rattle.refusals.specs.declared.status.Status.{Status}
use Rattle.refusals.specs.declared.status.Status.TheVariants as status
use Rattle.command_reads.specs.declared.supposed.RunlessTables.{RunlessTables}
use Rattle.command_reads.specs.Files.{Reads}
use Rattle.command_reads.specs.FirstRefusal.{Judged, Supposed, judge, netlist_step, read_as, runless_plan_of, ◌>>=◌}
use Rattle.command_reads.specs.Answers.{AnswersAs, RunlessTablesAs, TakesAs, plan_step, runless_behind}
use Rattle.command_reads.proofs.Plans.{after_rates, after_runs, made_of}
use Rattle.command_reads.proofs.Steps.{first_refused, taken_next, taken_next_refused, taken_refused}

-- the plan without runs of three files is the netlist's step, and then the plan behind it
pub runless_is : (netlist : Bytes) (walk : Option (List NetId)) (set : Settings) (reads : Reads)
    → runless_plan_of netlist walk set reads ≡ (netlist_step netlist walk reads >>= (λ c. runless_behind c set reads))
unfolding runless_plan_of runless_behind
runless_is netlist walk set reads = refl

module _ (c : Circuit) (reads : Reads) where
  -- it is what stands behind a workload without runs
  behind_is : (set : Settings) → runless_behind c set reads ≡ after_runs c reads set []
  unfolding runless_behind
  behind_is set = refl

  -- a step that refuses the plan, whichever its settings
  tables_by : {A : Type 0} (step : Result A Status) (ended : Status) → ((set : Settings) → step ≡ Err ended → runless_behind c set reads ≡ Err ended)
      → AnswersAs step (Err ended) → RunlessTablesAs c reads (Err ended)
  tables_by step ended refused (inl memory, plain) = (inl memory, plain)
  tables_by step ended refused (inr is, plain) = (inr (λ set. refused set is), plain)

  -- the rates are refused
  pub runless_rates : (ended : Status) → AnswersAs (read_as which.Rates status.Rates rates_of reads) (Err ended) → RunlessTablesAs c reads (Err ended)
  runless_rates ended =
      tables_by (read_as which.Rates status.Rates rates_of reads) ended (λ set is. behind_is set ∙ ap (λ r. r >>= after_rates c reads set []) is)

  module _ (rates : RateTable) (table : read_as which.Rates status.Rates rates_of reads ≡ Ok rates) where
    rates_are : (set : Settings) → runless_behind c set reads ≡ after_rates c reads set [] rates
    rates_are set = behind_is set ∙ ap (λ r. r >>= after_rates c reads set []) table

    -- the points are refused
    pub runless_points : (ended : Status) → AnswersAs (read_as which.Points status.Points (points_of c) reads) (Err ended) → RunlessTablesAs c reads (Err ended)
    runless_points ended =
        tables_by (read_as which.Points status.Points (points_of c) reads) ended
        (λ set is. rates_are set ∙ ap (λ r. r >>= (λ points. plan_step (made_of c reads set [] rates points))) is)

  -- a refusal of the tables is one of the plan
  pub runless_refuse : (set : Settings) (ended : Status) → RunlessTablesAs c reads (Err ended) → AnswersAs (runless_behind c set reads) (Err ended)
  runless_refuse set ended (inl memory, plain) = (inl memory, plain)
  runless_refuse set ended (inr is, plain) = (inr (is set), plain)

  -- behind tables that were read stands the plan's own refusal
  pub runless_give : (set : Settings) (made : RunlessTables) → RunlessTablesAs c reads (Ok made)
      → runless_behind c set reads ≡ plan_step (record { circuit = c; runs = []; rates = made.rates; points = made.points; settings = set })
  runless_give set made (rates, points) =
      rates_are made.rates rates set ∙ ap (λ r. r >>= (λ points. plan_step (made_of c reads set [] made.rates points))) points

-- ---- the held inputs behind the plan

module _ (netlist : Bytes) (set : Settings) (reads : Reads) where
  abbrev plans : Option (List NetId) → Result Analysis Status
  plans walk = runless_plan_of netlist walk set reads

  abbrev supposes : Option (List NetId) → Result Judged Status
  supposes walk = judge netlist walk set reads kind.Supposed

  abbrev held_in : Analysis → Result (List Held) Status
  held_in p = read_as which.Held status.Held (held_of p.circuit) reads

  abbrev supposed_next : Analysis → Result Judged Status
  supposed_next p = held_in p >>= (λ held. Ok (Supposed p held))

  supposed_is : (walk : Option (List NetId)) → supposes walk ≡ (plans walk >>= supposed_next)
  unfolding judge
  supposed_is walk = refl

  pub supposed_unplanned : (refused : Refused) → TakesAs netlist reads plans (Err refused) → TakesAs netlist reads supposes (Err refused)
  supposed_unplanned = taken_refused netlist reads plans supposed_next supposes supposed_is

  pub supposed_refused : (p : Analysis) (ended : Status) → TakesAs netlist reads plans (Ok p) → AnswersAs (held_in p) (Err ended)
      → TakesAs netlist reads supposes (Err (By ended))
  supposed_refused p ended planned refused =
      taken_next_refused netlist reads plans supposed_next supposes supposed_is p ended planned
      (first_refused (held_in p) (λ held. Ok (Supposed p held)) ended refused)

  pub supposed_made : (p : Analysis) (held : List Held) → TakesAs netlist reads plans (Ok p) → held_in p ≡ Ok held
      → TakesAs netlist reads supposes (Ok (Supposed p held))
  supposed_made p held planned read =
      taken_next netlist reads plans supposed_next supposes supposed_is p (Supposed p held) planned (ap (λ r. r >>= (λ it. Ok (Supposed p it))) read)
