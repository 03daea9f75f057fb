-- How a plan is made: the steps, and what is answered.
use Rattle.std.specs.Prelude.{◌≡◌, ℕ, ◌<◌, ◌≤◌, ◌^◌, List, length, map, All, Option, Some, None, unwrap_or, Result, Ok, Err}
use Rattle.circuit.specs.declared.parts.Fault.{Fault}
use Rattle.fm_base.specs.Lists.{below}
use Rattle.campaign_plan.specs.declared.PlanRefusal.{PlanRefusal}
use Rattle.campaign_plan.specs.declared.PlanRefusal.TheVariants.{TooManyFaults, MissingRate, IdleRate, Memory}
use Rattle.campaign_plan.specs.declared.numbers.Inputs.{Inputs}
use Rattle.campaign_plan.specs.declared.tables.FaultTables.{FaultTables}
use Rattle.campaign_plan.specs.Analysis.{Analysis, all_faults, fault_count, part_count, part_of}
use Rattle.campaign_plan.specs.Steps.{part_of_net}
use Rattle.campaign_plan.specs.PlanFaults.{missing_rate, plan_refusal}
use Rattle.campaign_plan.specs.Weights.{weight}

-- a refusal has its cause; want of memory is free
abbrev pub HasCause : Option PlanRefusal → PlanRefusal → Type 0
HasCause cause TooManyFaults = cause ≡ Some TooManyFaults
HasCause cause (MissingRate net name) = cause ≡ Some (MissingRate net name)
HasCause cause (IdleRate part permanent) = cause ≡ Some (IdleRate part permanent)
HasCause cause (Memory no_room) = Unit {0}

-- the plan of all this, where nothing refuses it
abbrev pub AnswersPlan : Analysis → Result Analysis PlanRefusal → Type 0
AnswersPlan p (Ok plan) = (plan ≡ p) × (plan_refusal p ≡ None)
AnswersPlan p (Err refusal) = HasCause (plan_refusal p) refusal

-- what a plan is made of
abbrev pub analysis : Inputs → Analysis
analysis i = record { circuit = i.net; runs = i.work; rates = i.rates; points = i.points; settings = i.set }

-- the number of a net's part, or 0
abbrev pub net_part : Analysis → ℕ → ℕ
net_part p net = unwrap_or (part_of_net p net) 0

-- the numbers of the nets' parts
pub record AreNetParts (p : Analysis) (parts : List ℕ) : Type 0 where
  pub numbers : parts ≡ map (net_part p) (below (length p.circuit.drivers))
  pub within : All (λ number. number < part_count p) parts

-- the numbers of all nets' parts, or the first net that has none
abbrev pub NetsGive : Analysis → Result (List ℕ) PlanRefusal → Type 0
NetsGive p (Ok parts) = (missing_rate p ≡ None) × AreNetParts p parts
NetsGive p (Err refusal) = HasCause (missing_rate p) refusal

-- the faults, where there aren't too many
abbrev pub FaultsGive : Analysis → Result (List Fault) PlanRefusal → Type 0
FaultsGive p (Ok faults) = (faults ≡ all_faults p) × (fault_count p ≤ 2 ^ 20)
FaultsGive p (Err refusal) = HasCause (plan_refusal p) refusal

-- the faults of a plan, and the number of the part and the weight of each
pub record AreTables (p : Analysis) (t : FaultTables) : Type 0 where
  pub listed : t.faults ≡ all_faults p
  pub numbered : t.part_numbers.items ≡ map (part_of p) (all_faults p)
  pub within : All (λ number. number < part_count p) t.part_numbers.items
  pub weighed : t.weights.items ≡ map (weight p) (below (fault_count p))

-- these tables, where nothing refuses the plan
abbrev pub TablesGive : Analysis → Result FaultTables PlanRefusal → Type 0
TablesGive p (Ok t) = (plan_refusal p ≡ None) × AreTables p t
TablesGive p (Err refusal) = HasCause (plan_refusal p) refusal
