-- The generated campaigns: their texts are a plan.
use Rattle.std.specs.Prelude.{◌≡◌, ℕ, ◌≤◌, List, [], ◌∷◌, Option, None, Ok}
use Rattle.circuit.specs.declared.parts.NetId.{NetId}
use Rattle.circuit.specs.Circuit.{Circuit}
use Rattle.circuit.specs.Loop.{HasNoLoop}
use Rattle.fm_base.specs.Names.{Bytes}
use Rattle.fm_shelf.specs.Shelf.{ShelfState}
use Rattle.alarm_points.specs.PointsFile.{points_of}
use Rattle.blif_model.specs.Net.{netlist_of}
use Rattle.campaign_plan.specs.Analysis.{Analysis}
use Rattle.campaign_plan.specs.PlanFaults.{plan_refusal}
use Rattle.campaign_plan.specs.declared.Settings.{Settings}
use Rattle.rate_table.specs.RatesFile.{rates_of}
use Rattle.sample_gen.specs.Sample.{netlist_text, points_text, rates_text, workload_text}
use Rattle.workload.specs.WorkloadFile.{workload_of}
use Rattle.commands.specs.declared.command.Kind.TheVariants.{Generated}
use Rattle.commands.specs.declared.command.Which.{Which}
use Rattle.commands.specs.Commands.{settings_of}
use Rattle.command_reads.specs.Files.{Reads, WereRead}
use Rattle.command_reads.specs.FirstRefusal.{IsLoopAnswer, Planned, judge}

-- the four texts of so many stages stand for this plan, with flips in cycle 1 and no pulses: none of them is refused, the netlist has no
-- loop, there aren't too many faults, each net has a rate, and no part has a rate of a kind without a fault of it
pub record StandFor (n : ℕ) (p : Analysis) : Type 0 where
  pub netlist : netlist_of (netlist_text n) ≡ Ok p.circuit
  pub workload : workload_of p.circuit (workload_text n) ≡ Ok p.runs
  pub rates : rates_of rates_text ≡ Ok p.rates
  pub points : points_of p.circuit points_text ≡ Ok p.points
  pub settings : p.settings ≡ settings_of (1 ∷ []) []
  pub acyclic : HasNoLoop p.circuit
  pub unrefused : plan_refusal p ≡ None

-- a command that has read the generated texts of so many stages is judged to have this plan, whatever its settings and whatever is truly
-- answered of loops; a generated netlist has no name
abbrev pub IsJudged : ℕ → Analysis → Type 0
IsJudged n p =
    (before after : ShelfState) (names : Which → Bytes) (reads : Reads) → WereRead before after names reads (Generated n)
    → (set : Settings) (c : Circuit) (walk : Option (List NetId)) → IsLoopAnswer [] reads c walk
    → judge [] walk set reads (Generated n) ≡ Ok (Planned p)

-- THE GENERATED TEXTS ARE A PLAN, for every number of stages that `gen` takes
abbrev pub GeneratedIsAPlan : Type 0
GeneratedIsAPlan = (n : ℕ) → 1 ≤ n → n ≤ 1000 → (p : Analysis) × StandFor n p × IsJudged n p
