-- How each fault stands for every workload, by what was answered to it.
use Rattle.std.specs.Prelude.{◌==◌, ℕ, Bool, false, List, ◌||◌, if◌then◌else◌, nat_le, slice_index_or}
use Rattle.circuit.specs.declared.parts.Fault.{Fault}
use Rattle.circuit.specs.declared.parts.Fault.TheVariants.{Stuck, Flip, Pulse}
use Rattle.campaign_plan.specs.Analysis.{Analysis, fault_numbered}
use Rattle.claim_search.specs.declared.answer.Answer.TheVariants as answer
use Rattle.claim_search.specs.declared.faults.FaultAnswer.{FaultAnswer}
use Rattle.claim_search.specs.declared.faults.FaultAnswer.TheVariants.{NoPath as NoPathLeads, OfClaim}
use Rattle.coverage_claim.specs.declared.parts.Held.{Held}
use Rattle.always.specs.declared.verdict.Verdict.{Verdict}
use Rattle.always.specs.declared.verdict.Verdict.TheVariants.{NoPath, Alarmed, Early, Open}

-- WHAT IS ASKED of a netlist and its points
-- held: the inputs that are held
-- from: the first cycle that is spoken of: from then on each has its later value, and no alarm is raised without a fault
-- window: the most cycles from a difference to its alarm
-- ahead: how many cycles more each run lasts
pub record Terms : Type 0 where
  pub held : List Held
  pub from : ℕ
  pub window : ℕ
  pub ahead : ℕ

-- a flip or a pulse that does nothing before this cycle
abbrev pub waits : ℕ → Fault → Bool
waits from (Stuck n value) = false
waits from (Flip l cycle) = nat_le from cycle
waits from (Pulse n cycle) = nat_le from cycle

-- HOW A FAULT STANDS: where it does nothing before the first cycle it isn't early; a claim that no runs keep proves nothing
abbrev pub verdict_for : ℕ → Fault → FaultAnswer → Verdict
verdict_for from fault NoPathLeads = NoPath
verdict_for from fault (OfClaim answer.Alarmed) = Alarmed
verdict_for from fault (OfClaim answer.Early) = if waits from fault then Alarmed else Early
verdict_for from fault (OfClaim answer.Open) = Open
verdict_for from fault (OfClaim answer.NoRuns) = Open

-- the answer to a fault, by its number
abbrev pub answer_of : List FaultAnswer → ℕ → FaultAnswer
answer_of answers i = slice_index_or answers i (OfClaim answer.Open)

-- how fault i stands
abbrev pub verdict_at : Analysis → ℕ → List FaultAnswer → ℕ → Verdict
verdict_at p from answers i = verdict_for from (fault_numbered p i) (answer_of answers i)

-- two are the same
abbrev pub place : Verdict → ℕ
place = elim [ NoPath ↦ 0 | Alarmed ↦ 1 | Early ↦ 2 | Open ↦ 3 ]

abbrev pub is_verdict : Verdict → Verdict → Bool
is_verdict a b = place a == place b

-- it is dangerous in no run that is spoken of; and it is so in no run in which nothing differs before the first cycle
abbrev pub is_covered : Verdict → Bool
is_covered verdict = is_verdict verdict NoPath || is_verdict verdict Alarmed

abbrev pub is_covered_later : Verdict → Bool
is_covered_later verdict = is_covered verdict || is_verdict verdict Early
