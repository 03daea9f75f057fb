-- What each plan keeps.
use Rattle.std.specs.Prelude.{◌≡◌, ℕ, ◌<◌, ◌≤◌, List, map, All, None}
use Rattle.circuit.specs.Sound.{IsNetlist}
use Rattle.circuit.specs.Loop.{HasNoLoop}
use Rattle.workload.specs.RunsKept.{AreRuns, AreRunsFor}
use Rattle.rate_table.specs.Table.{IsRateTable}
use Rattle.alarm_points.specs.PointsKept.{ArePointsFor}
use Rattle.campaign_plan.specs.declared.Settings.{Settings}
use Rattle.campaign_plan.specs.Analysis.{Analysis, all_faults, fault_count, part_count, part_of}
use Rattle.campaign_plan.specs.Weights.{weight}
use Rattle.circuit.specs.declared.parts.Fault.{Fault}
use Rattle.fm_base.specs.Lists.{below}
use Rattle.campaign_plan.specs.PlanFaults.{plan_refusal}
use Rattle.fault_list.specs.Faults.{AreCycles}
use Rattle.fault_list.specs.Stretch.{AreFlipCycles}

-- the settings lie within their limits
pub record AreSettings (set : Settings) : Type 0 where
  pub ftti : set.ftti ≤ 4096
  pub flips : AreFlipCycles set.stretch set.flips
  pub pulses : AreCycles 4 set.pulses

-- a netlist without a loop, a workload and points for it, rates, and settings, with at most 2^20 faults, a part for
-- each net and no idle rate
pub record IsPlan (p : Analysis) : Type 0 where
  pub netlist : IsNetlist p.circuit
  pub no_loop : HasNoLoop p.circuit
  pub runs : AreRuns p.runs
  pub runs_fit : AreRunsFor p.circuit p.runs
  pub rates : IsRateTable p.rates
  pub points : ArePointsFor p.circuit p.points
  pub settings : AreSettings p.settings
  pub rated : plan_refusal p ≡ None

-- the tables that a plan has at hand: its faults, and the number of the part and the weight of each
pub record IsTabled (p : Analysis) (faults : List Fault) (numbers weights : List ℕ) : Type 0 where
  pub plan : IsPlan p
  pub listed : faults ≡ all_faults p
  pub numbered : numbers ≡ map (part_of p) (all_faults p)
  pub within : All (λ number. number < part_count p) numbers
  pub weighed : weights ≡ map (weight p) (below (fault_count p))
