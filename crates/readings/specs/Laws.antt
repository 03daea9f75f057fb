-- Laws of readings: one simulation of each fault gives all of them.
use Rattle.std.specs.Prelude.{◌≡◌, ℕ, Bool, false, not, ◌==◌, ◌<◌, nat_lt, List, [], ◌∷◌, length, map, find, Option, Some, None, option_map, option_and_then, if◌then◌else◌}
use Rattle.std.specs.List.{list_any}
use Rattle.circuit.specs.declared.parts.Fault.{Fault}
use Rattle.circuit.specs.declared.parts.Fault.TheVariants.{Flip, Pulse, Stuck}
use Rattle.circuit.specs.declared.parts.NetId.{NetId}
use Rattle.circuit.specs.Order.{IsOrder}
use Rattle.circuit.specs.Sound.{IsNet, IsNetlist}
use Rattle.fm_base.specs.Firsts.{first_where}
use Rattle.fm_base.specs.Lists.{below, same_bit, some_below}
use Rattle.workload.specs.Runs.{cycles_of, is_mission, run_at}
use Rattle.campaign_plan.specs.Analysis.{Analysis}
use Rattle.campaign_plan.specs.Danger.{with_faults}
use Rattle.first_cycles.specs.FirstCycles.{earliest, first_alarm}
use Rattle.first_cycles.specs.Shown.{Shown, if_at_most, interval_by, planes_by, shown_in, shown_of}
use Rattle.readings.specs.Breakdown.{breakdown, breakdown_with}
use Rattle.readings.specs.Latencies.{Sighting, alarm_point, alarmed, is_excited, latencies, latencies_with, least_interval, reached}

-- ONE SIMULATION, EVERY READING: the text of `breakdown` is that by what the runs of the plan itself show, whatever the reading
abbrev pub BreakdownIsShown : Type 0
BreakdownIsShown = (p : Analysis) (intervals : List ℕ) → breakdown p intervals ≡ breakdown_with (planes_by (shown_of p)) p intervals

-- THE INTERVAL that would do is by what the runs show too
abbrev pub IntervalIsShown : Type 0
IntervalIsShown = (p : Analysis) (f : Fault) → least_interval p f ≡ if_at_most 4096 (interval_by p.points (shown_of p f))

-- and so is that column of the table of `latencies`
abbrev pub TableIsShown : Type 0
TableIsShown = (p : Analysis) → latencies p ≡ latencies_with (λ f. if_at_most 4096 (interval_by p.points (shown_of p f))) p

-- this is the cycle
abbrev pub is_at : Option ℕ → ℕ → Bool
is_at None cycle = false
is_at (Some t) cycle = t == cycle

-- the first run that shows something, and when
abbrev pub first_shown : Analysis → Fault → (Shown → Option ℕ) → Option Sighting
first_shown p f seen =
    first_where (λ k. option_map (λ t. record { run = k; cycle = t }) (seen (shown_in p.circuit (f ∷ []) (run_at p.runs k)))) (below (length p.runs))

-- WHEN A FAULT IS REACHED, and when its first alarm comes, is by what the runs show
-- reach: in a run of the mission, the earliest of the first differences
-- alarm: in any run, the earliest of the first alarms
-- point: the first of the alarm points whose first alarm comes then
pub record SightingsAreShown (p : Analysis) (f : Fault) : Type 0 where
  pub reach : reached p f ≡ first_shown p f (λ s. if is_mission s.kind then earliest (map s.difference p.points.goals) else None)
  pub alarm : alarmed p f ≡ first_shown p f (λ s. earliest (map s.alarm p.points.alarm))
  pub point : alarm_point p f ≡ option_and_then (λ s. find (λ net. is_at (first_alarm p.circuit (f ∷ []) (run_at p.runs s.run) net) s.cycle) p.points.alarm) (alarmed p f)

abbrev pub AllSightingsAreShown : Type 0
AllSightingsAreShown = (p : Analysis) (f : Fault) → SightingsAreShown p f

-- A STUCK-AT FAULT IS EXCITED where the golden run has the other value of its net in some cycle: no simulation of the fault is needed
abbrev pub StuckAtIsExcited : Type 0
StuckAtIsExcited = (p : Analysis) (n : NetId) (value : Bool)
    → is_excited p (Stuck n value) ≡ list_any (λ run. some_below (cycles_of run) (λ t. not (same_bit value (with_faults p.circuit [] run t n)))) p.runs

-- some run has this cycle
abbrev pub some_run_has : Analysis → ℕ → Bool
some_run_has p t = list_any (λ run. nat_lt t (cycles_of run)) p.runs

-- A FLIP IS EXCITED where some run has its cycle: there the latch has the other value, and before it nothing differs
abbrev pub FlipIsExcited : Type 0
FlipIsExcited = (p : Analysis) (latch t : ℕ) → IsNetlist p.circuit → latch < length p.circuit.latches → is_excited p (Flip latch t) ≡ some_run_has p t

-- A PULSE IS EXCITED where some run has its cycle, where no table lies on a loop: there its net has the other value
abbrev pub PulseIsExcited : Type 0
PulseIsExcited = (p : Analysis) (order : List NetId) (n : NetId) (t : ℕ) → IsNetlist p.circuit → IsOrder p.circuit order → IsNet p.circuit n
    → is_excited p (Pulse n t) ≡ some_run_has p t
