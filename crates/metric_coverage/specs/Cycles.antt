-- What the flips of each cycle weigh: how a text keeps the numbers of its lines, in a table by the number of the cycle.
use Rattle.std.specs.Prelude.{◌≡◌, ℕ, ◌+◌, ◌<◌, ◌≤◌, ◌^◌, Bool, true, false, ◌&&◌, ◌==◌, List, Option, Some, None, filter, length, sum_by, slice_index_or, All, if◌then◌else◌}
use Rattle.fm_base.specs.Lists.{below}
use Rattle.campaign_plan.specs.Analysis.{Analysis, fault_count, fault_numbered}
use Rattle.campaign_plan.specs.Weights.{weight}
use Rattle.coverage.specs.declared.Evidence.{Evidence}
use Rattle.coverage.specs.declared.Evidence.TheVariants.{Harm}
use Rattle.coverage.specs.Evidence.{is_kind}
use Rattle.coverage.specs.Upsets.{counts, is_flip_in}
use Rattle.metric_coverage.specs.declared.cycles.CycleWeights.{CycleWeights}

-- the weight of those of the first n faults that flip a latch in a cycle, are of parts that count, and pass a test
abbrev pub flips_below : Analysis → (ℕ → Bool) → ℕ → ℕ → ℕ
flips_below p test cycle n =
    sum_by (weight p) (filter (λ i. is_flip_in cycle (fault_numbered p i) && (counts p (fault_numbered p i) && test i)) (below n))

-- of those that do harm, and of all
abbrev pub cycle_below : Analysis → (ℕ → Evidence) → ℕ → ℕ → CycleWeights
cycle_below p evidence cycle n = record {
  harm = flips_below p (λ i. is_kind (evidence i) Harm) cycle n;
  rate = flips_below p (λ i. true) cycle n;
}

-- no flip, and one of this weight more
abbrev pub no_flip : CycleWeights
no_flip = record { harm = 0; rate = 0 }

abbrev pub with_flip : Bool → ℕ → CycleWeights → CycleWeights
with_flip harms w t = record { harm = if harms then t.harm + w else t.harm; rate = t.rate + w }

-- the flip of a cycle, where there is one, is in this cycle
abbrev pub is_in : Option ℕ → ℕ → Bool
is_in None cycle = false
is_in (Some own) cycle = own == cycle

-- what harms is part of the whole, which is at most 10^18 units, as all weights together
pub record IsCycleLight (t : CycleWeights) : Type 0 where
  pub part : t.harm ≤ t.rate
  pub rate : t.rate ≤ 10 ^ 18

-- those of a cycle, by its number
abbrev pub cycle_at : List CycleWeights → ℕ → CycleWeights
cycle_at cycles cycle = slice_index_or cycles cycle no_flip

-- the table has a place for each cycle of the list, and each place has the weights of all flips of its cycle
pub record AreCyclesWeighed (p : Analysis) (evidence : ℕ → Evidence) (cycles : List CycleWeights) : Type 0 where
  pub room : All (λ cycle. cycle < length cycles) p.settings.flips
  pub each : (cycle : ℕ) → cycle < length cycles → cycle_at cycles cycle ≡ cycle_below p evidence cycle (fault_count p)
  pub light : (cycle : ℕ) → cycle < length cycles → IsCycleLight (cycle_at cycles cycle)
