-- How many upsets were tried of those that there could be, and how the metric of transient faults hangs on the cycle of the flips. Source: the
-- single-point fault metric of ISO 26262-5:2018; that it is told for each cycle alone is this project's own.
use Rattle.std.specs.Prelude.{ℕ, ◌-◌, ◌*◌, Bool, true, false, ◌&&◌, ◌==◌, List, [], ◌∷◌, ◌++◌, filter, flat_map, length, sum_by, count_by, nat_lt, if◌then◌else◌, codes, decimal}
use Rattle.circuit.specs.declared.parts.Fault.{Fault}
use Rattle.circuit.specs.declared.parts.Fault.TheVariants.{Flip}
use Rattle.metric_sums.specs.declared.Role.TheVariants.{Other}
use Rattle.metric_sums.specs.Metrics.{fraction}
use Rattle.fm_base.specs.Lists.{below}
use Rattle.fm_base.specs.Names.{Bytes}
use Rattle.fm_base.specs.Text.{line}
use Rattle.workload.specs.declared.run.Run.{Run}
use Rattle.workload.specs.Runs.{cycles_of, is_mission}
use Rattle.campaign_plan.specs.Analysis.{Analysis, fault_count, fault_numbered, part_numbered, part_of}
use Rattle.campaign_plan.specs.Weights.{weight}
use Rattle.fmeda_report.specs.Words.{fraction_word}
use Rattle.coverage.specs.declared.Evidence.{Evidence}
use Rattle.coverage.specs.declared.Evidence.TheVariants.{Harm}
use Rattle.coverage.specs.Evidence.{is_kind}

-- ---- how many

-- the part of a fault counts: faults of parts of role `other` are in no metric
abbrev pub counts : Analysis → Fault → Bool
counts p f = elim (part_numbered p (part_of p f)).role [ Other ↦ false | _ ↦ true ]

-- the latches whose part counts
abbrev pub counted_latches : Analysis → ℕ
counted_latches p = count_by (λ latch. counts p (Flip latch 0)) (below (length p.circuit.latches))

-- the runs of the mission
abbrev pub mission_runs : Analysis → List Run
mission_runs p = filter (λ run. is_mission run.kind) p.runs

-- AN UPSET is a flip of such a latch in a cycle of a run of the mission
abbrev pub all_upsets : Analysis → ℕ
all_upsets p = counted_latches p * sum_by cycles_of (mission_runs p)

-- TRIED: a flip of the list acts in each run that has its cycle
abbrev pub tried_upsets : Analysis → ℕ
tried_upsets p = counted_latches p * sum_by (λ run. count_by (λ cycle. nat_lt cycle (cycles_of run)) p.settings.flips) (mission_runs p)

-- ---- cycle by cycle

-- the fault flips a latch in this cycle
abbrev pub is_flip_in : ℕ → Fault → Bool
is_flip_in cycle = elim [ Flip latch t ↦ t == cycle | _ ↦ false ]

-- the weight of the flips in a cycle that pass a test, of parts that count
abbrev pub weight_in : Analysis → (ℕ → Bool) → ℕ → ℕ
weight_in p test cycle =
    sum_by (weight p) (filter (λ i. is_flip_in cycle (fault_numbered p i) && (counts p (fault_numbered p i) && test i)) (below (fault_count p)))

-- that of those that do harm, and that of all
abbrev pub harm_in : Analysis → (ℕ → Evidence) → ℕ → ℕ
harm_in p evidence cycle = weight_in p (λ i. is_kind (evidence i) Harm) cycle

abbrev pub rate_in : Analysis → ℕ → ℕ
rate_in p cycle = weight_in p (λ i. true) cycle

-- the line of a cycle: what the metric of transient faults were by its flips alone
unfoldable pub cycle_line : Analysis → (ℕ → Evidence) → ℕ → Bytes
cycle_line p evidence cycle =
    line (codes "cycle" ∷ decimal cycle ∷ codes "harm" ∷ decimal (harm_in p evidence cycle) ∷ codes "rate" ∷ decimal (rate_in p cycle)
    ∷ codes "spfm transient" ∷ fraction_word (fraction (rate_in p cycle - harm_in p evidence cycle) (rate_in p cycle)) ∷ [])

-- how many upsets were tried of how many, and a line for each cycle of the list; nothing where no cycle is listed
unfoldable pub upset_lines : Analysis → (ℕ → Evidence) → Bytes
upset_lines p evidence =
    if nat_lt 0 (length p.settings.flips)
    then line (codes "upsets" ∷ decimal (tried_upsets p) ∷ codes "of" ∷ decimal (all_upsets p) ∷ []) ++ flat_map (cycle_line p evidence) p.settings.flips
    else []
