-- Shapes of private steps: the fields of a row, by what is kept of its fault. Nothing public cites them.
use Rattle.std.specs.Prelude.{ℕ, ◌+◌, Bool, List, [], ◌∷◌, Option, option_map, unwrap_or, codes, decimal}
use Rattle.circuit.specs.declared.parts.NetId.{NetId}
use Rattle.circuit.specs.Circuit.{Circuit}
use Rattle.circuit.specs.Names.{net_name}
use Rattle.fm_base.specs.Names.{Bytes}
use Rattle.fault_list.specs.Faults.{fault_name}
use Rattle.campaign_plan.specs.Analysis.{Analysis, fault_numbered, part_numbered, part_of}
use Rattle.campaign_plan.specs.Batches.{class_with}
use Rattle.campaign_plan.specs.Weights.{weight}
use Rattle.first_cycles.specs.Shown.{if_at_most}
use Rattle.metric_sums.specs.Words.{class_word}
use Rattle.campaign_tables.specs.Csv.{csv_row}
use Rattle.campaign_tables.specs.Words.{bit_word}
use Rattle.latency_table.specs.declared.latency.Sighting.{Sighting}
use Rattle.latency_table.specs.declared.latency.Latency.{Latency}

-- a number, or a dash where there is none
abbrev pub number_word : Option ℕ → Bytes
number_word number = unwrap_or (option_map decimal number) (codes "-")

-- the run of a sighting, from 1, and its cycle
abbrev pub run_word : Option Sighting → Bytes
run_word seen = number_word (option_map (λ s. s.run + 1) seen)

abbrev pub cycle_word : Option Sighting → Bytes
cycle_word seen = number_word (option_map (λ s. s.cycle) seen)

-- the name of an alarm point
abbrev pub point_word : Circuit → Option NetId → Bytes
point_word c point = unwrap_or (option_map (λ net. net_name c net.0) point) (codes "-")

-- an interval of at most 4,096 cycles
abbrev pub interval_word : Option ℕ → Bytes
interval_word interval = number_word (if_at_most 4096 interval)

-- the fields of fault i behind its name
abbrev pub fields_of : Analysis → ℕ → Bool → Latency → List Bytes
fields_of p i excited l =
    (part_numbered p (part_of p (fault_numbered p i))).name ∷ class_word (class_with p i l.dangerous l.noticed) ∷ decimal (weight p i) ∷ bit_word excited
    ∷ run_word l.reached ∷ cycle_word l.reached ∷ run_word l.alarmed ∷ cycle_word l.alarmed ∷ point_word p.circuit l.point ∷ interval_word l.interval ∷ []

-- its row
abbrev pub row_of : Analysis → ℕ → Bool → Latency → Bytes
row_of p i excited l = csv_row (fault_name p.circuit (fault_numbered p i) ∷ fields_of p i excited l)
