-- Shapes of private steps: what the code and its proofs name of the definitions beside. Nothing public cites them.
use Rattle.std.specs.Prelude.{ℕ, ◌&&◌, ◌==◌, List, [], ◌∷◌, if◌then◌else◌, length, map, nat_le, take, codes, decimal}
use Rattle.std.specs.List.{before_first}
use Rattle.std.specs.Str.{byte}
use Rattle.circuit.specs.Circuit.{Circuit}
use Rattle.workload.specs.declared.run.Run.{Run}
use Rattle.workload.specs.Runs.{all_cycles}
use Rattle.alarm_points.specs.declared.Points.{Points}
use Rattle.alarm_points.specs.PointsFile.{observed}
use Rattle.rate_table.specs.Table.{RateTable, all_rates}
use Rattle.campaign_plan.specs.declared.Outcome.{Outcome}
use Rattle.campaign_plan.specs.Analysis.{Analysis, fault_count, batch_count}
use Rattle.fm_base.specs.Names.{Bytes}
use Rattle.fm_base.specs.Text.{line, hex}

-- the lines of `check`: the sizes of a netlist
abbrev pub netlist_line : Circuit → Bytes
netlist_line c =
    line (codes "netlist nets" ∷ decimal (length c.drivers) ∷ codes "inputs" ∷ decimal (length c.inputs)
    ∷ codes "tables" ∷ decimal (length c.tables) ∷ codes "latches" ∷ decimal (length c.latches) ∷ [])

-- those of a workload
abbrev pub workload_line : List Run → Bytes
workload_line runs = line (codes "workload workloads" ∷ decimal (length runs) ∷ codes "cycles" ∷ decimal (all_cycles runs) ∷ [])

-- the parts and their rates
abbrev pub rates_line : RateTable → Bytes
rates_line table = line (codes "rates parts" ∷ decimal (length table.parts) ∷ codes "units" ∷ decimal (all_rates table.parts) ∷ [])

-- the points
abbrev pub points_line : Points → Bytes
points_line points = line (codes "points observe" ∷ decimal (length (observed points)) ∷ codes "alarm" ∷ decimal (length points.alarm) ∷ [])

-- the faults and their batches
abbrev pub faults_line : Analysis → Bytes
faults_line p = line (codes "faults" ∷ decimal (fault_count p) ∷ codes "batches" ∷ decimal (batch_count p) ∷ [])

-- a byte as it is shown
abbrev pub shown_byte : ℕ → ℕ
shown_byte b = if nat_le 32 b && nat_le b 126 then b else byte "?"

-- the first bytes of a file, as they are shown
abbrev pub shown_start : Bytes → Bytes
shown_start found = map shown_byte (take 88 (before_first (λ b. b == 10) found))

-- two planes, in 16 hexadecimal digits each
abbrev pub planes_words : Outcome → List Bytes
planes_words planes = hex 16 planes.danger ∷ hex 16 planes.noticed ∷ []
