-- The one-line texts of `audit`, `shard`, `merge` and `reweigh`, and the text of `check`.
use Rattle.std.specs.Prelude.{ℕ, [], ◌∷◌, ◌++◌, ◌==◌, length, if◌then◌else◌, codes, decimal}
use Rattle.workload.specs.Runs.{all_cycles}
use Rattle.alarm_points.specs.PointsFile.{observed}
use Rattle.rate_table.specs.Table.{all_rates}
use Rattle.fm_base.specs.Text.{line}
use Rattle.campaign_plan.specs.Analysis.{Analysis, fault_count, batch_count}
use Rattle.fm_base.specs.Names.{Bytes}

-- the sizes of the netlist and of the workload; the parts, the sum of their rates; observation points of all goals, alarms; faults, batches
unfoldable pub check_text : Analysis → Bytes
check_text p =
    line (codes "netlist nets" ∷ decimal (length p.circuit.drivers) ∷ codes "inputs" ∷ decimal (length p.circuit.inputs)
    ∷ codes "tables" ∷ decimal (length p.circuit.tables) ∷ codes "latches" ∷ decimal (length p.circuit.latches) ∷ [])
    ++ line (codes "workload workloads" ∷ decimal (length p.runs) ∷ codes "cycles" ∷ decimal (all_cycles p.runs) ∷ [])
    ++ line (codes "rates parts" ∷ decimal (length p.rates.parts) ∷ codes "units" ∷ decimal (all_rates p.rates.parts) ∷ [])
    ++ line (codes "points observe" ∷ decimal (length (observed p.points)) ∷ codes "alarm" ∷ decimal (length p.points.alarm) ∷ [])
    ++ line (codes "faults" ∷ decimal (fault_count p) ∷ codes "batches" ∷ decimal (batch_count p) ∷ [])

-- which part of how many was run, and how many rows it has
abbrev pub shard_line : (part parts rows : ℕ) → Bytes
shard_line part parts rows = line (codes "shard" ∷ decimal part ∷ codes "of" ∷ decimal parts ∷ codes "rows" ∷ decimal rows ∷ [])

-- so many rows were merged, of so many batches
abbrev pub merge_line : (rows batches : ℕ) → Bytes
merge_line rows batches = line (codes "merge" ∷ decimal rows ∷ codes "of" ∷ decimal batches ∷ codes "rows" ∷ [])

-- so many rows have sums by other rates, of so many batches
abbrev pub reweigh_line : (rows batches : ℕ) → Bytes
reweigh_line rows batches = line (codes "reweigh" ∷ decimal rows ∷ codes "of" ∷ decimal batches ∷ codes "rows" ∷ [])

-- so many rows agree, each N-th of a file's, of so many batches; that it is each N-th stands there where N isn't 1
abbrev pub audit_line : (every rows batches : ℕ) → Bytes
audit_line every rows batches =
    line (codes "audit" ∷ decimal rows ∷ codes "of" ∷ decimal batches ∷ codes "rows agree" ∷ (if every == 1 then [] else codes "every" ∷ decimal every ∷ []))

-- ---- a shape of private steps

-- behind the word of a command, how many rows its file has, of so many batches
abbrev pub rows_line : (word : Bytes) → (rows batches : ℕ) → Bytes
rows_line word rows batches = line (word ∷ decimal rows ∷ codes "of" ∷ decimal batches ∷ codes "rows" ∷ [])
