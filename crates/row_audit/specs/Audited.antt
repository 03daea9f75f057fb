-- What an audit finds: the first of the rows that it looks at whose planes aren't those that its batch truly has.
use Rattle.std.specs.Prelude.{◌≡◌, ℕ, ◌%◌, ◌==◌, Bool, not, ◌&&◌, List, map, filter, find, Option, option_map}
use Rattle.std.specs.List.{enumerate_from}
use Rattle.circuit.specs.declared.parts.Fault.{Fault}
use Rattle.circuit.specs.Circuit.{Circuit}
use Rattle.workload.specs.declared.run.Run.{Run}
use Rattle.alarm_points.specs.declared.Points.{Points}
use Rattle.campaign_plan.specs.Analysis.{Analysis, all_faults}
use Rattle.campaign_plan.specs.Batches.{true_planes}
use Rattle.result_file.specs.declared.Row.{Row}
use Rattle.result_file.specs.declared.FalseRow.{FalseRow}

-- each N-th of a list: what stands at the places 0, N, 2N and so on
abbrev pub each_nth : {A : Type 0} → ℕ → List A → List A
each_nth n xs = map (λ p. p.1) (filter (λ p. p.0 % n == 0) (enumerate_from 0 xs))

-- the row keeps other planes than its batch truly has
abbrev pub is_false : Analysis → Row → Bool
is_false p row = let planes = true_planes p row.batch in not ((row.danger == planes.danger) && (row.noticed == planes.noticed))

-- what is told of such a row: its batch, the planes that it keeps, and those that the batch truly has
abbrev pub told_of : Analysis → Row → FalseRow
told_of p row = record { batch = row.batch; kept = record { danger = row.danger; noticed = row.noticed }; computed = true_planes p row.batch }

-- THE FIRST FALSE ROW of each N-th of these rows
abbrev pub first_false : Analysis → ℕ → List Row → Option FalseRow
first_false p every rows = option_map (told_of p) (find (is_false p) (each_nth every rows))

-- ---- private steps, which the promise doesn't cite

-- each N-th of a list whose first item has this number
abbrev pub each_nth_from : {A : Type 0} → ℕ → ℕ → List A → List A
each_nth_from n first xs = map (λ p. p.1) (filter (λ p. p.0 % n == 0) (enumerate_from first xs))

-- this is what the plan's faults are simulated on
pub record IsOfPlan (p : Analysis) (c : Circuit) (runs : List Run) (points : Points) (ftti : ℕ) (faults : List Fault) : Type 0 where
  pub circuit_is : c ≡ p.circuit
  pub runs_are : runs ≡ p.runs
  pub points_are : points ≡ p.points
  pub ftti_is : ftti ≡ p.settings.ftti
  pub faults_are : faults ≡ all_faults p
