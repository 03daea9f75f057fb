use Rattle.std.proofs.Common.{◌≡◌, ◌<◌, ℕ, length}
use Rattle.reading_planes.specs.Folded.{reading_at}
use Rattle.reading_planes.specs.Readings.{plan_by}
use Rattle.metric_coverage.specs.Planes.{IsPlaneTable, table_at}
use Rattle.metric_coverage.proofs.planes.tables_of.Given as goal

-- the tables of the readings so far
abbrev pub invariant-loop-reading : goal.invariant-loop-reading
invariant-loop-reading l = record {
  count : length l.tables.items ≡ l.reading;
  each : (r : ℕ) → r < l.reading → IsPlaneTable (plan_by l.plan (reading_at l.readings r)) (table_at l.tables.items r);
}
