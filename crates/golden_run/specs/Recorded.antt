-- The golden values of all nets, in rows of words: a row for each cycle of each run, with a bit for each net.
use Rattle.std.specs.Prelude.{◌≡◌, ℕ, ◌+◌, ◌*◌, ◌/◌, ◌%◌, ◌<◌, List, [], length, slice_index, slice_index_or}
use Rattle.circuit.specs.Circuit.{Circuit}
use Rattle.circuit.specs.Trace.{trace}
use Rattle.fm_base.specs.Planes.{bit}
use Rattle.workload.specs.declared.run.Run.{Run}
use Rattle.workload.specs.Runs.{cycles_of, run_at}

-- the netlist and the runs that the rows were made for
pub record Recorded : Type 0 where
  pub circuit : Circuit
  pub runs : List Run

-- rows of so many words, one behind the other, for the first n cycles of a run
pub record AreRowsOf (c : Circuit) (run : Run) (width n : ℕ) (words : List ℕ) : Type 0 where
  pub count : length words ≡ n * width
  pub values : (t net : ℕ) → t < n → net < length c.drivers → bit (slice_index words (t * width + net / 64)) (net % 64) ≡ trace c [] run.vectors t net

-- rows for each of the first n runs
pub record AreGoldenRows (r : Recorded) (width n : ℕ) (rows : List (List ℕ)) : Type 0 where
  pub count : length rows ≡ n
  pub each : (run : ℕ) → run < n → AreRowsOf r.circuit (run_at r.runs run) width (cycles_of (run_at r.runs run)) (slice_index_or rows run [])

-- rows for all runs, wide enough for all nets
pub record HoldsRows (r : Recorded) (width : ℕ) (rows : List (List ℕ)) : Type 0 where
  pub wide : width ≡ length r.circuit.drivers / 64 + 1
  pub each : AreGoldenRows r width (length r.runs) rows
