-- The values that nets have in stretches of the golden run.
use Rattle.std.specs.Prelude.{◌≡◌, ℕ, ◌+◌, ◌*◌, ◌/◌, ◌<◌, ◌≤◌, Bool, true, false, List, [], length, min, slice_index_or}
use Rattle.circuit.specs.Circuit.{Circuit}
use Rattle.circuit.specs.Trace.{trace}
use Rattle.place_set.specs.Places.{value_in}
use Rattle.workload.specs.declared.run.Run.{Run}
use Rattle.workload.specs.Runs.{cycles_of, run_at}

-- of each net, a bit in words of 64, whether it is 1 and whether it is 0 in some cycle that was looked at
pub record SeenValues : Type 0 where
  pub ones : List ℕ
  pub zeros : List ℕ

-- a net has been seen with this value
abbrev pub is_seen : SeenValues → ℕ → Bool → Bool
is_seen seen net true = value_in seen.ones net
is_seen seen net false = value_in seen.zeros net

-- there are words for so many nets
pub record HasRoom (nets : ℕ) (seen : SeenValues) : Type 0 where
  pub ones : (net : ℕ) → net < nets → net / 64 < length seen.ones
  pub zeros : length seen.zeros ≡ length seen.ones

-- each net has been seen with the values that it has in these cycles of the golden run
abbrev pub HasSeen : Circuit → Run → (from to : ℕ) → SeenValues → Type 0
HasSeen c run from to seen = (t net : ℕ) → from ≤ t → t < to → net < length c.drivers → is_seen seen net (trace c [] run.vectors t net) ≡ true

-- those of a stretch, by its number
abbrev pub stretch_at : List SeenValues → ℕ → SeenValues
stretch_at stretches s = slice_index_or stretches s (record { ones = []; zeros = [] })

-- the first stretches of a run, each of 256 cycles but for the last
abbrev pub AreStretchesOf : Circuit → Run → (count : ℕ) → List SeenValues → Type 0
AreStretchesOf c run count stretches = (s : ℕ) → s < count → HasSeen c run (s * 256) (min (cycles_of run) (s * 256 + 256)) (stretch_at stretches s)

-- and those of each of the first runs, to their ends
pub record AreStretches (c : Circuit) (runs : List Run) (count : ℕ) (stretches : List (List SeenValues)) : Type 0 where
  pub count_is : length stretches ≡ count
  pub each : (r t : ℕ) → r < count → t < cycles_of (run_at runs r) → t / 256 < length (slice_index_or stretches r [])
  pub seen : (r : ℕ) → r < count → AreStretchesOf c (run_at runs r) (length (slice_index_or stretches r [])) (slice_index_or stretches r [])
