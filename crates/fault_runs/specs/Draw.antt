-- A draw of faults, and what it is followed with.
use Rattle.std.specs.Prelude.{◌≡◌, ℕ, ◌<◌, ◌+◌, ◌*◌, ◌/◌, ◌%◌, List, [], ◌∷◌, Some, length}
use Rattle.circuit.specs.declared.parts.Fault.{Fault}
use Rattle.fault_list.specs.Faults.{fault_in_lane}
use Rattle.golden_difference.specs.Lanes.{IsMadeFor}
use Rattle.lane_words.specs.Loads.{loaded_faults, somes}
use Rattle.testbench.specs.Testbench.{Testbench}
use Rattle.fault_runs.specs.Records.{AreRecordsFor}
use Rattle.fault_runs.specs.Stretch.{state_at}
use Rattle.fault_runs.specs.declared.draw.FaultDraw.{FaultDraw}

-- a draw was made for a testbench: there are a state, a record and a mark for each fault, and a place in a group for each lane of four words
pub record IsDrawFor (bench : Testbench) (d : FaultDraw) : Type 0 where
  pub lanes : IsMadeFor bench.circuit bench.order d.lanes
  pub states : length d.states.items ≡ length d.faults.items
  pub bound : (i : ℕ) → i < length d.states.items → (state_at d.states.items i).bound ≡ length bench.circuit.latches
  pub records : d.records.faults ≡ length d.faults.items
  pub fit : AreRecordsFor bench.points d.records
  pub active : d.active.bound ≡ length d.faults.items
  pub group : length d.group.items ≡ 256

-- it holds batches of 64 faults of a list, the first and each `apart` further, each fault alone
abbrev pub HoldsBatches : List Fault → (first apart : ℕ) → FaultDraw → Type 0
HoldsBatches faults first apart d =
    (i : ℕ) → i < length d.faults.items → loaded_faults d.faults.items i ≡ somes (fault_in_lane faults (Some (first + i / 64 * apart)) (i % 64) ∷ [])
