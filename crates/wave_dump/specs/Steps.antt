-- Shapes of private steps: how a dump is written. Nothing public cites them.
use Rattle.std.specs.Prelude.{◌≡◌, ℕ, ◌+◌, ◌<◌, ◌≤◌, ◌^◌, Bool, true, false, not, ◌||◌, List, [], ◌∷◌, ◌++◌, length, map, take, slice_get, slice_index, slice_index_or, All, Option, if◌then◌else◌, ◌==◌, codes, decimal}
use Rattle.std.specs.Option.{option_map_or}
use Rattle.std.specs.Str.{byte, bytes_eq}
use Rattle.circuit.specs.declared.parts.Fault.{Fault}
use Rattle.circuit.specs.declared.parts.Fault.TheVariants.{Stuck, Flip, Pulse}
use Rattle.circuit.specs.declared.parts.NetId.{NetId}
use Rattle.circuit.specs.Circuit.{Circuit}
use Rattle.circuit.specs.Names.{net_name}
use Rattle.circuit.specs.Trace.{trace}
use Rattle.fault_list.specs.Faults.{fault_name}
use Rattle.lane_words.specs.Bank.{AreAfter, Bank, IsBankFor}
use Rattle.lane_words.specs.Loads.{loaded_faults}
use Rattle.workload.specs.declared.run.Run.{Run}
use Rattle.workload.specs.Runs.{cycles_of}
use Rattle.workload.specs.RunsKept.{AreRuns}
use Rattle.fm_base.specs.Lists.{same_bit, some_below}
use Rattle.fm_base.specs.Names.{Bytes, Name}
use Rattle.fm_base.specs.Planes.{bit}
use Rattle.fm_base.specs.Text.{line}
use Rattle.wave_dump.specs.Asked.{is_shown}
use Rattle.wave_dump.specs.Dump.{Waves, alone, identifier_code, printed, reference, value_at, value_line, variable}

-- ---- words

-- the backslash before a name that needs one
abbrev pub backslash : Name → Bytes
backslash name = if option_map_or (λ b. (b == byte "$") || (b == 92)) (slice_get name 0) false then 92 ∷ [] else []

-- the declaration of a variable
abbrev pub wire_line : Waves → ℕ → ℕ → Bytes
wire_line w scope place = line (
    codes "$var wire 1" ∷ identifier_code (variable w scope place) ∷ reference (net_name w.circuit (slice_index w.nets place)) ∷ codes "$end" ∷ [])

-- what a cycle writes of a variable
abbrev pub value_text : Waves → ℕ → ℕ → ℕ → Bytes
value_text w t scope place = option_map_or (value_line (variable w scope place)) (printed w scope place t) []

-- ---- the simulation

-- there is such a run, and the nets that are shown are nets
pub record IsScene (c : Circuit) (runs : List Run) (run : ℕ) (nets : List ℕ) : Type 0 where
  pub few : length c.drivers ≤ 2 ^ 18
  pub runs_are : AreRuns runs
  pub there : run < length runs
  pub within : All (λ n. n < length c.drivers) nets
  pub count : length nets ≤ length c.drivers

-- lane 0 is the run without faults, and lane 1 that with the fault
pub record AreLoaded (w : Waves) (lanes : Bank ℕ) : Type 0 where
  pub circuit : lanes.circuit ≡ w.circuit
  pub golden : loaded_faults lanes.loads 0 ≡ []
  pub faulty : loaded_faults lanes.loads 1 ≡ alone w.fault

-- the lanes were made for the circuit and an order of its tables, and are loaded
pub record HasLanes (w : Waves) (order : List NetId) (lanes : Bank ℕ) : Type 0 where
  pub made : IsBankFor w.circuit order lanes
  pub loaded : AreLoaded w lanes

-- the lanes have run the cycles before cycle t
pub record HasRunTo (w : Waves) (t : ℕ) (lanes : Bank ℕ) : Type 0 where
  pub loaded : AreLoaded w lanes
  pub cycle : lanes.cycle ≡ t
  pub after : AreAfter 64 bit (take t w.run.vectors) lanes

-- the cycle that the lanes have run last is cycle t
pub record IsIn (w : Waves) (t : ℕ) (lanes : Bank ℕ) : Type 0 where
  pub loaded : AreLoaded w lanes
  pub within : t < cycles_of w.run
  pub after : AreAfter 64 bit (take (t + 1) w.run.vectors) lanes

-- the words have the values of the cycle before cycle t, if there is one
pub record Holds (w : Waves) (t : ℕ) (held : List ℕ) : Type 0 where
  pub count : length held ≡ length w.nets
  pub values : (u scope place : ℕ) → u + 1 ≡ t → scope < 2 → place < length w.nets → bit (slice_index held place) scope ≡ value_at w scope place u

-- ---- what is asked for

-- what stands behind the net in the name of a fault
abbrev pub suffix : Fault → Bytes
suffix f = elim f [ Stuck n v ↦ if v then codes "/1" else codes "/0" | Flip l t ↦ codes "^" ++ decimal t | Pulse n t ↦ codes "~" ++ decimal t ]

-- the fault has the name
abbrev pub is_fault_named : Circuit → Name → Fault → Bool
is_fault_named c name f = bytes_eq (fault_name c f) name

-- the faults of the list: the stuck-at faults on a net, the flips of a latch and the pulses on a net in these cycles
abbrev pub stuck_faults : ℕ → List Fault
stuck_faults n = Stuck (record { 0 = n }) false ∷ Stuck (record { 0 = n }) true ∷ []

abbrev pub flips_of : List ℕ → ℕ → List Fault
flips_of cycles latch = map (λ cycle. Flip latch cycle) cycles

abbrev pub pulses_on : List ℕ → ℕ → List Fault
pulses_on cycles n = map (λ cycle. Pulse (record { 0 = n }) cycle) cycles

-- the fault has changed the net in a cycle before cycle t
abbrev pub has_changed : Waves → ℕ → ℕ → Bool
has_changed w t net =
    some_below t (λ u. not (same_bit (trace w.circuit (alone w.fault) w.run.vectors u net) (trace w.circuit [] w.run.vectors u net)))

-- a mark for each net, which says so
pub record AreMarks (w : Waves) (t : ℕ) (marks : List Bool) : Type 0 where
  pub few : length w.circuit.drivers ≤ 2 ^ 18
  pub count : length marks ≡ length w.circuit.drivers
  pub each : (net : ℕ) → net < length w.circuit.drivers → slice_index_or marks net false ≡ has_changed w t net

-- a mark for each net, which says whether it is shown
pub record MarksShown (w : Waves) (word : Option Bytes) (marks : List Bool) : Type 0 where
  pub few : length w.circuit.drivers ≤ 2 ^ 18
  pub count : length marks ≡ length w.circuit.drivers
  pub each : (net : ℕ) → net < length w.circuit.drivers → slice_index_or marks net false ≡ is_shown w.circuit w.run w.fault word net

-- ---- the whole

-- lanes that are loaded, and a word for each net that is shown
pub record IsDump (w : Waves) (order : List NetId) (lanes : Bank ℕ) (held : List ℕ) : Type 0 where
  pub has : HasLanes w order lanes
  pub count : length held ≡ length w.nets
