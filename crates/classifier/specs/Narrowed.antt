-- The last lanes of four words, simulated in one.
use Rattle.std.specs.Prelude.{◌≡◌, ℕ, ◌+◌, ◌*◌, ◌<◌, Bool, List, [], length, Option, None, Some, slice_index_or}
use Rattle.circuit.specs.declared.parts.Fault.{Fault}
use Rattle.circuit.specs.declared.parts.NetId.{NetId}
use Rattle.circuit.specs.Circuit.{Circuit}
use Rattle.differential_kernel.specs.Picked.{place_in}
use Rattle.fm_base.specs.Planes.{bit}
use Rattle.golden_difference.specs.Beside.{AreBeside}
use Rattle.golden_difference.specs.Lanes.{IsMadeFor}
use Rattle.lane_words.specs.Loads.{loaded_faults}
use Rattle.classifier.specs.InRun.{LanesInRun}
use Rattle.testbench.specs.Load.{load_of}
use Rattle.classifier.specs.declared.narrow.Narrow.{Narrow}

-- the faults in force at a place; none where there is no place
abbrev pub faults_at : List (List (Option Fault)) → Option ℕ → List Fault
faults_at in_force None = []
faults_at in_force (Some place) = loaded_faults in_force place

-- those in a lane of a word: a lane without a place has none
abbrev pub narrow_faults : Narrow → ℕ → ℕ → List Fault
narrow_faults s word k = faults_at s.lanes.in_force (place_in s.picks (word * 64 + k))

-- each was made for this circuit and this order of its tables
abbrev pub AreNarrowFor : Circuit → List NetId → List Narrow → Type 0
AreNarrowFor c order narrow = (i : ℕ) (none : Narrow) → i < length narrow → IsMadeFor c order (slice_index_or narrow i none).lanes

-- the one word in a run, as the lanes of four words
abbrev pub narrow_in_run : Narrow → LanesInRun
narrow_in_run s = record {
  load = load_of s.lanes;
  faults = narrow_faults s;
  cycle = s.lanes.cycle;
  IsAfter = λ vectors. AreBeside 64 bit vectors s.lanes;
}

-- the lanes of four words go on in others, from the same place and with the same faults
pub record GoOnIn (four others : LanesInRun) : Type 0 where
  pub cycle : others.cycle ≡ four.cycle
  pub faults : (word k : ℕ) → word < 4 → k < 64 → others.faults word k ≡ four.faults word k
  pub after : (vectors : List (List Bool)) → four.IsAfter vectors → others.IsAfter vectors
