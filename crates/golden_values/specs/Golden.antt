-- What the golden run tells of whether faults are excited.
use Rattle.std.specs.Prelude.{◌≡◌, ℕ, ◌<◌, Bool, not, List, length, nat_lt}
use Rattle.std.specs.List.{list_any}
use Rattle.circuit.specs.declared.parts.Fault.{Fault}
use Rattle.circuit.specs.declared.parts.Fault.TheVariants.{Stuck, Flip, Pulse}
use Rattle.circuit.specs.Circuit.{Circuit}
use Rattle.circuit.specs.Sound.{IsNet}
use Rattle.fm_base.specs.Lists.{some_below}
use Rattle.place_set.specs.Places.{value_in}
use Rattle.workload.specs.declared.run.Run.{Run}
use Rattle.workload.specs.Runs.{cycles_of}
use Rattle.campaign_plan.specs.Danger.{golden}
use Rattle.testbench.specs.Seen.{SeenValues}
use Rattle.golden_values.specs.declared.values.GoldenValues.{GoldenValues}

-- some cycle of some run passes
abbrev pub some_cycle : List Run → (Run → ℕ → Bool) → Bool
some_cycle runs test = list_any (λ run. some_below (cycles_of run) (test run)) runs

-- a net in a cycle of the golden run, by its number
abbrev pub golden_of : Circuit → ℕ → Run → ℕ → Bool
golden_of c net run t = golden c run t (record { 0 = net })

-- of each net it tells whether the golden run has 1 in some cycle of these runs, and whether it has 0
pub record AreSeenIn (c : Circuit) (runs : List Run) (seen : SeenValues) : Type 0 where
  pub ones_are : (net : ℕ) → net < length c.drivers → value_in seen.ones net ≡ some_cycle runs (golden_of c net)
  pub zeros_are : (net : ℕ) → net < length c.drivers → value_in seen.zeros net ≡ some_cycle runs (λ run t. not (golden_of c net run t))

-- of all runs, and the number of cycles of the longest
pub record HasSeenGolden (c : Circuit) (runs : List Run) (values : GoldenValues) : Type 0 where
  pub seen : AreSeenIn c runs values.seen
  pub longest : (t : ℕ) → nat_lt t values.longest ≡ list_any (λ run. nat_lt t (cycles_of run)) runs

-- a fault of this circuit
abbrev pub IsFaultIn : Circuit → Fault → Type 0
IsFaultIn c (Stuck n value) = IsNet c n
IsFaultIn c (Flip latch t) = latch < length c.latches
IsFaultIn c (Pulse n t) = IsNet c n
