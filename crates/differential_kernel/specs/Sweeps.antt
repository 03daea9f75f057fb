-- A sweep over the tables of a cone, in one lane.
use Rattle.std.specs.Prelude.{ℕ, ◌<◌, Bool, List, length, take}
use Rattle.circuit.specs.Value.{Cycle}
use Rattle.golden_difference.proofs.Walked.{Walked}
use Rattle.lane_words.specs.Forces.{AreForces}
use Rattle.differential_kernel.specs.declared.cone.Cone.{Cone}
use Rattle.differential_kernel.specs.declared.force.Forces.{Forces}
use Rattle.differential_kernel.specs.declared.golden_cycle.GoldenCycle.{GoldenCycle}
use Rattle.differential_kernel.specs.Places.{next_in}
use Rattle.differential_kernel.specs.Shown.{valued_in}
use Rattle.differential_kernel.specs.Walk.{IsPair}

-- the place in the order of a table of the cone, or behind the last one the end of the order
abbrev pub place_of : GoldenCycle → Cone → ℕ → ℕ
place_of cycle cone at = next_in cone.tables.items cone.table_count (length cycle.order.now) at

-- the nets of the places before that of a table of the cone have their values
abbrev pub IsSweptTo : {W : Type 0} → (W → ℕ → Bool) → ℕ → GoldenCycle → Cone → Cycle → ℕ → List W → Type 0
IsSweptTo bit k cycle cone x at values =
    Walked x (valued_in bit k cycle.row.now cone.nets values) (take (place_of cycle cone at) cycle.order.now) (place_of cycle cone at)

-- the tables from one up to another are evaluated, in each lane
abbrev pub SweepsOn : {W : Type 0} → ℕ → (W → ℕ → Bool) → GoldenCycle → Forces W → Cone → ℕ → ℕ → List W → List W → Type 0
SweepsOn lanes bit cycle forces cone from to old new =
    (k : ℕ) (x golden : Cycle) → k < lanes → IsPair cycle.netlist.now cycle.row.now x golden → AreForces bit k forces.by_net.items x
    → IsSweptTo bit k cycle cone x from old → IsSweptTo bit k cycle cone x to new
