-- When faults lie within a region: any number of them, of any kinds, in any cycles.
use Rattle.std.specs.Prelude.{◌≡◌, ◌≤◌, ℕ, List, All, Contains}
use Rattle.circuit.specs.declared.parts.Fault.{Fault}
use Rattle.circuit.specs.declared.parts.Fault.TheVariants.{Stuck, Flip, Pulse}
use Rattle.circuit.specs.declared.parts.NetId.{NetId}
use Rattle.circuit.specs.Circuit.{Circuit}
use Rattle.reach.specs.Paths.{ActsOn}
use Rattle.coverage_claim.specs.Region.{Region}
use Rattle.coverage_claim.specs.declared.parts.Site.{Site}
use Rattle.coverage_claim.specs.declared.parts.Site.TheVariants.{Intact, Free, Only}

-- of these faults no more acts on a net than its site says
abbrev pub KeepsTo : Circuit → List Fault → NetId → Site → Type 0
KeepsTo c faults net Intact = All (λ fault. ¬ (ActsOn c net fault)) faults
KeepsTo c faults net Free = Unit {0}
KeepsTo c faults net (Only value) = Contains faults (Stuck net value) × All (λ fault. ActsOn c net fault → fault ≡ Stuck net value) faults

-- THE FAULTS LIE WITHIN THE REGION
abbrev pub LieWithin : Circuit → List Fault → Region → Type 0
LieWithin c faults region = (net : NetId) → KeepsTo c faults net (region net.0)

-- the fault is a flip or a pulse, and does nothing before this cycle
abbrev pub WaitsUntil : ℕ → Fault → Type 0
WaitsUntil from (Stuck n value) = ⊥
WaitsUntil from (Flip l cycle) = from ≤ cycle
WaitsUntil from (Pulse n cycle) = from ≤ cycle
