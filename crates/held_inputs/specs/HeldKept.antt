-- What held inputs keep.
use Rattle.std.specs.Prelude.{◌≤◌, List, length, All, Contains}
use Rattle.circuit.specs.Circuit.{Circuit}
use Rattle.coverage_claim.specs.declared.parts.Held.{Held}

-- at most 1,024 inputs of a netlist, from cycles of at most 65,535 on
pub record AreHeldFor (c : Circuit) (held : List Held) : Type 0 where
  pub inputs : All (λ h. Contains c.inputs h.net) held
  pub small : All (λ h. h.from ≤ 65535) held
  pub few : length held ≤ 1024
