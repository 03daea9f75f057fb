-- Nets by their names, and the drivers of named nets.
use Rattle.std.specs.Prelude.{ℕ, List, map, bytes_eq, find}
use Rattle.std.specs.List.{enumerate_from, position_or_len}
use Rattle.std.specs.Option.{option_map_or}
use Rattle.circuit.specs.declared.parts.Driver.{Driver}
use Rattle.circuit.specs.declared.parts.Driver.TheVariants.{Input}
use Rattle.circuit.specs.declared.parts.NetId.{NetId}
use Rattle.fm_base.specs.Names.{Name}

-- the number of a net is its place among the nets
abbrev pub net_id : List Name → Name → NetId
net_id nets name = record { 0 = position_or_len (λ net. bytes_eq net name) nets }

-- names beside their drivers, which are numbered in the order of the names
abbrev pub with_drivers : (ℕ → Driver) → List Name → List (Name × Driver)
with_drivers driver names = map (λ p. (p.1, driver p.0)) (enumerate_from 0 names)

-- the driver of a net
abbrev pub driver_of : List (Name × Driver) → Name → Driver
driver_of drivers name = option_map_or (λ p. p.1) (find (λ p. bytes_eq p.0 name) drivers) (Input 0)
