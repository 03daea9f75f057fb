-- The drivers of nets, put one by one.
use Rattle.std.specs.Prelude.{ℕ, ◌+◌, List, [], ◌∷◌, replicate, slice_set}
use Rattle.circuit.specs.declared.parts.Driver.{Driver}
use Rattle.circuit.specs.declared.parts.Driver.TheVariants as drivers
use Rattle.circuit.specs.declared.parts.NetId.{NetId}
use Rattle.net_names.specs.declared.drivers.Role.{Role}
use Rattle.net_names.specs.declared.drivers.Role.TheVariants.{Input, Table, Latch}

-- the driver of a role with a number
abbrev pub role_driver : Role → ℕ → Driver
role_driver Input k = drivers.Input k
role_driver Table k = drivers.Table k
role_driver Latch k = drivers.Latch k

-- nets have drivers that are numbered from n
abbrev pub put_drivers : (ℕ → Driver) → ℕ → List NetId → List Driver → List Driver
put_drivers driver n [] drivers = drivers
put_drivers driver n (net ∷ nets) drivers = put_drivers driver (n + 1) nets (slice_set drivers net.0 (driver n))

-- the drivers of so many nets
abbrev pub drivers_by : List NetId → List NetId → List NetId → ℕ → List Driver
drivers_by inputs tables latches count =
    put_drivers drivers.Latch 0 latches
    (put_drivers drivers.Table 0 tables (put_drivers drivers.Input 0 inputs (replicate count (drivers.Input 0))))
