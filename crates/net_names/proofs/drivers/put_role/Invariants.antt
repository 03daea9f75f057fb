use Rattle.std.proofs.Common.{◌≡◌, drop}
use Rattle.net_names.specs.Drivers.{put_drivers, role_driver}
use Rattle.net_names.proofs.drivers.put_role.Given as goal

abbrev pub invariant-loop-k : goal.invariant-loop-k
invariant-loop-k l =
    put_drivers (role_driver l.role) l.k (drop l.k l.nets) l.drivers ≡ put_drivers (role_driver l.role) 0 l.nets l.initial.drivers
