use Rattle.std.proofs.Common.{◌≡◌, Bool, map, take}
use Rattle.std.specs.Prelude.{filter, not}
use Rattle.fm_base.specs.Names.{Name}
use Rattle.blif_reader.proofs.nets.own_names.Given as goal

abbrev pub invariant-loop-number : goal.invariant-loop-number
invariant-loop-number l = (is_clock : Name → Bool) → l.clocks ≡ map is_clock l.names → l.nets ≡ filter (λ name. not (is_clock name)) (take l.number l.names)
