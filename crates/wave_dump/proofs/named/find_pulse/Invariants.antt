use Rattle.std.proofs.Common.{◌≡◌}
use Rattle.std.specs.Prelude.{find, None}
use Rattle.std.specs.List.{flat_map}
use Rattle.fm_base.specs.Lists.{below}
use Rattle.wave_dump.specs.Steps.{pulses_on, is_fault_named}
use Rattle.wave_dump.proofs.named.find_pulse.Given as goal

-- no fault so far has the name
abbrev pub invariant-loop-n : goal.invariant-loop-n
invariant-loop-n l = find (is_fault_named l.net l.name) (flat_map (pulses_on l.cycles) (below l.n)) ≡ None
