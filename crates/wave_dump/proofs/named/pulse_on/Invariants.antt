use Rattle.std.proofs.Common.{◌≡◌, drop}
use Rattle.std.specs.Prelude.{find}
use Rattle.wave_dump.specs.Steps.{is_fault_named, pulses_on}
use Rattle.wave_dump.proofs.named.pulse_on.Given as goal

abbrev pub invariant-loop-cycle : goal.invariant-loop-cycle
invariant-loop-cycle l = find (is_fault_named l.net l.name) (pulses_on l.cycles l.n) ≡ find (is_fault_named l.net l.name) (pulses_on (drop l.cycle-index l.cycles) l.n)
