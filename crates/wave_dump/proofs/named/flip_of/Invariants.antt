use Rattle.std.proofs.Common.{◌≡◌, drop}
use Rattle.std.specs.Prelude.{find}
use Rattle.wave_dump.specs.Steps.{flips_of, is_fault_named}
use Rattle.wave_dump.proofs.named.flip_of.Given as goal

abbrev pub invariant-loop-cycle : goal.invariant-loop-cycle
invariant-loop-cycle l = find (is_fault_named l.net l.name) (flips_of l.cycles l.latch) ≡ find (is_fault_named l.net l.name) (flips_of (drop l.cycle-index l.cycles) l.latch)
