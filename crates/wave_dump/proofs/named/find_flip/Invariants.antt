use Rattle.std.proofs.Common.{◌≡◌}
use Rattle.std.specs.Prelude.{find, None}
use Rattle.std.specs.List.{flat_map}
use Rattle.fm_base.specs.Lists.{below}
use Rattle.wave_dump.specs.Steps.{flips_of, is_fault_named}
use Rattle.wave_dump.proofs.named.find_flip.Given as goal

-- no fault so far has the name
abbrev pub invariant-loop-latch : goal.invariant-loop-latch
invariant-loop-latch l = find (is_fault_named l.net l.name) (flat_map (flips_of l.cycles) (below l.latch)) ≡ None
