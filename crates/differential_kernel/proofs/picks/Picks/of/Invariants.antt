use Rattle.std.proofs.Common.{◌≡◌, ◌<◌, ℕ, [], length}
use Rattle.std.specs.Prelude.{None}
use Rattle.lane_words.specs.Loads.{loaded_faults}
use Rattle.differential_kernel.specs.Picked.{AreBelow, ArePicks, place_in}
use Rattle.differential_kernel.proofs.picks.Picks.of.Given as goal

-- of the lanes so far, those without a place have no fault
abbrev pub invariant-loop-lane : goal.invariant-loop-lane
invariant-loop-lane l = record {
  sound : ArePicks l.picks;
  below : AreBelow (length l.faults) l.picks;
  rest : (lane : ℕ) → lane < l.lane → place_in l.picks lane ≡ None → loaded_faults l.faults lane ≡ [];
}
