use Rattle.std.proofs.Common.{◌≡◌, drop, take}
use Rattle.fm_base.specs.Firsts.{first_after}
use Rattle.blif_model.specs.WalkFault.{two_clocks}
use Rattle.blif_flatten.specs.Flattened.{flat_steps}
use Rattle.blif_reader.proofs.ClockMarks.{clock_fault, KeepsFirsts}
use Rattle.blif_reader.proofs.clocks.two_clocks.Given as goal

abbrev pub invariant-loop-place : goal.invariant-loop-place
invariant-loop-place l = record {
  keeps : KeepsFirsts (take l.place (flat_steps l.flat)) l.first;
  left : first_after clock_fault (take l.place (flat_steps l.flat)) (drop l.place (flat_steps l.flat)) ≡ two_clocks (flat_steps l.flat);
}
