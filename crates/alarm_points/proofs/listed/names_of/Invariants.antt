use Rattle.std.proofs.Common.{◌≡◌, take}
use Rattle.alarm_points.proofs.listed.names_of.Given as goal

abbrev pub invariant-loop-name : goal.invariant-loop-name
invariant-loop-name l = l.index ≡ take l.name-index l.names
