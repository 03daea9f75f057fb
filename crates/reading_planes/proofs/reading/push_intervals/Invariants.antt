use Rattle.std.proofs.Common.{◌≡◌, ◌++◌, map, take}
use Rattle.reading_planes.specs.declared.reading.Reading.TheVariants.{Interval}
use Rattle.reading_planes.proofs.reading.push_intervals.Given as goal

-- those so far
abbrev pub invariant-loop-cycles : goal.invariant-loop-cycles
invariant-loop-cycles l = l.list.items ≡ l.initial.list.items ++ map (λ cycles. Interval cycles) (take l.cycles-index l.intervals)
