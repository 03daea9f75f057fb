use Rattle.std.proofs.Common.{Ok, take}
use Rattle.std.specs.List.{flat_map}
use Rattle.fm_shelf.specs.Sink.{Sends}
use Rattle.metric_breakdown.specs.Text.{lines_by}
use Rattle.metric_breakdown.proofs.text.write_readings.Given as goal

-- the lines of the readings so far went out
abbrev pub invariant-loop-r : goal.invariant-loop-r
invariant-loop-r g l = Sends (g.O.Sink.seen l.initial.out) (g.O.Sink.seen l.out) (flat_map (lines_by l.plan) (take l.r l.readings)) (Ok tt)
