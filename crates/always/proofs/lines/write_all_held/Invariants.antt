use Rattle.std.proofs.Common.{Ok, take}
use Rattle.std.specs.List.{flat_map}
use Rattle.fm_shelf.specs.Sink.{Sends}
use Rattle.always.specs.Text.{held_line}
use Rattle.always.proofs.lines.write_all_held.Given as goal

-- the lines of those so far went out
abbrev pub invariant-loop-h : goal.invariant-loop-h
invariant-loop-h g l = Sends (g.O.Sink.seen l.initial.out) (g.O.Sink.seen l.out) (flat_map (held_line l.net) (take l.h-index l.held)) (Ok tt)
