use Rattle.std.proofs.Common.{Ok}
use Rattle.std.specs.List.{flat_map}
use Rattle.fm_base.specs.Lists.{below}
use Rattle.fm_shelf.specs.Sink.{Sends}
use Rattle.wave_dump.specs.Steps.{wire_line}
use Rattle.wave_dump.proofs.header.write_wires.Given as goal

abbrev pub invariant-loop-place : goal.invariant-loop-place
invariant-loop-place g l =
    Sends (g.O.Sink.seen l.initial.out) (g.O.Sink.seen l.out) (flat_map (wire_line l.scene l.scope) (below l.place)) (Ok tt)
