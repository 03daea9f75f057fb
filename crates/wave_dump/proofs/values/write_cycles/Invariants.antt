use Rattle.std.proofs.Common.{Ok}
use Rattle.std.specs.List.{flat_map}
use Rattle.fm_base.specs.Lists.{below}
use Rattle.fm_shelf.specs.Sink.{Sends}
use Rattle.wave_dump.specs.Dump.{cycle_values}
use Rattle.wave_dump.specs.Steps.{HasLanes, Holds, HasRunTo}
use Rattle.wave_dump.proofs.values.write_cycles.Given as goal

-- the cycles so far are written and simulated, and the last of them is held
abbrev pub invariant-loop-t : goal.invariant-loop-t
invariant-loop-t g l = record {
  lanes : HasLanes l.scene l.order l.lanes;
  behind : HasRunTo l.scene l.t l.lanes;
  held : Holds l.scene l.t l.held;
  sent : Sends (g.O.Sink.seen l.initial.out) (g.O.Sink.seen l.out) (flat_map (cycle_values l.scene) (below l.t)) (Ok tt);
}
