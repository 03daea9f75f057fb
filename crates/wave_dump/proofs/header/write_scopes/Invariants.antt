use Rattle.std.proofs.Common.{Ok}
use Rattle.std.specs.List.{flat_map}
use Rattle.fm_base.specs.Lists.{below}
use Rattle.fm_shelf.specs.Sink.{Sends}
use Rattle.wave_dump.specs.Dump.{declared_scope}
use Rattle.wave_dump.proofs.header.write_scopes.Given as goal

abbrev pub invariant-loop-scope : goal.invariant-loop-scope
invariant-loop-scope g l =
    Sends (g.O.Sink.seen l.initial.out) (g.O.Sink.seen l.out) (flat_map (declared_scope l.scene) (below l.scope)) (Ok tt)
