use Rattle.std.proofs.Common.{Ok}
use Rattle.std.specs.List.{flat_map}
use Rattle.fm_base.specs.Lists.{below}
use Rattle.fm_shelf.specs.Sink.{Sends}
use Rattle.wave_dump.specs.Dump.{scope_values}
use Rattle.wave_dump.proofs.values.write_scopes.Given as goal

abbrev pub invariant-loop-scope : goal.invariant-loop-scope
invariant-loop-scope g l =
    Sends (g.O.Sink.seen l.initial.out) (g.O.Sink.seen l.out) (flat_map (scope_values l.scene l.t) (below l.scope)) (Ok tt)
