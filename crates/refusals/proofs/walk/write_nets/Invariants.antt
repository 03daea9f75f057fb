use Rattle.std.proofs.Common.{Ok, take}
use Rattle.std.specs.List.{flat_map}
use Rattle.fm_shelf.specs.Sink.{Sends}
use Rattle.refusals.specs.Said.{spaced_net}
use Rattle.refusals.proofs.walk.write_nets.Given as goal

abbrev pub invariant-loop-net : goal.invariant-loop-net
invariant-loop-net g l = Sends (g.O.Sink.seen l.initial.out) (g.O.Sink.seen l.out) (flat_map (spaced_net l.nets) (take l.net-index l.walk)) (Ok tt)
