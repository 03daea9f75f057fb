use Rattle.std.proofs.Common.{take, Ok}
use Rattle.std.specs.List.{flat_map}
use Rattle.fm_shelf.specs.Sink.{Sends}
use Rattle.campaign_tables.specs.FaultSteps.{between_quotes}
use Rattle.campaign_tables.proofs.fields.write_bytes.Given as goal

abbrev pub invariant-loop-byte : goal.invariant-loop-byte
invariant-loop-byte g l =
    Sends (g.O.Sink.seen l.initial.out) (g.O.Sink.seen l.out)
    (flat_map between_quotes (take l.byte-index l.piece)) (Ok tt)
