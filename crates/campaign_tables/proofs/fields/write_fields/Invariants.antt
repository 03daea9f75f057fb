use Rattle.std.proofs.Common.{take, Ok}
use Rattle.std.specs.List.{flat_map}
use Rattle.fm_shelf.specs.Sink.{Sends}
use Rattle.campaign_tables.proofs.Quoting.{next_field}
use Rattle.campaign_tables.proofs.fields.write_fields.Given as goal

abbrev pub invariant-loop-field : goal.invariant-loop-field
invariant-loop-field g l =
    Sends (g.O.Sink.seen l.initial.out) (g.O.Sink.seen l.out)
    (flat_map next_field (take l.field-index l.fields)) (Ok tt)
