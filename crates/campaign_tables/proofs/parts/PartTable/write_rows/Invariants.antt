use Rattle.std.proofs.Common.{Ok}
use Rattle.std.specs.List.{flat_map}
use Rattle.fm_base.specs.Lists.{below}
use Rattle.fm_shelf.specs.Sink.{Sends}
use Rattle.campaign_tables.specs.PartTable.{row_line}
use Rattle.campaign_tables.proofs.parts.PartTable.write_rows.Given as goal

abbrev pub invariant-loop-k : goal.invariant-loop-k
invariant-loop-k g l =
    Sends (g.O.Sink.seen l.initial.out) (g.O.Sink.seen l.out)
    (flat_map (row_line l.self.circuit l.self.rates) (below l.k)) (Ok tt)
