use Rattle.std.proofs.Common.{Ok}
use Rattle.std.specs.List.{flat_map}
use Rattle.fm_base.specs.Lists.{below}
use Rattle.fm_shelf.specs.Sink.{Sends}
use Rattle.readings.specs.Latencies.{latency_row, least_interval}
use Rattle.latency_table.proofs.table.write_rows.Given as goal

-- the rows so far went out
abbrev pub invariant-loop-i : goal.invariant-loop-i
invariant-loop-i g l =
    Sends (g.O.Sink.seen l.initial.out) (g.O.Sink.seen l.out)
    (flat_map (latency_row (least_interval l.plan) l.plan) (below l.i)) (Ok tt)
