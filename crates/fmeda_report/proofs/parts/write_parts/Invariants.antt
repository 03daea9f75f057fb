use Rattle.std.proofs.Common.{Ok}
use Rattle.std.specs.List.{flat_map}
use Rattle.fm_base.specs.Lists.{below}
use Rattle.fmeda_report.specs.Report.{part_line}
use Rattle.result_file.specs.RowPlanes.{Planes}
use Rattle.fm_shelf.specs.Sink.{Sends}
use Rattle.fmeda_report.specs.Tallies.{AreTallied}
use Rattle.fmeda_report.proofs.parts.write_parts.Given as goal

abbrev pub invariant-loop-number : goal.invariant-loop-number
invariant-loop-number g l =
    (planes : Planes) → AreTallied l.plan planes l.tallies
    → Sends (g.O.Sink.seen l.initial.out) (g.O.Sink.seen l.out)
    (flat_map (part_line l.plan planes) (below l.number)) (Ok tt)
