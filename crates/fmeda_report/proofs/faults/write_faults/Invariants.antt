use Rattle.std.proofs.Common.{Ok}
use Rattle.std.specs.List.{flat_map}
use Rattle.fm_base.specs.Lists.{below}
use Rattle.fmeda_report.specs.Report.{fault_line}
use Rattle.fm_shelf.specs.Sink.{Sends}
use Rattle.fmeda_report.specs.Tallies.{planes_in_order}
use Rattle.fmeda_report.proofs.faults.write_faults.Given as goal

abbrev pub invariant-loop-i : goal.invariant-loop-i
invariant-loop-i g l =
    Sends (g.O.Sink.seen l.initial.out) (g.O.Sink.seen l.out)
    (flat_map (fault_line l.plan (planes_in_order l.planes)) (below l.i)) (Ok tt)
