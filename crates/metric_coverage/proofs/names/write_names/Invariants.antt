use Rattle.std.proofs.Common.{Ok}
use Rattle.std.specs.List.{flat_map}
use Rattle.fm_base.specs.Lists.{below}
use Rattle.fm_shelf.specs.Sink.{Sends}
use Rattle.campaign_plan.specs.Batches.{class_of_fault}
use Rattle.fmeda_report.specs.Tallies.{planes_in_order}
use Rattle.coverage.specs.Coverage.{unspoken_line}
use Rattle.metric_coverage.specs.Freed.{evidence_at}
use Rattle.metric_coverage.proofs.names.write_names.Given as goal

-- the lines of the faults so far went out
abbrev pub invariant-loop-i : goal.invariant-loop-i
invariant-loop-i g l =
    Sends (g.O.Sink.seen l.initial.out) (g.O.Sink.seen l.out)
    (flat_map (unspoken_line l.plan (evidence_at l.evidence) (class_of_fault l.plan (planes_in_order l.planes))) (below l.i)) (Ok tt)
