use Rattle.std.proofs.Common.{Ok, take}
use Rattle.std.specs.List.{flat_map}
use Rattle.fm_shelf.specs.Sink.{Sends}
use Rattle.metric_coverage.specs.Cycles.{cycle_at}
use Rattle.metric_coverage.specs.Text.{cycle_by}
use Rattle.metric_coverage.proofs.upsets.write_cycles.Given as goal

-- the lines of the cycles so far went out
abbrev pub invariant-loop-cycle : goal.invariant-loop-cycle
invariant-loop-cycle g l =
    Sends (g.O.Sink.seen l.initial.out) (g.O.Sink.seen l.out) (flat_map (λ cycle. cycle_by cycle (cycle_at l.weights cycle)) (take l.cycle-index l.cycles)) (Ok tt)
