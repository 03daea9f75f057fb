use Rattle.std.proofs.Common.{◌<◌, ◌≤◌, ◌+◌, ◌-◌, ℕ, [], length, take}
use Rattle.circuit.specs.Value.{Cycle}
use Rattle.golden_difference.proofs.Walked.{Walked}
use Rattle.differential_kernel.specs.Differences.{read_in}
use Rattle.differential_kernel.specs.Noted.{AreNoted}
use Rattle.lane_words.specs.Forces.{AreForces}
use Rattle.differential_kernel.specs.Walk.{IsAhead, IsPair}
use Rattle.differential_kernel.proofs.walk.walk.Given as goal

abbrev pub decreases-places : goal.decreases-places
decreases-places g l = length l.cycle.order.now - l.from

-- the nets of the places so far are read with their values
abbrev pub invariant-places : goal.invariant-places
invariant-places g l = record {
  within : l.from ≤ length l.cycle.order.now;
  noted : AreNoted g.W.Word.lanes g.W.Word.lane_bit l.cycle.fanout.now l.from l.nets;
  ahead : IsAhead g.W.Word.lanes g.W.Word.lane_bit l.cycle.order.now l.cycle.row.now l.forces.by_net.items l.from l.nets.words.items l.nets.marks;
  values : (k : ℕ) (x golden : Cycle) → k < g.W.Word.lanes → IsPair l.cycle.netlist.now l.cycle.row.now x golden → AreForces g.W.Word.lane_bit k l.forces.by_net.items x
      → Walked x (read_in g.W.Word.lane_bit k l.cycle.row.now l.initial.nets.words.items) [] 0
      → Walked x (read_in g.W.Word.lane_bit k l.cycle.row.now l.nets.words.items) (take l.from l.cycle.order.now) l.from;
  few : l.evaluated ≤ l.from;
  cost : l.steps ≤ l.initial.steps + l.from;
}
