use Rattle.std.proofs.Common.{◌≡◌, ◌<◌, ◌≤◌, ◌-◌, ℕ, length}
use Rattle.circuit.specs.Value.{bit_at}
use Rattle.lane_words.specs.declared.force.Force.{Force}
use Rattle.lane_words.specs.Gates.{plane}
use Rattle.differential_kernel.specs.Forced.{forced_in}
use Rattle.differential_kernel.specs.Noted.{AreNoted}
use Rattle.differential_kernel.proofs.sources.force_all.Given as goal

abbrev pub decreases-nets : goal.decreases-nets
decreases-nets g l = length l.cycle.netlist.now.drivers - l.from

-- the nets so far are forced, and the others are as they were
abbrev pub invariant-nets : goal.invariant-nets
invariant-nets g l = record {
  within : l.from ≤ length l.cycle.netlist.now.drivers;
  few : l.forced ≤ l.from;
  noted : AreNoted g.W.Word.lanes g.W.Word.lane_bit l.cycle.fanout.now 0 l.nets;
  done : (k n : ℕ) (d : Force g.row.W.Denot) → k < g.W.Word.lanes → n < l.from → n < length l.cycle.netlist.now.drivers
      → bit_at (plane g.W.Word.lane_bit k l.nets.words.items) n
      ≡ forced_in g.W.Word.lane_bit k l.cycle.row.now l.forces.by_net.items d l.initial.nets.words.items n;
  ahead : (k n : ℕ) → l.from ≤ n → bit_at (plane g.W.Word.lane_bit k l.nets.words.items) n ≡ bit_at (plane g.W.Word.lane_bit k l.initial.nets.words.items) n;
}
