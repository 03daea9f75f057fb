use Rattle.std.proofs.Common.{◌≡◌, ◌<◌, ℕ, length, get_or}
use Rattle.circuit.specs.Order.{net_at}
use Rattle.lane_words.specs.declared.gate.Gate.{Gate}
use Rattle.lane_words.specs.Gates.{IsGate}
use Rattle.lane_words.proofs.program.make_gates.Given as goal

abbrev pub invariant-loop-net : goal.invariant-loop-net
invariant-loop-net l =
    (length l.gates.items ≡ l.net-index)
    × ((j : ℕ) (d : Gate) → j < l.net-index → ((get_or l.gates.items j d).to ≡ (net_at l.order j).0) × IsGate l.netlist (get_or l.gates.items j d))
