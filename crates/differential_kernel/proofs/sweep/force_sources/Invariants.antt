use Rattle.std.proofs.Common.{◌≡◌, ◌≢◌, ◌<◌, ℕ, get_or}
use Rattle.circuit.specs.Value.{bit_at}
use Rattle.lane_words.specs.declared.force.Force.{Force}
use Rattle.lane_words.specs.Forces.{force_value}
use Rattle.lane_words.specs.Gates.{plane}
use Rattle.differential_kernel.proofs.sweep.force_sources.Given as goal

-- the nets so far are forced, and the others are as they were
abbrev pub invariant-loop-at : goal.invariant-loop-at
invariant-loop-at g l = record {
  done : (k i : ℕ) (d : Force g.row.W.Denot) → k < g.W.Word.lanes → i < l.at
      → bit_at (plane g.W.Word.lane_bit k l.values) (get_or l.cone.sources.items i 0)
      ≡ force_value g.W.Word.lane_bit k (get_or l.forces.by_net.items (get_or l.cone.sources.items i 0) d) (bit_at (plane g.W.Word.lane_bit k l.initial.values) (get_or l.cone.sources.items i 0));
  rest : (k n : ℕ) → ((i : ℕ) → i < l.at → n ≢ get_or l.cone.sources.items i 0)
      → bit_at (plane g.W.Word.lane_bit k l.values) n ≡ bit_at (plane g.W.Word.lane_bit k l.initial.values) n;
}
