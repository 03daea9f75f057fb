use Rattle.std.proofs.Common.{◌≡◌, ◌<◌, ℕ, get_or}
use Rattle.lane_words.specs.Gates.{gate_at}
use Rattle.place_set.specs.Places.{has}
use Rattle.differential_kernel.specs.Cone.{cone_table}
use Rattle.differential_kernel.proofs.cone.copy_tables.Given as goal

-- the tables so far
abbrev pub invariant-loop-at : goal.invariant-loop-at
invariant-loop-at l = record {
  gates : (i : ℕ) → i < l.at → (cone_table l.tables i).gate ≡ gate_at l.gates (get_or l.places i 0);
  forced : (i : ℕ) → i < l.at → (cone_table l.tables i).forced ≡ has l.named (gate_at l.gates (get_or l.places i 0)).to;
}
