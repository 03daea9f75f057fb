use Rattle.std.proofs.Common.{◌≡◌, ◌+◌, ◌<◌, ◌≤◌, ℕ, false, length, get_or}
use Rattle.wave_dump.specs.Steps.{AreMarks, IsIn, has_changed}
use Rattle.wave_dump.proofs.changed.mark.Given as goal

abbrev pub invariant-loop-net : goal.invariant-loop-net
invariant-loop-net l = record {
  count : length l.marks ≡ length l.initial.marks;
  done : (t k : ℕ) → IsIn l.scene t l.lanes → AreMarks l.scene t l.initial.marks → k < l.net → get_or l.marks k false ≡ has_changed l.scene (t + 1) k;
  rest : (k : ℕ) → l.net ≤ k → get_or l.marks k false ≡ get_or l.initial.marks k false;
}
