use Rattle.std.proofs.Common.{◌≡◌, ℕ, length}
use Rattle.always_answers.specs.Steps.{IsSpread}
use Rattle.always_answers.proofs.alone.spread.Given as goal

abbrev pub invariant-loop-i : goal.invariant-loop-i
invariant-loop-i l = record {
  size : length l.answers ≡ length l.initial.answers;
  each : (n : ℕ) → IsSpread l.i l.nets l.found l.initial.answers l.answers n;
}
