use Rattle.std.proofs.Common.{◌≡◌, ◌≤◌, ℕ, length, map}
use Rattle.std.specs.Prelude.{count_by, ◌==◌}
use Rattle.fm_base.specs.Lists.{below}
use Rattle.collapse_map.proofs.numbers.count_own.Given as goal

abbrev pub invariant-loop-i : goal.invariant-loop-i
invariant-loop-i l = record {
  few : l.count ≤ l.i;
  counted : (f : ℕ → ℕ) → l.numbers ≡ map f (below (length l.numbers)) → l.count ≡ count_by (λ i. f i == i) (below l.i);
}
