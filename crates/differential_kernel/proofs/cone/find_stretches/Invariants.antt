use Rattle.std.proofs.Common.{◌<◌, ◌≤◌, ◌-◌, ℕ, get_or}
use Rattle.differential_kernel.specs.Cone.{IsStretch, cone_table}
use Rattle.differential_kernel.proofs.cone.find_stretches.Given as goal

-- the last tables have their ends, and `next` is that of the first of them
abbrev pub invariant-loop-back : goal.invariant-loop-back
invariant-loop-back l = record {
  most : l.next ≤ l.count;
  least : l.count - l.back ≤ l.next;
  next : IsStretch l.tables (cone_table l.tables (l.count - l.back)).gate.op (l.count - l.back) l.next;
  from : (i : ℕ) → l.count - l.back ≤ i → i < l.count → i ≤ get_or l.ends i 0;
  to : (i : ℕ) → l.count - l.back ≤ i → i < l.count → get_or l.ends i 0 ≤ l.count;
  each : (i : ℕ) → l.count - l.back ≤ i → i < l.count → IsStretch l.tables (cone_table l.tables i).gate.op i (get_or l.ends i 0);
}
