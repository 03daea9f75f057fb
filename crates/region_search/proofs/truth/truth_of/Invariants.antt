use Rattle.std.proofs.Common.{◌≡◌, ◌<◌, ◌≤◌, ℕ, Bool, false, map}
use Rattle.circuit.specs.Table.{table_value}
use Rattle.circuit.specs.declared.parts.NetId.{NetId}
use Rattle.fm_base.specs.Planes.{bit}
use Rattle.region_search.specs.Truth.{row_of}
use Rattle.region_search.proofs.truth.truth_of.Given as goal

abbrev pub invariant-loop-row : goal.invariant-loop-row
invariant-loop-row l = record {
  noted : (values : ℕ → Bool) → row_of values l.reads < l.row → bit l.truth (row_of values l.reads) ≡ table_value l.table (map (λ (net : NetId). values net.0) l.table.ins);
  clear : (r : ℕ) → l.row ≤ r → bit l.truth r ≡ false;
}
