-- A run that is over: no latch differs, and no fault acts any more.
use Rattle.std.proofs.Common.{◌≡◌, ℕ, zero, suc, ◌+◌, ◌-◌, ◌<◌, ◌≤◌, Bool, false, List, [], ◌++◌, length, get_or, refl, ap, sym, ◌∙◌, arith}
use Rattle.std.proofs.lemmas.List.{ext_get_or}
use Rattle.circuit.specs.declared.parts.Fault.{Fault}
use Rattle.circuit.specs.declared.parts.Latch.{Latch}
use Rattle.circuit.specs.Circuit.{Circuit}
use Rattle.circuit.specs.Trace.{cycle_at, raw_state, trace, vector_at}
use Rattle.circuit.specs.Value.{cycle_of, driven, driver_at, net_value, table_at, table_gives, val}
use Rattle.circuit.proofs.Cycles.{raw_state-append}
use Rattle.circuit.proofs.Steps.{raw_state-suc, val-suc, val-zero}
use Rattle.circuit.proofs.Walks.{driven_same, map_same}
use Rattle.golden_difference.specs.Beside.{DoNothing, IsOver, state_differs}
use Rattle.golden_difference.proofs.Exclusive.{none_of_same, same_of_none}
use Rattle.golden_difference.proofs.NextCycle.{state_length}
use Rattle.lane_words.proofs.Armed.{flipped_same}

-- in such a cycle each net has the value that it has without faults
same_value : (depth : ℕ) (c : Circuit) (faults : List Fault) (t : ℕ) (state inputs : List Bool) → DoNothing faults t → (net : ℕ)
    → val depth (cycle_of c faults t state inputs) net ≡ val depth (cycle_of c [] t state inputs) net
same_value zero c faults t state inputs idle net =
    val-zero (cycle_of c faults t state inputs) net
    ∙ idle.nets net (driven state inputs (λ k. false) (driver_at c net))
    ∙ sym (val-zero (cycle_of c [] t state inputs) net)
same_value (suc depth) c faults t state inputs idle net =
    val-suc depth (cycle_of c faults t state inputs) net
    ∙ idle.nets net (driven state inputs (table_gives c (val depth (cycle_of c faults t state inputs))) (driver_at c net))
    ∙ driven_same c state inputs (val depth (cycle_of c faults t state inputs)) (val depth (cycle_of c [] t state inputs)) (driver_at c net)
    (λ k e i d within. same_value depth c faults t state inputs idle (get_or (table_at c.tables k).ins i d).0)
    ∙ sym (val-suc depth (cycle_of c [] t state inputs) net)

-- where the latches hold the same, such a cycle is the golden one
same_cycle : (c : Circuit) (faults : List Fault) (vectors : List (List Bool)) (t net : ℕ) → DoNothing faults t
    → raw_state c faults vectors t ≡ raw_state c [] vectors t → trace c faults vectors t net ≡ trace c [] vectors t net
same_cycle c faults vectors t net idle same =
    ap (λ state. net_value (cycle_of c faults t state (vector_at vectors t)) net) (idle.latches (raw_state c faults vectors t) ∙ same)
    ∙ same_value (length c.tables + 1) c faults t (raw_state c [] vectors t) (vector_at vectors t) idle net
    ∙ ap (λ state. net_value (cycle_of c [] t state (vector_at vectors t)) net) (sym (flipped_same [] t 0 (raw_state c [] vectors t) (λ l. refl)))

-- and so the latches hold the same after it
same_state : (c : Circuit) (faults : List Fault) (vectors : List (List Bool)) (from most j : ℕ) → raw_state c faults vectors from ≡ raw_state c [] vectors from
    → ((t : ℕ) → from ≤ t → t < most → DoNothing faults t) → from + j < most → raw_state c faults vectors (from + j) ≡ raw_state c [] vectors (from + j)
same_state c faults vectors from most zero same idle lt =
    let here : from ≡ from + 0 = omega arith in
    ap (raw_state c faults vectors) (sym here) ∙ same ∙ ap (raw_state c [] vectors) here
same_state c faults vectors from most (suc j) same idle lt =
    let next : suc (from + j) ≡ from + suc j = omega arith in
    let before : raw_state c faults vectors (from + j) ≡ raw_state c [] vectors (from + j) = same_state c faults vectors from most j same idle (omega (arith, lt)) in
    ap (raw_state c faults vectors) (sym next) ∙ raw_state-suc c faults vectors (from + j)
    ∙ map_same (λ (latch : Latch). net_value (cycle_at c faults vectors (from + j)) latch.from.0) (λ (latch : Latch). net_value (cycle_at c [] vectors (from + j)) latch.from.0) c.latches
    (λ l d within. same_cycle c faults vectors (from + j) (get_or c.latches l d).from.0 (idle (from + j) (omega arith) (omega (arith, lt))) before)
    ∙ sym (raw_state-suc c [] vectors (from + j)) ∙ ap (raw_state c [] vectors) next

-- NO NET DIFFERS ANY MORE
pub is_over_after : (c : Circuit) (faults : List Fault) (vectors : List (List Bool)) (most : ℕ)
    → ((l : ℕ) → l < length c.latches → state_differs c faults vectors (length vectors) l ≡ false)
    → ((t : ℕ) → length vectors ≤ t → t < most → DoNothing faults t) → IsOver c faults vectors most
is_over_after c faults vectors most same idle more t net from lt within =
    let n = length vectors in
    let last : n + (t - n) ≡ t = omega (arith, from) in
    let alike : raw_state c faults vectors n ≡ raw_state c [] vectors n =
    ext_get_or false (raw_state c faults vectors n) (raw_state c [] vectors n) (state_length c faults vectors n ∙ sym (state_length c [] vectors n))
    (λ l less. same_of_none _ _ (same l (omega (arith, less, state_length c faults vectors n)))) in
    let begun : raw_state c faults (vectors ++ more) n ≡ raw_state c [] (vectors ++ more) n =
    raw_state-append c faults vectors more n (omega arith) ∙ alike ∙ sym (raw_state-append c [] vectors more n (omega arith)) in
    none_of_same _ _ (same_cycle c faults (vectors ++ more) t net (idle t from lt)
    (ap (raw_state c faults (vectors ++ more)) (sym last) ∙ same_state c faults (vectors ++ more) n most (t - n) begun idle (omega (arith, last, lt))
    ∙ ap (raw_state c [] (vectors ++ more)) last))
