-- The gate of a table of at most two inputs.
use Rattle.std.proofs.Common.{◌≡◌, ℕ, zero, suc, ◌<◌, ◌≤◌, Bool, List, [], ◌∷◌, length, take, map, get_or, refl, ap, ◌∙◌, arith}
use Rattle.std.specs.List.{All}
use Rattle.circuit.specs.declared.parts.NetId.{NetId}
use Rattle.circuit.specs.declared.parts.Table.{Table}
use Rattle.circuit.specs.Table.{table_value}
use Rattle.lane_words.specs.declared.gate.Gate.{Gate}
use Rattle.lane_words.specs.Gates.{gate_value, op_value}

bits_are : (ins : List NetId) (read : ℕ → Bool) (to a b : ℕ) → length ins ≤ 2 → a ≡ (get_or ins 0 (record { 0 = to })).0 → b ≡ (get_or ins 1 (record { 0 = to })).0
    → take (length ins) (read a ∷ read b ∷ []) ≡ map (λ m. read m.0) ins
bits_are [] read to a b few ea eb = refl
bits_are (m ∷ []) read to a b few ea eb = ap (λ n. read n ∷ []) ea
bits_are (m ∷ n ∷ []) read to a b few ea eb = ap (λ i. read i ∷ read b ∷ []) ea ∙ ap (λ i. read m.0 ∷ read i ∷ []) eb
bits_are (m ∷ n ∷ o ∷ rest) read to a b few ea eb = absurd (omega arith)

pub gate_means : (t : Table) (read : ℕ → Bool) (to : ℕ) (gate : Gate) → length t.ins ≤ 2
    → gate.a ≡ (get_or t.ins 0 (record { 0 = to })).0 → gate.b ≡ (get_or t.ins 1 (record { 0 = to })).0
    → ((p q : Bool) → op_value gate.op p q ≡ table_value t (take (length t.ins) (p ∷ q ∷ [])))
    → gate_value gate read ≡ table_value t (map (λ m. read m.0) t.ins)
gate_means t read to gate few ea eb means =
    means (read gate.a) (read gate.b) ∙ ap (table_value t) (bits_are t.ins read to gate.a gate.b few ea eb)

pub place_inside : (ins : List NetId) (i nets to : ℕ) → All (λ (m : NetId). m.0 < nets) ins → to < nets → (get_or ins i (record { 0 = to })).0 < nets
place_inside [] i nets to all lt = lt
place_inside (m ∷ ins) zero nets to all lt = all 0 m (omega arith)
place_inside (m ∷ ins) (suc i) nets to all lt = place_inside ins i nets to (λ j d within. all (suc j) d (omega arith)) lt
