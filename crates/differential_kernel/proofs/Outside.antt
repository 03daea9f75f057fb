-- Places outside of a cone, in one lane.
use Rattle.std.proofs.Common.{◌≡◌, inl, inr, ℕ, zero, suc, ◌+◌, ◌<◌, ◌≤◌, Bool, false, List, length, take, ap, sym, subst, ◌∙◌, arith}
use Rattle.std.proofs.lemmas.Bool.{cases_eq}
use Rattle.circuit.specs.declared.parts.NetId.{NetId}
use Rattle.circuit.specs.Circuit.{Circuit}
use Rattle.circuit.specs.Order.{IsOrder, net_at}
use Rattle.circuit.specs.Sound.{IsNetlist}
use Rattle.circuit.specs.Value.{Cycle}
use Rattle.fanout.specs.Readers.{Ordered}
use Rattle.golden_difference.proofs.Exclusive.{either_same}
use Rattle.golden_difference.proofs.Walked.{Walked}
use Rattle.lane_words.specs.Bits.{either}
use Rattle.lane_words.specs.declared.force.Force.{Force}
use Rattle.lane_words.specs.Forces.{AreForces, IsIdleAt}
use Rattle.place_set.specs.Places.{Places, has, value_in}
use Rattle.differential_kernel.specs.Cone.{IsClosed}
use Rattle.differential_kernel.specs.Walk.{IsPair}
use Rattle.differential_kernel.proofs.Cones.{table_out}
use Rattle.differential_kernel.proofs.Walking.{quiet_by}

module _ {W : Type 0} (lanes : ℕ) (bit : W → ℕ → Bool) (k : ℕ) (lt_k : k < lanes) (c : Circuit) (order : List NetId) (sound : IsNetlist c) (ordered : IsOrder c order)
    (row : List ℕ) (forces : List (Force W)) (size : length forces ≡ length c.drivers)
    (x golden : Cycle) (pair : IsPair c row x golden) (are : AreForces bit k forces x) where
  abbrev ordered_of : Ordered
  ordered_of = record { circuit = c; order = order }

  -- one whose net isn't in a cone, where nothing outside of it differs or is forced
  quiet_out : (differs : ℕ → Bool) (nets : Places) (j : ℕ) → j < length order → IsClosed ordered_of nets → ((n : ℕ) → has nets n ≡ false → differs n ≡ false)
      → ((n : ℕ) → n < length forces → has nets n ≡ false → IsIdleAt lanes bit forces n) → has nets (net_at order j).0 ≡ false
      → Walked x (λ n. either (value_in row n) (differs n)) (take j order) j → Walked x (λ n. either (value_in row n) (differs n)) (take (j + 1) order) (j + 1)
  quiet_out differs nets j lt closed same idle none =
      let inside : (net_at order j).0 < length forces = omega (arith, ordered.nets j (record { 0 = 0 }) lt, size) in
      quiet_by lanes bit k lt_k c order sound ordered row forces size x golden pair are differs j lt (λ m reads. same m (table_out ordered_of nets closed j m lt none reads))
      (λ d.
      same (net_at order j).0 none
      ∙ sym
      (ap (λ b. either b (value_in row (net_at order j).0)) (idle (net_at order j).0 inside none k d (value_in row (net_at order j).0) lt_k)
      ∙ either_same (value_in row (net_at order j).0)))

  -- such places, one after the other
  pub quiet_outs : (differs : ℕ → Bool) (nets : Places) (from to : ℕ) → from ≤ to → to ≤ length order → IsClosed ordered_of nets → ((n : ℕ) → has nets n ≡ false → differs n ≡ false)
      → ((n : ℕ) → n < length forces → has nets n ≡ false → IsIdleAt lanes bit forces n)
      → ((q : ℕ) → from ≤ q → q < to → has nets (net_at order q).0 ≡ false)
      → Walked x (λ n. either (value_in row n) (differs n)) (take from order) from → Walked x (λ n. either (value_in row n) (differs n)) (take to order) to
  quiet_outs differs nets from zero le most closed same idle none walked =
      let same_place : from ≡ 0 = omega arith in
      subst (λ j. Walked x (λ n. either (value_in row n) (differs n)) (take j order) j) same_place walked
  quiet_outs differs nets from (suc to) le most closed same idle none walked =
      elim (cases_eq from (suc to)) [
        | inl here ↦ subst (λ j. Walked x (λ n. either (value_in row n) (differs n)) (take j order) j) here walked
        | inr other ↦
            (let next : to + 1 ≡ suc to = omega arith in
            subst (λ j. Walked x (λ n. either (value_in row n) (differs n)) (take j order) j) next
            (quiet_out differs nets to (omega arith) closed same idle (none to (omega (arith, le, other)) (omega arith))
            (quiet_outs differs nets from to (omega (arith, le, other)) (omega arith) closed same idle (λ q low less. none q low (omega arith)) walked)))
      ]
