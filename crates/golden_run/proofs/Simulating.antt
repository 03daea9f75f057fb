-- Where sources have their values and all tables are settled, the row is the golden one.
use Rattle.std.proofs.Common.{◌≡◌, ℕ, zero, suc, ◌+◌, ◌<◌, ◌≤◌, Bool, false, List, [], length, map, take, get_or, refl, add-one, ap, sym, subst, ◌∙◌, arith}
use Rattle.std.proofs.lemmas.List.{take_all}
use Rattle.circuit.specs.declared.parts.Latch.{Latch}
use Rattle.circuit.specs.declared.parts.NetId.{NetId}
use Rattle.circuit.specs.Order.{IsOrder}
use Rattle.circuit.specs.Sound.{IsNetlist}
use Rattle.circuit.specs.Trace.{cycle_at, raw_state, vector_at}
use Rattle.circuit.specs.Value.{Cycle, cycle_of, driven, driver_at, net_value}
use Rattle.circuit.proofs.Steps.{raw_state-suc}
use Rattle.circuit.proofs.Walks.{map_same}
use Rattle.fanout.specs.Readers.{Ordered}
use Rattle.golden_difference.specs.Beside.{IsGoldenRow}
use Rattle.golden_difference.proofs.Walked.{Walked, walked_all, walked_more, walked_none}
use Rattle.lane_words.proofs.Armed.{flipped_same}
use Rattle.place_set.specs.Places.{value_in}
use Rattle.golden_run.specs.Events.{IsSettled, IsSource}

module _ (o : Ordered) (sound : IsNetlist o.circuit) (ordered : IsOrder o.circuit o.order) (vectors : List (List Bool)) (t : ℕ) (raw inputs : List Bool) (row : List ℕ)
    (holds : raw ≡ raw_state o.circuit [] vectors t) (given : inputs ≡ vector_at vectors t)
    (sources : (n : ℕ) → n < length o.circuit.drivers → IsSource o.circuit n → value_in row n ≡ driven raw inputs (λ k. false) (driver_at o.circuit n))
    (settled : (q : ℕ) → q < length o.order → IsSettled o row q) where
  abbrev now : Cycle
  now = cycle_of o.circuit [] t raw inputs

  -- the tables up to a place
  walked : (j : ℕ) → j ≤ length o.order → Walked now (value_in row) (take j o.order) j
  walked zero le = walked_none now (value_in row) (λ m net none. sources m.0 net none)
  walked (suc j) le =
      let lt : j < length o.order = omega (arith, le) in
      subst (λ i. Walked now (value_in row) (take i o.order) i) (add-one j)
      (walked_more now (value_in row) (value_in row) o.order j sound ordered lt (λ m within other. refl) (sym (settled j lt raw inputs)) (walked j (omega (arith, le))))

  has_value : (n : ℕ) → n < length o.circuit.drivers → value_in row n ≡ net_value now n
  has_value n lt =
      walked_all now (value_in row) o.order ordered
      (subst (λ (nets : List NetId). Walked now (value_in row) nets (length o.order)) (take_all (length o.order) o.order (omega arith)) (walked (length o.order) (omega arith))) n lt

  -- the cycle is that of the trace
  same_cycle : now ≡ cycle_at o.circuit [] vectors t
  same_cycle =
      ap (λ (bits : List Bool). cycle_of o.circuit [] t bits inputs) (holds ∙ sym (flipped_same [] t 0 (raw_state o.circuit [] vectors t) (λ l. refl)))
      ∙ ap (λ (bits : List Bool). cycle_of o.circuit [] t (cycle_at o.circuit [] vectors t).state bits) given

  -- THE ROW IS THE GOLDEN ONE
  pub golden_row : IsGoldenRow o.circuit vectors t row
  golden_row n lt = has_value n lt ∙ ap (λ (x : Cycle). net_value x n) same_cycle

  -- and what the latches take is what they have in the next cycle
  pub next_raw : (next : List Bool) → next ≡ map (λ (latch : Latch). value_in row latch.from.0) o.circuit.latches → next ≡ raw_state o.circuit [] vectors (t + 1)
  next_raw next is =
      is
      ∙ map_same (λ (latch : Latch). value_in row latch.from.0) (λ (latch : Latch). net_value (cycle_at o.circuit [] vectors t) latch.from.0) o.circuit.latches
      (λ l d within. golden_row (get_or o.circuit.latches l d).from.0 (sound.sources l d within))
      ∙ sym (raw_state-suc o.circuit [] vectors t) ∙ ap (raw_state o.circuit [] vectors) (sym (add-one t))
