-- One gate more, in one lane.
use Rattle.std.proofs.Common.{◌≡◌, ℕ, ◌+◌, ◌<◌, Bool, List, length, take, set, ap, sym, ◌∙◌, subst, arith}
use Rattle.std.proofs.lemmas.List.{map-set}
use Rattle.circuit.specs.declared.parts.NetId.{NetId}
use Rattle.circuit.specs.Effects.{affected}
use Rattle.circuit.specs.Value.{Cycle, bit_at, driven, driver_at, table_gives}
use Rattle.circuit.specs.Order.{net_at}
use Rattle.circuit.proofs.Walks.{Holds, holds_step}
use Rattle.lane_words.specs.declared.gate.Gate.{Gate}
use Rattle.lane_words.specs.Gates.{IsProgram, gate_at, plane}

-- where a gate's net gets the value that the lane's faults leave of what its table gives, one more place of the order holds
pub gate_step : {W : Type 0} (bit : W → ℕ → Bool) (k : ℕ) (x : Cycle) (words : List W) (order : List NetId) (gates : List Gate) (j : ℕ) (own : Bool) (v : W)
    → IsProgram x.circuit order gates → j < length gates
    → own ≡ driven x.state x.inputs (table_gives x.circuit (bit_at (plane bit k words))) (driver_at x.circuit (gate_at gates j).to)
    → bit v k ≡ affected x.faults x.number (gate_at gates j).to own
    → Holds x (plane bit k words) (take j order) j
    → Holds x (plane bit k (set words (gate_at gates j).to v)) (take (j + 1) order) (j + 1)
gate_step bit k x words order gates j own v program lt own_is v_is holds =
    subst (λ vs. Holds x vs (take (j + 1) order) (j + 1)) (sym e)
    (holds_step x (plane bit k words) order j own program.sound program.ordered (let count = program.count in omega (arith, count))
    (subst (λ n. own ≡ driven x.state x.inputs (table_gives x.circuit (bit_at (plane bit k words))) (driver_at x.circuit n)) to own_is)
    holds)
  where
    to : (gate_at gates j).to ≡ (net_at order j).0
    to = program.nets j lt

    e : plane bit k (set words (gate_at gates j).to v) ≡ set (plane bit k words) (net_at order j).0 (affected x.faults x.number (net_at order j).0 own)
    e =
        map-set (λ w. bit w k) words (gate_at gates j).to v ∙ ap (λ n. set (plane bit k words) n (bit v k)) to
        ∙ ap (λ b. set (plane bit k words) (net_at order j).0 b) (v_is ∙ ap (λ n. affected x.faults x.number n own) to)
