-- Nets that no table drives, beside the golden run.
use Rattle.std.proofs.Common.{◌≡◌, ℕ, ◌<◌, Bool, false, List, [], length, refl, ap, sym, subst, ◌∙◌}
use Rattle.std.proofs.lemmas.Option.{slice_get_within}
use Rattle.circuit.specs.declared.parts.Driver.{Driver}
use Rattle.circuit.specs.declared.parts.Driver.TheVariants.{Input, Table as FromTable, Latch as FromLatch}
use Rattle.circuit.specs.declared.parts.NetId.{NetId}
use Rattle.circuit.specs.Circuit.{Circuit}
use Rattle.circuit.specs.Effects.{affected}
use Rattle.circuit.specs.Order.{IsOrder}
use Rattle.circuit.specs.Sound.{IsNetOf, IsNetlist}
use Rattle.circuit.specs.Value.{Cycle, bit_at, driven, driver_at, net_value, table_gives}
use Rattle.lane_words.specs.Bits.{either}
use Rattle.golden_difference.specs.Beside.{latched}
use Rattle.golden_difference.proofs.Exclusive.{either_back, either_none}
use Rattle.circuit.proofs.ValuesAgain.{value_again}

-- the golden value of a net is what its driver gives
pub golden_again : (golden : Cycle) (order : List NetId) → IsNetlist golden.circuit → IsOrder golden.circuit order → golden.faults ≡ []
    → (n : ℕ) → n < length golden.circuit.drivers
    → net_value golden n ≡ driven golden.state golden.inputs (table_gives golden.circuit (net_value golden)) (driver_at golden.circuit n)
golden_again golden order sound ordered none n net =
    value_again golden order sound ordered n net
    ∙ ap (λ faults. affected faults golden.number n (driven golden.state golden.inputs (table_gives golden.circuit (net_value golden)) (driver_at golden.circuit n))) none

-- WHAT DRIVES A NET THAT NO TABLE DRIVES gives its golden value, but for what its latch differs in
pub source_gives : (x golden : Cycle) (order : List NetId) (held : ℕ → Bool) → IsNetlist x.circuit → IsOrder x.circuit order
    → golden.circuit ≡ x.circuit → golden.faults ≡ [] → golden.inputs ≡ x.inputs
    → ((l : ℕ) → l < length x.circuit.latches → held l ≡ either (bit_at x.state l) (bit_at golden.state l))
    → (n : ℕ) → n < length x.circuit.drivers → ((k : ℕ) → driver_at x.circuit n ≡ FromTable k → ⊥)
    → driven x.state x.inputs (λ k. false) (driver_at x.circuit n) ≡ either (net_value golden n) (latched held (driver_at x.circuit n))
source_gives x golden order held sound ordered circuit none inputs holds n net free =
    by_driver (driver_at x.circuit n) refl (sound.nets n net)
    ∙ ap (λ b. either b (latched held (driver_at x.circuit n))) (sym golden_is)
  where
    golden_is : net_value golden n ≡ driven golden.state golden.inputs (table_gives golden.circuit (net_value golden)) (driver_at x.circuit n)
    golden_is =
        golden_again golden order (subst IsNetlist (sym circuit) sound) (subst (λ (c : Circuit). IsOrder c order) (sym circuit) ordered) none n
        (subst (λ (c : Circuit). n < length c.drivers) (sym circuit) net)
        ∙ ap (λ (c : Circuit). driven golden.state golden.inputs (table_gives golden.circuit (net_value golden)) (driver_at c n)) circuit

    by_driver : (d : Driver) → driver_at x.circuit n ≡ d → IsNetOf x.circuit n d
        → driven x.state x.inputs (λ k. false) (driver_at x.circuit n)
        ≡ either (driven golden.state golden.inputs (table_gives golden.circuit (net_value golden)) (driver_at x.circuit n)) (latched held (driver_at x.circuit n))
    by_driver (Input k) e is =
        ap (driven x.state x.inputs (λ k. false)) e
        ∙ ap (λ (bits : List Bool). bit_at bits k) (sym inputs)
        ∙ sym (either_none (bit_at golden.inputs k))
        ∙ sym (ap (λ d. either (driven golden.state golden.inputs (table_gives golden.circuit (net_value golden)) d) (latched held d)) e)
    by_driver (FromTable k) e is = absurd (free k e)
    by_driver (FromLatch l) e is =
        ap (driven x.state x.inputs (λ k. false)) e
        ∙ sym (either_back (bit_at golden.state l) (bit_at x.state l))
        ∙ ap (either (bit_at golden.state l)) (sym (holds l (slice_get_within x.circuit.latches l is.0 is.1)))
        ∙ sym (ap (λ d. either (driven golden.state golden.inputs (table_gives golden.circuit (net_value golden)) d) (latched held d)) e)
