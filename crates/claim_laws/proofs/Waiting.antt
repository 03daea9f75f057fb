-- Before the cycle of a flip or a pulse nothing differs.
use Rattle.std.proofs.Common.{◌≡◌, ℕ, ◌<◌, Bool, false, ◌&&◌, List, [], ◌∷◌, length, refl, ap, sym, ◌∙◌, arith}
use Rattle.std.specs.Prelude.{◌==◌}
use Rattle.std.specs.List.{All}
use Rattle.std.proofs.Math.Bool.{and-false}
use Rattle.std.proofs.lemmas.Bool.{ne_eqb}
use Rattle.std.proofs.lemmas.List.Elements.{All-head, All-tail}
use Rattle.std.proofs.lemmas.List.Folds.{list_any_none}
use Rattle.circuit.specs.declared.parts.Fault.{Fault}
use Rattle.circuit.specs.declared.parts.Fault.TheVariants.{Flip, Pulse, Stuck}
use Rattle.circuit.specs.Circuit.{Circuit}
use Rattle.circuit.specs.Effects.{forced, inverted, is_flip_of, is_pulse_on}
use Rattle.circuit.specs.Sound.{IsNetlist}
use Rattle.circuit.specs.Trace.{trace}
use Rattle.circuit.specs.Value.{bit_at}
use Rattle.circuit.proofs.Steps.{raw_state-zero}
use Rattle.golden_difference.specs.Beside.{DoNothing}
use Rattle.golden_difference.proofs.Exclusive.{none_of_same, same_of_none}
use Rattle.golden_difference.proofs.Over.{is_over_after}
use Rattle.lane_words.proofs.Armed.{flipped_same}
use Rattle.claim_laws.specs.Faults.{WaitsUntil}

not_flip : (from l u : ℕ) (fault : Fault) → WaitsUntil from fault → u < from → is_flip_of l u fault ≡ false
not_flip from l u (Stuck n value) waits lt = refl
not_flip from l u (Flip m cycle) waits lt = ap (λ b. (m == l) && b) (ne_eqb cycle u (omega (arith, waits, lt))) ∙ and-false (m == l)
not_flip from l u (Pulse n cycle) waits lt = refl

not_pulse : (from n u : ℕ) (fault : Fault) → WaitsUntil from fault → u < from → is_pulse_on n u fault ≡ false
not_pulse from n u (Stuck m value) waits lt = refl
not_pulse from n u (Flip m cycle) waits lt = refl
not_pulse from n u (Pulse m cycle) waits lt = ap (λ b. (m.0 == n) && b) (ne_eqb cycle u (omega (arith, waits, lt))) ∙ and-false (m.0 == n)

not_forced : (from n : ℕ) (faults : List Fault) → All (WaitsUntil from) faults → (own : Bool) → forced faults n own ≡ own
not_forced from n [] all own = refl
not_forced from n (Stuck m value ∷ faults) all own = absurd (All-head (WaitsUntil from) (Stuck m value) faults all)
not_forced from n (Flip m cycle ∷ faults) all own = not_forced from n faults (All-tail (WaitsUntil from) (Flip m cycle) faults all) own
not_forced from n (Pulse m cycle ∷ faults) all own = not_forced from n faults (All-tail (WaitsUntil from) (Pulse m cycle) faults all) own

pub idle : (from : ℕ) (faults : List Fault) → All (WaitsUntil from) faults → (u : ℕ) → u < from → DoNothing faults u
idle from faults all u lt = record {
  nets = λ net own.
      ap (λ b. forced faults net (inverted b own)) (list_any_none (is_pulse_on net u) faults (λ i d within. not_pulse from net u _ (all i d within) lt))
      ∙ not_forced from net faults all own;
  latches = λ bits. flipped_same faults u 0 bits (λ l. list_any_none (is_flip_of l u) faults (λ i d within. not_flip from l u _ (all i d within) lt));
}

pub same_before : (c : Circuit) → IsNetlist c → (from : ℕ) (faults : List Fault) → All (WaitsUntil from) faults → (vectors : List (List Bool)) (u net : ℕ) → u < from
    → net < length c.drivers → trace c faults vectors u net ≡ trace c [] vectors u net
same_before c sound from faults all vectors u net lt within =
    same_of_none _ _ (is_over_after c faults [] from
    (λ l less. none_of_same _ _ (ap (λ (bits : List Bool). bit_at bits l) (raw_state-zero c faults [] ∙ sym (raw_state-zero c [] []))))
    (λ v after less. idle from faults all v less) vectors u net (omega arith) lt within)
