-- Latches that are flipped in one lane, and join those that may differ.
use Rattle.std.proofs.Common.{◌≡◌, ◌≢◌, inl, inr, ℕ, ◌<◌, ◌||◌, Bool, false, List, length, ap, sym, ◌∙◌, arith}
use Rattle.std.proofs.lemmas.Bool.{cases_eq, cases_lt, or_parts}
use Rattle.std.proofs.lemmas.List.{get_or_past}
use Rattle.circuit.specs.declared.parts.Fault.{Fault}
use Rattle.circuit.specs.Effects.{has_flip, inverted}
use Rattle.circuit.specs.Value.{bit_at}
use Rattle.lane_words.specs.Gates.{plane}
use Rattle.lane_words.proofs.Planes.{length_plane}
use Rattle.place_set.specs.Places.{Places, has}
use Rattle.differential_kernel.specs.Differences.{AreSameOff, Grows}
use Rattle.differential_kernel.proofs.Notes.{grows_none}

pub held_flipped : {W : Type 0} (lanes : ℕ) (bit : W → ℕ → Bool) (lane : ℕ) (faults : List Fault) (t : ℕ) (old new : Places) (raw next : List W)
    → length next ≡ length raw → old.bound ≡ length raw
    → Grows old new → ((l : ℕ) → l < old.bound → has new l ≡ (has_flip faults l t || has old l))
    → ((l : ℕ) → l < length raw → bit_at (plane bit lane next) l ≡ inverted (has_flip faults l t) (bit_at (plane bit lane raw) l))
    → ((k : ℕ) → k < lanes → k ≢ lane → plane bit k next ≡ plane bit k raw)
    → AreSameOff lanes bit old raw → AreSameOff lanes bit new next
held_flipped lanes bit lane faults t old new raw next size bound grows noted own others same n none k lt =
    elim (cases_lt n (length raw)) [
      | inr past ↦ get_or_past (plane bit k next) n false (omega (arith, past, size, length_plane bit k next))
      | inl within ↦ elim (cases_eq k lane) [
        | inl here ↦
            (let unflipped : has_flip faults n t ≡ false = (or_parts (has_flip faults n t) (has old n) (sym (noted n (omega (arith, within, bound))) ∙ none)).0 in
            ap (λ j. bit_at (plane bit j next) n) here ∙ own n within
            ∙ ap (λ b. inverted b (bit_at (plane bit lane raw) n)) unflipped
            ∙ ap (λ j. bit_at (plane bit j raw) n) (sym here) ∙ before)
        | inr other ↦ ap (λ bits. bit_at bits n) (others k lt other) ∙ before
      ]
    ]
  where
    before : bit_at (plane bit k raw) n ≡ false
    before = same n (grows_none old new n grows none) k lt
