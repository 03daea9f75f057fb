-- Lanes that are given their faults one after the other.
use Rattle.std.proofs.Common.{◌≡◌, ◌≢◌, ◌<◌, ◌+◌, ℕ, List, [], ◌∷◌, length, get_or, set, refl, ap, ◌∙◌, arith, below_more, get_or-set_other, get_or-set_same}
use Rattle.std.specs.Prelude.{Option, Some, None}
use Rattle.circuit.specs.declared.parts.Fault.{Fault}
use Rattle.lane_words.specs.Loads.{loaded_faults, somes}

-- one fault, or none
pub alone : (fault : Option Fault) → somes (fault ∷ None ∷ []) ≡ somes (fault ∷ [])
alone (Some fault) = refl
alone None = refl

-- where the lanes before it have the faults that are due to them, and this one is given its own, one lane more has them
pub one_more : (loads : List (List (Option Fault))) (lane : ℕ) (own : List (Option Fault)) (due : ℕ → List Fault) → lane < length loads
    → ((k : ℕ) → k < lane → loaded_faults loads k ≡ due k) → somes own ≡ due lane → (k : ℕ) → k < lane + 1 → loaded_faults (set loads lane own) k ≡ due k
one_more loads lane own due within held is =
    below_more (λ k. loaded_faults (set loads lane own) k ≡ due k) lane
    (λ k before. let other : k ≢ lane = omega (arith, before) in ap somes (get_or-set_other loads lane k own [] other) ∙ held k before)
    (ap somes (get_or-set_same loads lane own [] within) ∙ is)

-- the same of words of lanes
pub one_word_more : (lists : List (List (List (Option Fault)))) (word : ℕ) (own : List (List (Option Fault))) (due : ℕ → ℕ → List Fault) → word < length lists
    → ((w k : ℕ) → w < word → k < 64 → loaded_faults (get_or lists w []) k ≡ due w k) → ((k : ℕ) → k < 64 → loaded_faults own k ≡ due word k)
    → (w k : ℕ) → w < word + 1 → k < 64 → loaded_faults (get_or (set lists word own) w []) k ≡ due w k
one_word_more lists word own due within held is = λ w k before lane.
    below_more (λ w. loaded_faults (get_or (set lists word own) w []) k ≡ due w k) word
    (λ w before. let other : w ≢ word = omega (arith, before) in
    ap (λ (loads : List (List (Option Fault))). loaded_faults loads k) (get_or-set_other lists word w own [] other) ∙ held w k before lane)
    (ap (λ (loads : List (List (Option Fault))). loaded_faults loads k) (get_or-set_same lists word own [] within) ∙ is k lane) w before
