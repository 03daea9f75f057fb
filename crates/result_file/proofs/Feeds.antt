-- Settings, as they are fed to a hasher.
use Rattle.std.proofs.Common.{◌≡◌, ℕ, ◌<◌, List, [], ◌∷◌, ◌++◌, length, refl, ap, ap₂, sym, ◌∙◌, arith, append_assoc, append-nil}
use Rattle.std.specs.Prelude.{codes, decimal}
use Rattle.fault_list.specs.declared.stretch.Stretch.{Stretch}
use Rattle.fm_base.specs.Text.{spaced}
use Rattle.result_file.specs.ResultText.{cycles_text, listed_words, stretch_text, stretch_words}
use Rattle.result_file.specs.Feeding.{cycles_fed}

-- what is fed of cycles is their text
pub fed : (cycles : List ℕ) → cycles_fed cycles ≡ cycles_text cycles
fed [] = refl
fed (cycle ∷ []) = append-nil (decimal cycle)
fed (cycle ∷ next ∷ cycles) = ap (λ text. decimal cycle ++ (44 ∷ text)) (fed (next ∷ cycles))

second_form : (ftti flips pulses : List ℕ) → spaced (codes "fmeda-settings" ∷ codes "2" ∷ ftti ∷ flips ∷ pulses ∷ [])
    ≡ (codes "fmeda-settings 2 " ++ (ftti ++ (32 ∷ [] ++ flips))) ++ (32 ∷ [] ++ pulses)
second_form ftti flips pulses = simp append_assoc refl

-- the words of settings without pulses
pub words_first : (ftti : ℕ) (flips pulses : List ℕ) → length pulses ≡ 0
    → codes "fmeda-settings 1 " ++ (decimal ftti ++ (32 ∷ [] ++ cycles_fed flips)) ≡ spaced (listed_words ftti flips pulses)
words_first ftti flips [] none = ap (λ text. codes "fmeda-settings 1 " ++ (decimal ftti ++ (32 ∷ text))) (fed flips)
words_first ftti flips (cycle ∷ cycles) none = absurd (omega arith)

-- the words of settings with pulses
pub words_second : (ftti : ℕ) (flips pulses : List ℕ) → 0 < length pulses
    → (codes "fmeda-settings 2 " ++ (decimal ftti ++ (32 ∷ [] ++ cycles_fed flips))) ++ (32 ∷ [] ++ cycles_fed pulses)
    ≡ spaced (listed_words ftti flips pulses)
words_second ftti flips [] some = absurd (omega arith)
words_second ftti flips (cycle ∷ cycles) some =
    ap₂ (λ f p. (codes "fmeda-settings 2 " ++ (decimal ftti ++ (32 ∷ f))) ++ (32 ∷ p)) (fed flips) (fed (cycle ∷ cycles))
    ∙ sym (second_form (decimal ftti) (cycles_text flips) (cycles_text (cycle ∷ cycles)))

five_pieces : (m first last step : List ℕ) → ((((m ++ first) ++ 45 ∷ []) ++ last) ++ 47 ∷ []) ++ step ≡ m ++ ((first ++ 45 ∷ last) ++ 47 ∷ step)
five_pieces m first last step = simp append_assoc refl

-- what is fed of a stretch
pub stretch_fed : (m : List ℕ) (s : Stretch)
    → ((((m ++ decimal s.first) ++ 45 ∷ []) ++ decimal s.last) ++ 47 ∷ []) ++ decimal s.step ≡ m ++ stretch_text s
stretch_fed m s = five_pieces m (decimal s.first) (decimal s.last) (decimal s.step)

third_form : (m ftti stretch pulses : List ℕ) → (((((m ++ codes "fmeda-settings 3 ") ++ ftti) ++ 32 ∷ []) ++ stretch) ++ 32 ∷ []) ++ pulses
    ≡ m ++ spaced (codes "fmeda-settings" ∷ codes "3" ∷ ftti ∷ stretch ∷ pulses ∷ [])
third_form m ftti stretch pulses = simp append_assoc refl

-- and of the words of settings with one
pub stretch_words_fed : (m : List ℕ) (ftti : ℕ) (s : Stretch) (pulses : List ℕ)
    → (((((m ++ codes "fmeda-settings 3 ") ++ decimal ftti) ++ 32 ∷ []) ++ stretch_text s) ++ 32 ∷ []) ++ cycles_fed pulses
    ≡ m ++ spaced (stretch_words ftti s pulses)
stretch_words_fed m ftti s pulses =
    ap (λ text. (((((m ++ codes "fmeda-settings 3 ") ++ decimal ftti) ++ 32 ∷ []) ++ stretch_text s) ++ 32 ∷ []) ++ text) (fed pulses)
    ∙ third_form m (decimal ftti) (stretch_text s) (cycles_text pulses)

-- three pieces behind what was fed before
pub behind : (m a b c : List ℕ) → ((m ++ a) ++ b) ++ c ≡ m ++ (a ++ (b ++ c))
behind m a b c = simp append_assoc refl
