-- The greatest of the cycles from which inputs are held.
use Rattle.std.proofs.Common.{◌≡◌, ℕ, zero, suc, ◌<◌, ◌≤◌, List, [], ◌∷◌, arith}
use Rattle.std.specs.Prelude.{fold, nat_le, if◌then◌else◌}
use Rattle.std.specs.List.{All}
use Rattle.std.proofs.lemmas.List.Elements.{All-head, All-tail}
use Rattle.coverage_claim.specs.declared.parts.Held.{Held}
use Rattle.held_inputs.specs.First.{later_of}

step_after : (first from : ℕ) → first ≤ (if nat_le first from then from else first)
step_after first from = grind arith

step_from : (first from : ℕ) → from ≤ (if nat_le first from then from else first)
step_from first from = grind arith

step_small : (first from most : ℕ) → first ≤ most → from ≤ most → (if nat_le first from then from else first) ≤ most
step_small first from most h k = grind arith

cons_all : (P : Held → Type 0) (h : Held) (held : List Held) → P h → All P held → All P (h ∷ held)
cons_all P h held own all zero d lt = own
cons_all P h held own all (suc i) d lt = all i d (omega (arith, lt))

pub is_after : (held : List Held) (start : ℕ) → (start ≤ fold later_of start held) × All (λ h. h.from ≤ fold later_of start held) held
is_after [] start = (omega arith, λ i d lt. absurd (omega (arith, lt)))
is_after (h ∷ held) start =
    let rest = is_after held (later_of start h) in (
      omega (arith, rest.0, step_after start h.from),
      cons_all (λ other. other.from ≤ fold later_of (later_of start h) held) h held (omega (arith, rest.0, step_from start h.from)) rest.1,
    )

pub is_small : (held : List Held) (start most : ℕ) → start ≤ most → All (λ h. h.from ≤ most) held → fold later_of start held ≤ most
is_small [] start most le all = le
is_small (h ∷ held) start most le all =
    is_small held (later_of start h) most (step_small start h.from most le (All-head (λ (other : Held). other.from ≤ most) h held all))
    (All-tail (λ (other : Held). other.from ≤ most) h held all)
