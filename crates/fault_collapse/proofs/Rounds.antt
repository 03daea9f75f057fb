-- The planes of a round's groups, put to their places.
use Rattle.std.proofs.Common.{◌≡◌, ◌⊎◌, inl, inr, ℕ, ◌+◌, ◌-◌, ◌*◌, ◌<◌, ◌≤◌, List, ◌++◌, length, take, ap, sym, subst, ◌∙◌, arith, length-take}
use Rattle.std.specs.Int.{div_ceil}
use Rattle.std.proofs.Math.Nat.{mul_assoc, mul_comm}
use Rattle.std.proofs.lemmas.Bool.{cases_lt}
use Rattle.std.proofs.lemmas.Grind.{div_ceil_times}
use Rattle.std.proofs.lemmas.List.{get_or_append_left, get_or-append_right, get_or-take}
use Rattle.campaign_plan.specs.declared.Outcome.{Outcome}
use Rattle.classifier.specs.Planes.{outcome_at}

-- what holds of each group before this round's, and of each of this round's, holds of each so far
pub groups_more : (P : ℕ → Outcome → Type 0) (found own rest : List Outcome) (first words : ℕ) → first + words ≤ length found → length own ≡ words
    → ((group : ℕ) → group < first → P group (outcome_at found group))
    → ((word : ℕ) → word < words → P (first + word) (outcome_at own word))
    → (group : ℕ) → group < first + words → P group (outcome_at (take first found ++ (own ++ rest)) group)
groups_more P found own rest first words room size early now group lt = by_cases (cases_lt group first)
  where
    none : Outcome
    none = record { danger = 0; noticed = 0 }

    front : length (take first found) ≡ first
    front = omega (arith, length-take first found, room)

    by_cases : (group < first) ⊎ (first ≤ group) → P group (outcome_at (take first found ++ (own ++ rest)) group)
    by_cases (inl before) =
        subst (P group) (sym (get_or_append_left (take first found) (own ++ rest) none group (omega (arith, front, before)) ∙ get_or-take first found group none before))
        (early group before)
    by_cases (inr past) =
        let word : ℕ = group - first in
        let within : word < words = omega (arith, past, lt) in
        let whole : first + word ≡ group = omega (arith, past) in
        subst (P group)
        (sym (get_or-append_right (take first found) (own ++ rest) first group none front past ∙ get_or_append_left own rest none word (omega (arith, within, size))))
        (subst (λ g. P g (outcome_at own word)) whole (now word within))

-- so many rounds hold so many faults, 64 in each word, and no more words than that asks for
pub rounds_hold : (n words : ℕ) → 0 < words → (n ≤ 64 * (div_ceil n (64 * words) * words)) × (64 * (div_ceil n (64 * words) * words) < n + 64 * words)
rounds_hold n words some = (omega (arith, turned, both.0), omega (arith, turned, both.1))
  where
    rounds : ℕ
    rounds = div_ceil n (64 * words)

    pos : 0 < 64 * words
    pos = omega (arith, some)

    both : (n ≤ rounds * (64 * words)) × (rounds * (64 * words) < n + 64 * words)
    both = div_ceil_times n (64 * words) pos

    turned : rounds * (64 * words) ≡ 64 * (rounds * words)
    turned = sym (mul_assoc rounds 64 words) ∙ ap (λ m. m * words) (mul_comm rounds 64) ∙ mul_assoc 64 rounds words
