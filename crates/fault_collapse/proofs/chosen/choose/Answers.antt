use Rattle.std.proofs.Common.{◌≡◌, ◌<◌, ◌≤◌, ◌+◌, ◌∙◌, ℕ, List, [], ◌∷◌, ◌++◌, length, set, ap, sym, subst, arith, length-append, length-set}
use Rattle.std.specs.Prelude.{filter, ◌==◌}
use Rattle.std.proofs.Common.{Global, Vec}
use Rattle.std.proofs.lemmas.Bool.{eq-eqb, eqb-true}
use Rattle.std.proofs.lemmas.Grind.{common_steps}
use Rattle.fm_base.specs.Lists.{below}
use Rattle.fm_base.proofs.Tests.{false_of}
use Rattle.collapse_map.specs.Collapsed.{Collapsed, is_own, rep_of}
use Rattle.fault_collapse.proofs.Choosing.{Places, chosen_no, chosen_yes, places_no, places_yes}
use Rattle.fault_collapse.proofs.chosen.choose.Goals as goal
use Rattle.fault_collapse.proofs.chosen.choose.Goals.{then-rep-i+in_ok-push, else-rep-i}

-- what is kept of the first n faults
record Kept (s : Collapsed) (chosen places : List ℕ) (n : ℕ) : Type 0 where
  few : length chosen ≤ n
  numbers : chosen ≡ filter (is_own s) (below n)
  sized : length places ≡ length s.faults
  each : Places s chosen places n

kept_yes : (s : Collapsed) (chosen places : List ℕ) (i : ℕ) → i < length s.faults → rep_of s i ≡ i → Kept s chosen places i → Kept s (chosen ++ i ∷ []) (set places i (length chosen)) (i + 1)
kept_yes s chosen places i lt own kept = record {
  few = omega (arith, length-append chosen (i ∷ []), kept.few);
  numbers = chosen_yes (is_own s) i chosen (eq-eqb (rep_of s i) i own) kept.numbers;
  sized = length-set places i (length chosen) ∙ kept.sized;
  each = places_yes s chosen places i (omega (arith, lt, kept.sized)) kept.each;
}

kept_no : (s : Collapsed) (chosen places : List ℕ) (i : ℕ) → (rep_of s i ≡ i → ⊥) → Kept s chosen places i → Kept s chosen places (i + 1)
kept_no s chosen places i other kept = record {
  few = omega (arith, kept.few);
  numbers = chosen_no (is_own s) i chosen (false_of (rep_of s i == i) (λ e. other (eqb-true (rep_of s i) i e))) kept.numbers;
  sized = kept.sized;
  each = places_no s chosen places i other kept.each;
}

pub loop-i-init : goal.loop-i-init
unfolding below
loop-i-init c = record {
  few = omega (arith, ap length c.in_ok-numbers.ensures.items);
  numbers = c.in_ok-numbers.ensures.items;
  sized = grind (arith, common_steps);
  each = λ k lt own. absurd (omega arith);
}

pub loop-i-preserved : goal.loop-i-preserved
loop-i-preserved c =
    let s : Collapsed = c.args.collapse.now in
    let i : ℕ = c.loop-i.i in
    let inv = c.loop-i.invariant in
    let before : Kept s c.loop-i.numbers.items c.loop-i.places.items i = record { few = inv.few; numbers = inv.numbers; sized = inv.sized; each = inv.each } in
    let lt : i < length s.faults = omega (arith, c.loop-i-test.true, c.requires) in
    let after : Kept s c.if-rep-i.numbers.items c.if-rep-i.places.items (i + 1) =
    elim c.if-rep-i.branch as (λ _. Kept s c.if-rep-i.numbers.items c.if-rep-i.places.items (i + 1)) [
      | then-rep-i+in_ok-push w ↦
          (let numbers : c.if-rep-i.numbers.items ≡ c.loop-i.numbers.items ++ i ∷ [] = ap (λ (v : Vec ℕ Global). v.items) w.numbers-is ∙ w.in_ok-push.ensures.items in
          let places : c.if-rep-i.places.items ≡ set c.loop-i.places.items i (length c.loop-i.numbers.items) = grind (arith, common_steps) in
          subst (λ (xs : List ℕ). Kept s xs c.if-rep-i.places.items (i + 1)) (sym numbers)
          (subst (λ (ps : List ℕ). Kept s (c.loop-i.numbers.items ++ i ∷ []) ps (i + 1)) (sym places)
          (kept_yes s c.loop-i.numbers.items c.loop-i.places.items i lt (sym c.rep.ensures.number ∙ w.if-rep-i.true) before)))
      | else-rep-i w ↦
          (let numbers : c.if-rep-i.numbers.items ≡ c.loop-i.numbers.items = ap (λ (v : Vec ℕ Global). v.items) w.numbers-is in
          let places : c.if-rep-i.places.items ≡ c.loop-i.places.items = ap (λ (v : Vec ℕ Global). v.items) w.places-is in
          subst (λ (xs : List ℕ). Kept s xs c.if-rep-i.places.items (i + 1)) (sym numbers)
          (subst (λ (ps : List ℕ). Kept s c.loop-i.numbers.items ps (i + 1)) (sym places)
          (kept_no s c.loop-i.numbers.items c.loop-i.places.items i (λ own. w.if-rep-i.false (c.rep.ensures.number ∙ own)) before)))
    ] in
    record { few = after.few; numbers = after.numbers; sized = after.sized; each = after.each }
