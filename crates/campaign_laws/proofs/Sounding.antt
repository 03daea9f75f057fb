-- The walk of the generated netlist has no fault.
use Rattle.std.proofs.Common.{◌≡◌, ◌≢◌, ℕ, zero, suc, ◌+◌, ◌-◌, ◌<◌, ◌≤◌, ◌^◌, Bool, true, false, ◌⊎◌, inl, inr, List, [], ◌∷◌, ◌++◌, length, map, refl, ap, ap₂, sym, subst, ◌∙◌, arith}
use Rattle.std.specs.Prelude.{◌==◌, Option, None, codes, decimal, flat_map, not, ◌&&◌, ◌||◌, bytes_eq, nat_lt, if◌then◌else◌}
use Rattle.std.specs.List.{list_any, range_with_len}
use Rattle.std.specs.Option.{option_or, option_to_list}
use Rattle.std.proofs.lemmas.Fmt.{decimal_injective}
use Rattle.std.proofs.lemmas.List.{map-append}
use Rattle.std.proofs.lemmas.List.Concat.{flat_map-append}
use Rattle.net_names.proofs.Times.{one_of_both}
use Rattle.fm_base.specs.Firsts.{first_after, first_answer, first_where, given}
use Rattle.fm_base.specs.Lists.{below, firsts}
use Rattle.fm_base.specs.Names.{Bytes, Name, distinct, is_one_of}
use Rattle.fm_base.proofs.Distinct.{bytes_eq-sym, is_same, same_name}
use Rattle.fm_base.proofs.Tests.{false_of, or_false, or_second}
use Rattle.blif_text.specs.declared.NetlistFault.{NetlistFault}
use Rattle.blif_text.specs.declared.NetlistKind.TheVariants.{TwoClocks, BadClock, ClockRead, TwoDrivers, Undriven}
use Rattle.blif_model.specs.LineFault.{at_line}
use Rattle.blif_model.specs.Walk.{Act, Step, Visit, clock_names, clocks, drives_of, flat_latch, flat_table, gives, visits_of}
use Rattle.blif_model.specs.WalkFault.{bad_clock, clock_read, has_visit, two_clocks, two_drivers, undriven, walk_faults}
use Rattle.blif_model.proofs.Drivers.{visit-found}
use Rattle.campaign_laws.proofs.Stating.{source, word}
use Rattle.campaign_laws.proofs.Stepping.Simple.{Copy, Pair, Port, Ports, Rows, Store}
use Rattle.campaign_laws.proofs.Stepping.{Simple, both_lines, driven_by, driven_names, drives_are, end_lines, lines, name_of, no_clocks, port_lines, steps_of, the_steps, visited_by, visited_names, visits_are}

-- ---- no clocks

abbrev types_of : Act → List Name
types_of act = elim act [ flat_latch l ↦ option_to_list l.edge | _ ↦ [] ]

abbrev clocks_of : Act → List Name
clocks_of act = elim act [ clocks names ↦ names | flat_latch l ↦ option_to_list l.control | _ ↦ [] ]

AreQuiet : List Step → Type 0
AreQuiet [] = Unit {0}
AreQuiet (s ∷ steps) = (types_of s.act ≡ []) × (clocks_of s.act ≡ []) × AreQuiet steps

quiet_both : (xs ys : List Step) → AreQuiet xs → AreQuiet ys → AreQuiet (xs ++ ys)
unfolding AreQuiet
quiet_both [] ys first second = second
quiet_both (x ∷ xs) ys first second = (first.0, first.1, quiet_both xs ys first.2 second)

quiet_steps : (k : ℕ) (ls : List Simple) → AreQuiet (steps_of k ls)
unfolding AreQuiet steps_of
quiet_steps k [] = tt
quiet_steps k (Port name ∷ ls) = (refl, refl, quiet_steps (k + 1) ls)
quiet_steps k (Ports first second ∷ ls) = (refl, refl, quiet_steps (k + 1) ls)
quiet_steps k (Copy read out ∷ ls) = (refl, refl, quiet_steps (k + 1) ls)
quiet_steps k (Pair one other out ∷ ls) = (refl, refl, quiet_steps (k + 1) ls)
quiet_steps k (Rows tokens ∷ ls) = quiet_steps (k + 1) ls
quiet_steps k (Store from to ∷ ls) = (refl, refl, quiet_steps (k + 1) ls)

no_types : (steps : List Step) → AreQuiet steps → flat_map (λ (s : Step). types_of s.act) steps ≡ []
unfolding AreQuiet
no_types [] quiet = refl
no_types (s ∷ steps) quiet = ap₂ (λ (xs ys : List Name). xs ++ ys) quiet.0 (no_types steps quiet.2)

no_clock_names : (steps : List Step) → AreQuiet steps → clock_names steps ≡ []
unfolding AreQuiet clock_names
no_clock_names [] quiet = refl
no_clock_names (s ∷ steps) quiet = ap₂ (λ (xs ys : List Name). xs ++ ys) quiet.1 (no_clock_names steps quiet.2)

abbrev is_mixed : List Step → Bool
is_mixed lines = nat_lt 1 (length (distinct (flat_map (λ (s : Step). types_of s.act) lines))) || nat_lt 1 (length (distinct (clock_names lines)))

not_mixed : (steps : List Step) → AreQuiet steps → is_mixed steps ≡ false
unfolding firsts
not_mixed steps quiet =
    ap₂ (λ (types clock : List Name). nat_lt 1 (length (distinct types)) || nat_lt 1 (length (distinct clock))) (no_types steps quiet) (no_clock_names steps quiet)
    ∙ none
  where
    none : (nat_lt 1 (length (distinct [])) || nat_lt 1 (length (distinct []))) ≡ false
    none = refl

one_clock : (before steps : List Step) → AreQuiet before → AreQuiet steps
    → first_after (λ (before : List Step) (s : Step). given (is_mixed (before ++ s ∷ [])) (at_line s.line TwoClocks)) before steps ≡ None
unfolding AreQuiet first_after
one_clock before [] quiet_before quiet = refl
one_clock before (s ∷ steps) quiet_before quiet =
    let more : AreQuiet (before ++ s ∷ []) = quiet_both before (s ∷ []) quiet_before (quiet.0, quiet.1, tt) in
    ap (λ (b : Bool). option_or (given b (at_line s.line TwoClocks)) (first_after (λ (before : List Step) (s : Step). given (is_mixed (before ++ s ∷ [])) (at_line s.line TwoClocks)) (before ++ s ∷ []) steps))
    (not_mixed (before ++ s ∷ []) more)
    ∙ one_clock (before ++ s ∷ []) steps more quiet.2

none_among : (names : List Name) → list_any (is_one_of []) names ≡ false
none_among [] = refl
none_among (name ∷ names) = none_among names

-- the first place where a test passes, which passes nowhere
AllFail : {X : Type 0} → (X → Bool) → List X → Type 0
AllFail test [] = Unit {0}
AllFail test (x ∷ xs) = (test x ≡ false) × AllFail test xs

fail_where : {X : Type 0} (test : X → Bool) (fault : X → NetlistFault) (xs : List X) → AllFail test xs → first_where (λ x. given (test x) (fault x)) xs ≡ None
unfolding AllFail first_where
fail_where test fault [] all = refl
fail_where test fault (x ∷ xs) all = rw all.0 (fail_where test fault xs all.1)

-- ---- names that differ

differ : (i j : ℕ) → i < 2 ^ 64 → j < 2 ^ 64 → i ≢ j → bytes_eq (decimal i) (decimal j) ≡ false
differ i j small_i small_j ne = false_of (bytes_eq (decimal i) (decimal j)) (λ e. ne (decimal_injective i j small_i small_j (same_name (decimal i) (decimal j) e)))

-- each name stands once
Apart : List Name → Type 0
Apart [] = Unit {0}
Apart (x ∷ xs) = (is_one_of xs x ≡ false) × Apart xs

Fresh : List Name → List Name → Type 0
Fresh before [] = Unit {0}
Fresh before (x ∷ xs) = (is_one_of before x ≡ false) × Fresh before xs

fresh_more : (before xs : List Name) (x : Name) → Fresh before xs → is_one_of xs x ≡ false → Fresh (before ++ x ∷ []) xs
unfolding Fresh
fresh_more before [] x fresh absent = tt
fresh_more before (y ∷ xs) x fresh absent =
    let parts = or_false (bytes_eq x y) (is_one_of xs x) absent in
    (one_of_both before (x ∷ []) y ∙ rw (fresh.0, bytes_eq-sym y x ∙ parts.0) refl, fresh_more before xs x fresh.1 parts.1)

no_second : (before ds : List Visit) → Fresh (map name_of before) (map name_of ds) → Apart (map name_of ds)
    → first_after (λ (before : List Visit) (d : Visit). given (has_visit before d.name || is_one_of [] d.name) (at_line d.line TwoDrivers)) before ds ≡ None
unfolding Fresh Apart first_after
no_second before [] fresh apart = refl
no_second before (d ∷ ds) fresh apart =
    let here : (has_visit before d.name || false) ≡ false = rw (visit-found before d.name, fresh.0) refl in
    let later : Fresh (map name_of (before ++ d ∷ [])) (map name_of ds) =
    subst (λ names. Fresh names (map name_of ds)) (sym (map-append name_of before (d ∷ []))) (fresh_more (map name_of before) (map name_of ds) d.name fresh.1 apart.0) in
    ap (λ (b : Bool). option_or (given b (at_line d.line TwoDrivers))
    (first_after (λ (before : List Visit) (d : Visit). given (has_visit before d.name || is_one_of [] d.name) (at_line d.line TwoDrivers)) (before ++ d ∷ []) ds)) here
    ∙ no_second (before ++ d ∷ []) ds later apart.1

-- ---- the driven names stand once

absent_stages : (name : Name) (i : ℕ) → ((k : ℕ) → i < k + 1 → k + 1 < 2 ^ 32 → is_one_of (driven_names (both_lines k)) name ≡ false)
    → (a n : ℕ) → i < a + 1 → a + n < 2 ^ 32 → is_one_of (driven_names (flat_map both_lines (range_with_len a n))) name ≡ false
unfolding driven_names
absent_stages name i each a zero lt small = refl
absent_stages name i each a (suc n) lt small =
    ap (λ names. is_one_of names name) (flat_map-append driven_by (both_lines a) (flat_map both_lines (range_with_len (a + 1) n)))
    ∙ one_of_both (driven_names (both_lines a)) (driven_names (flat_map both_lines (range_with_len (a + 1) n))) name
    ∙ rw (each a lt (omega (arith, small)), absent_stages name i each (a + 1) n (omega (arith, lt)) (omega (arith, small))) refl

absent_ends : (xs : List Name) (name : Name) → is_one_of xs name ≡ false → is_one_of (codes "q" ∷ codes "e" ∷ []) name ≡ false
    → is_one_of (xs ++ codes "q" ∷ codes "e" ∷ []) name ≡ false
absent_ends xs name first second = one_of_both xs (codes "q" ∷ codes "e" ∷ []) name ∙ rw (first, second) refl

abbrev from_stage : ℕ → ℕ → List Name
from_stage a n = driven_names (flat_map both_lines (range_with_len a n)) ++ codes "q" ∷ codes "e" ∷ []

absent_m : (i a n : ℕ) → i < a + 1 → a + n < 2 ^ 32 → is_one_of (from_stage a n) (word (codes "m") i) ≡ false
unfolding driven_names
absent_m i a n lt small =
    absent_ends (driven_names (flat_map both_lines (range_with_len a n))) (word (codes "m") i)
    (absent_stages (word (codes "m") i) i (λ k low high. rw (differ i (k + 1) (omega (arith, low, high)) (omega (arith, high)) (omega (arith, low))) refl) a n lt small) refl

absent_a : (i a n : ℕ) → i < a + 1 → a + n < 2 ^ 32 → is_one_of (from_stage a n) (word (codes "a") i) ≡ false
unfolding driven_names
absent_a i a n lt small =
    absent_ends (driven_names (flat_map both_lines (range_with_len a n))) (word (codes "a") i)
    (absent_stages (word (codes "a") i) i (λ k low high. rw (differ i (k + 1) (omega (arith, low, high)) (omega (arith, high)) (omega (arith, low))) refl) a n lt small) refl

absent_n : (i a n : ℕ) → i < a + 1 → a + n < 2 ^ 32 → is_one_of (from_stage a n) (word (codes "n") i) ≡ false
unfolding driven_names
absent_n i a n lt small =
    absent_ends (driven_names (flat_map both_lines (range_with_len a n))) (word (codes "n") i)
    (absent_stages (word (codes "n") i) i (λ k low high. rw (differ i (k + 1) (omega (arith, low, high)) (omega (arith, high)) (omega (arith, low))) refl) a n lt small) refl

absent_b : (i a n : ℕ) → i < a + 1 → a + n < 2 ^ 32 → is_one_of (from_stage a n) (word (codes "b") i) ≡ false
unfolding driven_names
absent_b i a n lt small =
    absent_ends (driven_names (flat_map both_lines (range_with_len a n))) (word (codes "b") i)
    (absent_stages (word (codes "b") i) i (λ k low high. rw (differ i (k + 1) (omega (arith, low, high)) (omega (arith, high)) (omega (arith, low))) refl) a n lt small) refl

apart_from : (a n : ℕ) → a + n < 2 ^ 32 → Apart (from_stage a n)
unfolding Apart driven_names
apart_from a zero small = (refl, (refl, tt))
apart_from a (suc n) small =
    let rest = from_stage (a + 1) n in
    let le : a + 1 < a + 1 + 1 = omega arith in
    let few : a + 1 + n < 2 ^ 32 = omega (arith, small) in
    (absent_m (a + 1) (a + 1) n le few, (absent_a (a + 1) (a + 1) n le few, (absent_n (a + 1) (a + 1) n le few, (absent_b (a + 1) (a + 1) n le few, apart_from (a + 1) n few))))

driven_are : (n : ℕ) → driven_names (lines n) ≡ codes "d" ∷ from_stage 0 n
unfolding driven_names below
driven_are n =
    flat_map-append driven_by (port_lines ++ flat_map both_lines (below n)) (end_lines n)

apart_driven : (n : ℕ) → n < 2 ^ 32 → Apart (codes "d" ∷ from_stage 0 n)
unfolding Apart driven_names
apart_driven n small = (
  absent_ends (driven_names (flat_map both_lines (range_with_len 0 n))) (codes "d") (absent_stages (codes "d") 0 (λ k low high. refl) 0 n (omega arith) (omega (arith, small))) refl,
  apart_from 0 n (omega (arith, small)),
)

-- ---- each visited name is driven

AllIn : List Name → List Name → Type 0
AllIn driven [] = Unit {0}
AllIn driven (x ∷ xs) = (is_one_of driven x ≡ true) × AllIn driven xs

in_both : (driven xs ys : List Name) → AllIn driven xs → AllIn driven ys → AllIn driven (xs ++ ys)
unfolding AllIn
in_both driven [] ys first second = second
in_both driven (x ∷ xs) ys first second = (first.0, in_both driven xs ys first.1 second)

in_first : (name : Name) (xs ys : List Name) → is_one_of xs name ≡ true → is_one_of (xs ++ ys) name ≡ true
in_first name xs ys e = one_of_both xs ys name ∙ rw e refl

in_second : (xs ys : List Name) (name : Name) → is_one_of ys name ≡ true → is_one_of (xs ++ ys) name ≡ true
in_second xs ys name e = one_of_both xs ys name ∙ or_second (is_one_of xs name) (is_one_of ys name) e

-- a name of stage k is driven by some stage
in_stages : (name : Name) (k : ℕ) → is_one_of (driven_names (both_lines k)) name ≡ true
    → (a n : ℕ) → a ≤ k → k < a + n → is_one_of (driven_names (flat_map both_lines (range_with_len a n))) name ≡ true
unfolding driven_names
in_stages name k here a zero low high = absurd (omega (arith, low, high))
in_stages name k here a (suc n) low high =
    let split : (a ≡ k) ⊎ (a < k) = grind (arith, low) in
    ap (λ names. is_one_of names name) (flat_map-append driven_by (both_lines a) (flat_map both_lines (range_with_len (a + 1) n)))
    ∙ elim split as (λ _. is_one_of (driven_names (both_lines a) ++ driven_names (flat_map both_lines (range_with_len (a + 1) n))) name ≡ true) [
      | inl same ↦ in_first name (driven_names (both_lines a)) (driven_names (flat_map both_lines (range_with_len (a + 1) n)))
          (subst (λ j. is_one_of (driven_names (both_lines j)) name ≡ true) (sym same) here)
      | inr above ↦ in_second (driven_names (both_lines a)) (driven_names (flat_map both_lines (range_with_len (a + 1) n))) name
          (in_stages name k here (a + 1) n (omega (arith, above)) (omega (arith, high)))
    ]

abbrev all_driven : ℕ → List Name
all_driven n = codes "d" ∷ from_stage 0 n

in_all : (n : ℕ) (name : Name) → is_one_of (driven_names (flat_map both_lines (range_with_len 0 n))) name ≡ true → is_one_of (all_driven n) name ≡ true
in_all n name e =
    or_second (bytes_eq name (codes "d")) (is_one_of (from_stage 0 n) name)
    (in_first name (driven_names (flat_map both_lines (range_with_len 0 n))) (codes "q" ∷ codes "e" ∷ []) e)

m_in : (n k : ℕ) → k < n → is_one_of (all_driven n) (word (codes "m") (k + 1)) ≡ true
unfolding driven_names
m_in n k lt = in_all n (word (codes "m") (k + 1)) (in_stages (word (codes "m") (k + 1)) k (rw (is_same (decimal (k + 1))) refl) 0 n (omega arith) (omega (arith, lt)))

a_in : (n k : ℕ) → k < n → is_one_of (all_driven n) (word (codes "a") (k + 1)) ≡ true
unfolding driven_names
a_in n k lt = in_all n (word (codes "a") (k + 1)) (in_stages (word (codes "a") (k + 1)) k (rw (is_same (decimal (k + 1))) refl) 0 n (omega arith) (omega (arith, lt)))

n_in : (n k : ℕ) → k < n → is_one_of (all_driven n) (word (codes "n") (k + 1)) ≡ true
unfolding driven_names
n_in n k lt = in_all n (word (codes "n") (k + 1)) (in_stages (word (codes "n") (k + 1)) k (rw (is_same (decimal (k + 1))) refl) 0 n (omega arith) (omega (arith, lt)))

b_in : (n k : ℕ) → k < n → is_one_of (all_driven n) (word (codes "b") (k + 1)) ≡ true
unfolding driven_names
b_in n k lt = in_all n (word (codes "b") (k + 1)) (in_stages (word (codes "b") (k + 1)) k (rw (is_same (decimal (k + 1))) refl) 0 n (omega arith) (omega (arith, lt)))

source_in : (n k : ℕ) (letter : Bytes) → ((j : ℕ) → j < n → is_one_of (all_driven n) (word letter (j + 1)) ≡ true) → k < n → is_one_of (all_driven n) (source letter (k + 1)) ≡ true
source_in n zero letter each lt = refl
source_in n (suc j) letter each lt =
    let test : (suc j + 1 == 1) ≡ false = grind arith in
    let same : suc j + 1 - 1 ≡ j + 1 = omega arith in
    ap (λ (first : Bool). is_one_of (all_driven n) (if first then codes "d" else word letter (suc j + 1 - 1))) test
    ∙ ap (λ i. is_one_of (all_driven n) (word letter i)) same ∙ each j (omega (arith, lt))

both_in : (n k : ℕ) → k < n → AllIn (all_driven n) (visited_names (both_lines k))
unfolding AllIn visited_names
both_in n k lt =
    (source_in n k (codes "a") (a_in n) lt, (m_in n k lt, (m_in n k lt, (a_in n k lt, (source_in n k (codes "b") (b_in n) lt, (n_in n k lt, (n_in n k lt, (b_in n k lt, tt))))))))

stages_in : (n a m : ℕ) → a + m ≤ n → AllIn (all_driven n) (visited_names (flat_map both_lines (range_with_len a m)))
unfolding AllIn visited_names
stages_in n a zero le = tt
stages_in n a (suc m) le =
    subst (AllIn (all_driven n)) (sym (flat_map-append visited_by (both_lines a) (flat_map both_lines (range_with_len (a + 1) m))))
    (in_both (all_driven n) (visited_names (both_lines a)) (visited_names (flat_map both_lines (range_with_len (a + 1) m))) (both_in n a (omega (arith, le))) (stages_in n (a + 1) m (omega (arith, le))))

ends_in : (n : ℕ) → 0 < n → AllIn (all_driven n) (visited_names (end_lines n))
unfolding AllIn visited_names
ends_in zero some = absurd (omega (arith, some))
ends_in (suc k) some =
    let same : k + 1 ≡ suc k = omega arith in
    let a : is_one_of (all_driven (suc k)) (word (codes "a") (suc k)) ≡ true = subst (λ i. is_one_of (all_driven (suc k)) (word (codes "a") i) ≡ true) same (a_in (suc k) k (omega arith)) in
    let b : is_one_of (all_driven (suc k)) (word (codes "b") (suc k)) ≡ true = subst (λ i. is_one_of (all_driven (suc k)) (word (codes "b") i) ≡ true) same (b_in (suc k) k (omega arith)) in
    (a, (q_in (suc k), (a, (b, (e_in (suc k), tt)))))
  where
    q_in : (n : ℕ) → is_one_of (all_driven n) (codes "q") ≡ true
    q_in n = in_second (driven_names (flat_map both_lines (range_with_len 0 n))) (codes "q" ∷ codes "e" ∷ []) (codes "q") refl

    e_in : (n : ℕ) → is_one_of (all_driven n) (codes "e") ≡ true
    e_in n = in_second (driven_names (flat_map both_lines (range_with_len 0 n))) (codes "q" ∷ codes "e" ∷ []) (codes "e") refl

visits_in : (n : ℕ) → 0 < n → AllIn (all_driven n) (visited_names (lines n))
unfolding AllIn visited_names below
visits_in n some =
    let stages = flat_map both_lines (below n) in
    let q : is_one_of (all_driven n) (codes "q") ≡ true = in_second (driven_names (flat_map both_lines (range_with_len 0 n))) (codes "q" ∷ codes "e" ∷ []) (codes "q") refl in
    let e : is_one_of (all_driven n) (codes "e") ≡ true = in_second (driven_names (flat_map both_lines (range_with_len 0 n))) (codes "q" ∷ codes "e" ∷ []) (codes "e") refl in
    subst (AllIn (all_driven n)) (sym (flat_map-append visited_by (port_lines ++ stages) (end_lines n)))
    (in_both (all_driven n) (visited_names (port_lines ++ stages)) (visited_names (end_lines n)) (refl, (q, (e, stages_in n 0 n (omega arith)))) (ends_in n some))

-- ---- the faults of the walk

quiet_controls : (given_inputs : List Name) (k : ℕ) (ls : List Simple)
    → AllFail (λ (s : Step). list_any (λ (name : Name). not (is_one_of given_inputs name)) (elim s.act [ flat_latch l ↦ option_to_list l.control | _ ↦ [] ])) (steps_of k ls)
unfolding AllFail steps_of
quiet_controls given_inputs k [] = tt
quiet_controls given_inputs k (Port name ∷ ls) = (refl, quiet_controls given_inputs (k + 1) ls)
quiet_controls given_inputs k (Ports first second ∷ ls) = (refl, quiet_controls given_inputs (k + 1) ls)
quiet_controls given_inputs k (Copy read out ∷ ls) = (refl, quiet_controls given_inputs (k + 1) ls)
quiet_controls given_inputs k (Pair one other out ∷ ls) = (refl, quiet_controls given_inputs (k + 1) ls)
quiet_controls given_inputs k (Rows tokens ∷ ls) = quiet_controls given_inputs (k + 1) ls
quiet_controls given_inputs k (Store from to ∷ ls) = (refl, quiet_controls given_inputs (k + 1) ls)

none_read : (k : ℕ) (ls : List Simple)
    → AllFail (λ (s : Step). list_any (is_one_of []) (elim s.act [ flat_table ins out rows ↦ ins | flat_latch l ↦ l.from ∷ [] | gives names ↦ names | _ ↦ [] ])) (steps_of k ls)
unfolding AllFail steps_of
none_read k [] = tt
none_read k (Port name ∷ ls) = (refl, none_read (k + 1) ls)
none_read k (Ports first second ∷ ls) = (refl, none_read (k + 1) ls)
none_read k (Copy read out ∷ ls) = (refl, none_read (k + 1) ls)
none_read k (Pair one other out ∷ ls) = (refl, none_read (k + 1) ls)
none_read k (Rows tokens ∷ ls) = none_read (k + 1) ls
none_read k (Store from to ∷ ls) = (refl, none_read (k + 1) ls)

not_loose : (driven : List Visit) (visits : List Visit) → AllIn (map name_of driven) (map name_of visits)
    → AllFail (λ (v : Visit). not (is_one_of [] v.name) && not (has_visit driven v.name)) visits
unfolding AllIn AllFail
not_loose driven [] all = tt
not_loose driven (v ∷ visits) all =
    let there : has_visit driven v.name ≡ true = visit-found driven v.name ∙ all.0 in
    (rw there refl, not_loose driven visits all.1)

module _ (n : ℕ) (some : 0 < n) (small : n < 2 ^ 32) where
  steps : List Step
  steps = the_steps n

  no_second_clock : two_clocks (the_steps n) ≡ None
  unfolding two_clocks walk_faults AreQuiet
  no_second_clock = one_clock [] (the_steps n) tt (quiet_steps 2 (lines n))

  no_bad_clock : bad_clock (the_steps n) ≡ None
  unfolding bad_clock walk_faults
  no_bad_clock = fail_where _ (λ (s : Step). at_line s.line BadClock) (the_steps n) (quiet_controls _ 2 (lines n))

  pub no_clock_read : clock_read (the_steps n) ≡ None
  unfolding clock_read walk_faults
  no_clock_read =
      ap (λ clock. first_where (λ (s : Step). given (list_any (is_one_of clock) (elim s.act [ flat_table ins out rows ↦ ins | flat_latch l ↦ l.from ∷ [] | gives names ↦ names | _ ↦ [] ])) (at_line s.line ClockRead)) (the_steps n))
      (no_clocks 2 (lines n))
      ∙ fail_where _ (λ (s : Step). at_line s.line ClockRead) (the_steps n) (none_read 2 (lines n))

  names_are : map name_of (drives_of (the_steps n)) ≡ all_driven n
  names_are = drives_are 2 (lines n) ∙ driven_are n

  pub one_driver : two_drivers (the_steps n) ≡ None
  unfolding two_drivers walk_faults Fresh
  one_driver =
      ap (λ clock. first_after (λ (before : List Visit) (d : Visit). given (has_visit before d.name || is_one_of clock d.name) (at_line d.line TwoDrivers)) [] (drives_of (the_steps n)))
      (no_clocks 2 (lines n))
      ∙ no_second [] (drives_of (the_steps n)) (fresh_none (map name_of (drives_of (the_steps n)))) (subst Apart (sym names_are) (apart_driven n small))
    where
      fresh_none : (names : List Name) → Fresh [] names
      fresh_none [] = tt
      fresh_none (name ∷ names) = (refl, fresh_none names)

  pub no_undriven : undriven (the_steps n) ≡ None
  unfolding undriven walk_faults
  no_undriven =
      ap (λ clock. first_where (λ (v : Visit). given (not (is_one_of clock v.name) && not (has_visit (drives_of (the_steps n)) v.name)) (at_line v.line (Undriven v.name))) (visits_of (the_steps n)))
      (no_clocks 2 (lines n))
      ∙ fail_where _ (λ (v : Visit). at_line v.line (Undriven v.name)) (visits_of (the_steps n)) (not_loose (drives_of (the_steps n)) (visits_of (the_steps n)) all)
    where
      all : AllIn (map name_of (drives_of (the_steps n))) (map name_of (visits_of (the_steps n)))
      all = subst (λ names. AllIn names (map name_of (visits_of (the_steps n)))) (sym names_are) (subst (AllIn (all_driven n)) (sym (visits_are 2 (lines n))) (visits_in n some))

  first_of_five : (a b c d e : Option NetlistFault) → a ≡ None → b ≡ None → c ≡ None → d ≡ None → e ≡ None → first_answer (a ∷ b ∷ c ∷ d ∷ e ∷ []) ≡ None
  first_of_five a b c d e p q r s t = rw (p, q, r, s, t) refl

  pub no_walk_fault : first_answer (walk_faults (the_steps n)) ≡ None
  unfolding two_clocks bad_clock clock_read two_drivers undriven walk_faults
  no_walk_fault =
      first_of_five (two_clocks (the_steps n)) (bad_clock (the_steps n)) (clock_read (the_steps n)) (two_drivers (the_steps n)) (undriven (the_steps n))
      no_second_clock no_bad_clock no_clock_read one_driver no_undriven
