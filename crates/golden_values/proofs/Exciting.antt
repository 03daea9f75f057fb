-- The values of the golden run, word by word and cycle by cycle; and the faults of a list are faults of its circuit.
use Rattle.std.proofs.Common.{◌≡◌, ℕ, ◌+◌, ◌<◌, max, Bool, true, false, not, ◌||◌, List, [], ◌∷◌, ◌++◌, length, map, get_or, inl, inr, add-one, refl, ap, ap₂, sym, ◌∙◌, arith}
use Rattle.std.specs.Prelude.{nat_lt}
use Rattle.std.specs.List.{All, flat_map, list_any}
use Rattle.std.proofs.lemmas.Bool.{cases_lt, le-ltb, lt-ltb}
use Rattle.std.proofs.lemmas.List.Elements.{All-append, All-cons, All-get_or, All-head, All-map, All-nil, All-tail, All-weaker}
use Rattle.circuit.specs.declared.parts.Fault.{Fault}
use Rattle.circuit.specs.declared.parts.Fault.TheVariants.{Flip, Pulse, Stuck}
use Rattle.circuit.specs.declared.parts.NetId.{NetId}
use Rattle.circuit.specs.Circuit.{Circuit}
use Rattle.fault_list.specs.Faults.{fault_at, faults_for, faults_of}
use Rattle.fm_base.specs.Lists.{below, same_bit, some_below}
use Rattle.fm_base.proofs.Below.{below_small}
use Rattle.workload.specs.declared.run.Run.{Run}
use Rattle.workload.specs.Runs.{cycles_of}
use Rattle.campaign_plan.specs.Danger.{golden}
use Rattle.circuit.specs.Sound.{IsNet}
use Rattle.testbench.specs.Seen.{is_seen}
use Rattle.golden_values.specs.Golden.{HasSeenGolden, IsFaultIn, golden_of, some_cycle}
use Rattle.golden_values.specs.declared.values.GoldenValues.{GoldenValues}

-- ---- a cycle, and a run

or_assoc : (a b c : Bool) → ((a || b) || c) ≡ (a || (b || c))
or_assoc true b c = refl
or_assoc false b c = refl

or_nothing : (a : Bool) → a ≡ (a || false)
or_nothing true = refl
or_nothing false = refl

pub no_cycle : (a : Bool) (test : ℕ → Bool) → a ≡ (a || some_below 0 test)
unfolding some_below
no_cycle a test = or_nothing a

pub cycle_more : (a : Bool) (n : ℕ) (test : ℕ → Bool) → ((a || some_below n test) || test n) ≡ (a || some_below (n + 1) test)
unfolding some_below
cycle_more a n test = or_assoc a (some_below n test) (test n) ∙ ap (λ m. a || some_below m test) (sym (add-one n))

-- ---- the longest run

max_lt : (t a b : ℕ) → nat_lt t (max a b) ≡ (nat_lt t b || nat_lt t a)
max_lt t a b =
    elim (cases_lt t b) [
      | inl less ↦ lt-ltb t (max a b) (omega (arith, less)) ∙ ap (λ x. x || nat_lt t a) (sym (lt-ltb t b less))
      | inr most ↦ elim (cases_lt t a) [
        | inl less ↦ lt-ltb t (max a b) (omega (arith, less)) ∙ ap₂ (λ x y. x || y) (sym (le-ltb t b most)) (sym (lt-ltb t a less))
        | inr both ↦ le-ltb t (max a b) (omega (arith, most, both)) ∙ ap₂ (λ x y. x || y) (sym (le-ltb t b most)) (sym (le-ltb t a both))
      ]
    ]

pub longest_run_more : (t a b : ℕ) (c : Bool) → nat_lt t b ≡ c → nat_lt t (max a b) ≡ (c || nat_lt t a)
longest_run_more t a b c e = max_lt t a b ∙ ap (λ x. x || nat_lt t a) e

-- ---- the value that a stuck-at fault doesn't have

other_zero : (b : Bool) → b ≡ not (same_bit false b)
other_zero true = refl
other_zero false = refl

pub has_one : (c : Circuit) (runs : List Run) (n : NetId) → some_cycle runs (golden_of c n.0) ≡ list_any (λ run. some_below (cycles_of run) (λ t. not (same_bit false (golden c run t n)))) runs
has_one c runs n = λ i. list_any (λ run. some_below (cycles_of run) (λ t. other_zero (golden c run t n) i)) runs

pub seen_other : (c : Circuit) (runs : List Run) (values : GoldenValues) → HasSeenGolden c runs values → (n : NetId) → IsNet c n → (v : Bool)
    → is_seen values.seen n.0 (not v) ≡ list_any (λ run. some_below (cycles_of run) (λ t. not (same_bit v (golden c run t n)))) runs
seen_other c runs values has n net true = has.seen.zeros_are n.0 net
seen_other c runs values has n net false = has.seen.ones_are n.0 net ∙ has_one c runs n

-- ---- faults of a circuit

all_flat : {X : Type 0} (P : Fault → Type 0) (f : X → List Fault) (xs : List X) → All (λ x. All P (f x)) xs → All P (flat_map f xs)
all_flat P f [] all = All-nil P
all_flat P f (x ∷ xs) all =
    All-append P (f x) (flat_map f xs) (All-head (λ y. All P (f y)) x xs all) (all_flat P f xs (All-tail (λ y. All P (f y)) x xs all))

all_cycles_of : (P : Fault → Type 0) (f : ℕ → Fault) (cycles : List ℕ) → ((t : ℕ) → P (f t)) → All P (map f cycles)
all_cycles_of P f cycles each = All-map P f cycles (λ i d lt. each (get_or cycles i d))

pub in_circuit : (c : Circuit) (flips pulses : List ℕ) → All (IsFaultIn c) (faults_of c flips pulses)
unfolding faults_for
in_circuit c flips pulses =
    All-append (IsFaultIn c) (stuck ++ flipped) pulsed
    (All-append (IsFaultIn c) stuck flipped
    (all_flat (IsFaultIn c) (λ n. Stuck (record { 0 = n }) false ∷ Stuck (record { 0 = n }) true ∷ []) (below nets)
    (All-weaker (λ n. n < nets) (λ n. All (IsFaultIn c) (Stuck (record { 0 = n }) false ∷ Stuck (record { 0 = n }) true ∷ []))
    (λ n lt. All-cons (IsFaultIn c) (Stuck (record { 0 = n }) false) (Stuck (record { 0 = n }) true ∷ []) lt (All-cons (IsFaultIn c) (Stuck (record { 0 = n }) true) [] lt (All-nil (IsFaultIn c))))
    (below nets) (below_small nets)))
    (all_flat (IsFaultIn c) (λ latch. map (λ cycle. Flip latch cycle) flips) (below latches)
    (All-weaker (λ n. n < latches) (λ latch. All (IsFaultIn c) (map (λ cycle. Flip latch cycle) flips))
    (λ latch lt. all_cycles_of (IsFaultIn c) (λ cycle. Flip latch cycle) flips (λ t. lt)) (below latches) (below_small latches))))
    (all_flat (IsFaultIn c) (λ n. map (λ cycle. Pulse (record { 0 = n }) cycle) pulses) (below nets)
    (All-weaker (λ n. n < nets) (λ n. All (IsFaultIn c) (map (λ cycle. Pulse (record { 0 = n }) cycle) pulses))
    (λ n lt. all_cycles_of (IsFaultIn c) (λ cycle. Pulse (record { 0 = n }) cycle) pulses (λ t. lt)) (below nets) (below_small nets)))
  where
    nets : ℕ
    nets = length c.drivers

    latches : ℕ
    latches = length c.latches

    stuck : List Fault
    stuck = flat_map (λ n. Stuck (record { 0 = n }) false ∷ Stuck (record { 0 = n }) true ∷ []) (below nets)

    flipped : List Fault
    flipped = flat_map (λ latch. map (λ cycle. Flip latch cycle) flips) (below latches)

    pulsed : List Fault
    pulsed = flat_map (λ n. map (λ cycle. Pulse (record { 0 = n }) cycle) pulses) (below nets)

pub fault_in_circuit : (c : Circuit) (flips pulses : List ℕ) (i : ℕ) → i < length (faults_of c flips pulses) → IsFaultIn c (fault_at (faults_of c flips pulses) i)
fault_in_circuit c flips pulses i lt = All-get_or (IsFaultIn c) (faults_of c flips pulses) i (Stuck (record { 0 = 0 }) false) lt (in_circuit c flips pulses)
