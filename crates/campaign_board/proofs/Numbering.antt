-- The batches to do and their numbers.
use Rattle.std.proofs.Common.{◌≡◌, ℕ, ◌<◌, ◌≤◌, ◌==◌, Bool, true, false, not, List, [], ◌∷◌, length, get_or, refl, sym, ap, subst, ◌∙◌, arith, filter}
use Rattle.std.specs.List.{All, list_any, range_with_len, position_or_len}
use Rattle.std.proofs.lemmas.Bool.{ne_eqb, eqb-false, or_parts, or_from, not-true, not_from_false}
use Rattle.std.proofs.lemmas.List.Elements.{All-get_or, All-filter, All-from_get_or, filter_passes}
use Rattle.std.proofs.lemmas.List.Filters.{length-filter_both}
use Rattle.std.proofs.lemmas.List.FromFn.{length-range_with_len, get_or-range_with_len}
use Rattle.fm_base.specs.Lists.{below}
use Rattle.fm_base.specs.Once.{Lacks}
use Rattle.campaign_board.specs.Boards.{Start, batches_of}
use Rattle.campaign_board.specs.Missing.{missing_below, batches_missing, IsMissing, claim_number, batch_numbered}
use Rattle.campaign_board.proofs.Rising.{StandsIn, rising_filter, rising_order, rising_place, filter_has}

-- a list that lacks a number, by a test
lacks_any : (ks : List ℕ) (k : ℕ) → Lacks ks k → list_any (λ other. other == k) ks ≡ false
lacks_any [] k h = refl
lacks_any (x ∷ ks) k h = or_from (x == k) (list_any (λ other. other == k) ks) (ne_eqb x k h.0) (lacks_any ks k h.1)

any_lacks : (ks : List ℕ) (k : ℕ) → list_any (λ other. other == k) ks ≡ false → Lacks ks k
any_lacks [] k h = tt
any_lacks (x ∷ ks) k h = let both = or_parts (x == k) (list_any (λ other. other == k) ks) h in (eqb-false x k both.0, any_lacks ks k both.1)

abbrev is_left : List ℕ → ℕ → Bool
is_left kept batch = not (list_any (λ other. other == batch) kept)

missing_rises : (n : ℕ) (kept : List ℕ) (i j : ℕ) → i ≤ j → j < length (missing_below n kept) → get_or (missing_below n kept) i 0 ≤ get_or (missing_below n kept) j 0
unfolding missing_below below
missing_rises n kept i j le lt = rising_order 0 (filter (is_left kept) (range_with_len 0 n)) (rising_filter (is_left kept) 0 n) i j le lt

-- the batches to do, in rising order
pub missing_order : (o : Start) (i j : ℕ) → i ≤ j → j < length (batches_missing o) → get_or (batches_missing o) i 0 ≤ get_or (batches_missing o) j 0
missing_order o i j le lt = missing_rises (length o.entries) (batches_of o.rows) i j le lt

few_missing : (n : ℕ) (kept : List ℕ) → length (missing_below n kept) ≤ n
unfolding missing_below below
few_missing n kept =
    let both = length-filter_both (is_left kept) (λ batch. not (is_left kept batch)) (λ x. refl) (range_with_len 0 n) in
    omega (arith, both, length-range_with_len 0 n)

-- there are at most as many as batches
pub missing_few : (o : Start) → length (batches_missing o) ≤ length o.entries
missing_few o = few_missing (length o.entries) (batches_of o.rows)

within_missing : (n : ℕ) (kept : List ℕ) (i : ℕ) → i < length (missing_below n kept) → (get_or (missing_below n kept) i 0 < n) × Lacks kept (get_or (missing_below n kept) i 0)
unfolding missing_below below
within_missing n kept i lt =
    let all : All (λ x. x < n) (range_with_len 0 n) =
    All-from_get_or (λ x. x < n) (range_with_len 0 n) 0 (λ k less. let len = length-range_with_len 0 n in omega (arith, get_or-range_with_len 0 n k 0 (omega arith))) in
    let less = All-get_or (λ x. x < n) (filter (is_left kept) (range_with_len 0 n)) i 0 lt (All-filter (is_left kept) (λ x. x < n) (range_with_len 0 n) all) in
    let pass = All-get_or (λ x. is_left kept x ≡ true) (filter (is_left kept) (range_with_len 0 n)) i 0 lt (filter_passes (is_left kept) (range_with_len 0 n)) in
    let batch : ℕ = get_or (filter (is_left kept) (range_with_len 0 n)) i 0 in (less, any_lacks kept batch (not-true (list_any (λ other. other == batch) kept) pass))

-- the batch with a number is one to do
pub numbered_missing : (o : Start) (i : ℕ) → i < length (batches_missing o) → IsMissing o (batch_numbered o i)
numbered_missing o i lt = within_missing (length o.entries) (batches_of o.rows) i lt

place_below : (n : ℕ) (kept : List ℕ) (i : ℕ) → i < length (missing_below n kept) → position_or_len (λ other. other == get_or (missing_below n kept) i 0) (missing_below n kept) ≡ i
unfolding missing_below below
place_below n kept i lt = rising_place 0 (filter (is_left kept) (range_with_len 0 n)) (rising_filter (is_left kept) 0 n) i lt

-- the batch with a number has this number
pub number_back : (o : Start) (i : ℕ) → i < length (batches_missing o) → claim_number o (batch_numbered o i) ≡ i
unfolding claim_number
number_back o i lt = place_below (length o.entries) (batches_of o.rows) i lt

has_missing : (n : ℕ) (kept : List ℕ) (batch : ℕ) → batch < n → Lacks kept batch → StandsIn batch (missing_below n kept)
unfolding missing_below below
has_missing n kept batch lt lacks = filter_has (is_left kept) 0 n batch (omega arith) (omega arith) (not_from_false (list_any (λ other. other == batch) kept) (lacks_any kept batch lacks))

-- a batch to do has a number, and is the batch with it
pub batch_back : (o : Start) (batch : ℕ) → IsMissing o batch → (claim_number o batch < length (batches_missing o)) × (batch_numbered o (claim_number o batch) ≡ batch)
batch_back o batch due =
    let found = has_missing (length o.entries) (batches_of o.rows) batch due.0 due.1 in
    let same : claim_number o batch ≡ found.0 = ap (claim_number o) (sym found.2) ∙ number_back o found.0 found.1 in
    let P : ℕ → Type 0 = λ i. (i < length (batches_missing o)) × (batch_numbered o i ≡ batch) in
    subst P (sym same) (found.1, found.2)

-- two batches to do with one number are one
pub same_number : (o : Start) (a b : ℕ) → IsMissing o a → IsMissing o b → claim_number o a ≡ claim_number o b → a ≡ b
same_number o a b due_a due_b e = sym (batch_back o a due_a).1 ∙ ap (batch_numbered o) e ∙ (batch_back o b due_b).1
