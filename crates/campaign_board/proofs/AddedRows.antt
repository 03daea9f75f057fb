-- The rows after those at the start, and their numbers.
use Rattle.std.proofs.Common.{◌≡◌, ◌≢◌, ℕ, ◌-◌, ◌<◌, ◌≤◌, ◌==◌, Bool, true, false, cond, List, [], ◌∷◌, ◌++◌, map, length, drop, refl, sym, ap, subst, ◌∙◌, arith, length-append, append_assoc}
use Rattle.std.specs.List.{All}
use Rattle.std.proofs.lemmas.Bool.{eq-eqb}
use Rattle.std.proofs.lemmas.Bool.Decides.{nat_tests}
use Rattle.std.proofs.lemmas.List.{map-append, drop_at, drop-append-le, length-map, length-drop}
use Rattle.std.proofs.lemmas.List.Elements.{All-nil, All-cons, All-head, All-tail}
use Rattle.std.proofs.lemmas.List.Sums.{sum_by-cons}
use mathlib.Core.List.{IsPrefix}
use Rattle.campaign_core.specs.Machines.{times}
use Rattle.fm_base.specs.Once.{Lacks, IsOnce}
use Rattle.result_file.specs.declared.Row.{Row}
use Rattle.campaign_board.specs.Boards.{Start, AreEntries, batches_of, next_row}
use Rattle.campaign_board.specs.Kept.{AreRows, BoardState}
use Rattle.campaign_board.specs.Missing.{IsMissing, claim_number, batch_numbered, added_rows, numbers_of, batches_with}
use Rattle.campaign_board.specs.Headed.{IsHeaded}
use Rattle.fm_base.proofs.SumsBelow.{once_few}
use Rattle.campaign_board.proofs.Adding.{rows_push}
use Rattle.campaign_board.proofs.Numbering.{batch_back, same_number}

-- two lists without a number twice between them
lacks_right : (xs ys : List ℕ) (k : ℕ) → Lacks (xs ++ ys) k → Lacks ys k
lacks_right [] ys k h = h
lacks_right (x ∷ xs) ys k h = lacks_right xs ys k h.1

lacks_both : (xs ys : List ℕ) (k : ℕ) → Lacks xs k → Lacks ys k → Lacks (xs ++ ys) k
lacks_both [] ys k one two = two
lacks_both (x ∷ xs) ys k one two = (one.0, lacks_both xs ys k one.1 two)

lacks_all : (ys : List ℕ) (k : ℕ) → Lacks ys k → All (λ y. k ≢ y) ys
lacks_all [] k h = All-nil (λ y. k ≢ y)
lacks_all (y ∷ ys) k h = All-cons (λ y. k ≢ y) y ys (λ e. h.0 (sym e)) (lacks_all ys k h.1)

once_apart : (xs ys : List ℕ) → IsOnce (xs ++ ys) → All (λ y. Lacks xs y) ys
once_apart [] ys h = λ k d lt. tt
once_apart (x ∷ xs) ys h = λ k d lt. (lacks_all ys x (lacks_right xs ys x h.0) k d lt, once_apart xs ys h.1 k d lt)

-- the rows at the start and those after them
pub rows_split : (o : Start) (rows : List Row) → IsPrefix o.rows rows → o.rows ++ added_rows o rows ≡ rows
rows_split o rows pre =
    let rest : added_rows o rows ≡ pre.0 = ap (drop (length o.rows)) (sym pre.1) ∙ drop_at o.rows pre.0 (length o.rows) refl in
    ap (λ l. o.rows ++ l) rest ∙ pre.1

pub prefix_few : (o : Start) (rows : List Row) → IsPrefix o.rows rows → length o.rows ≤ length rows
prefix_few o rows pre = omega (arith, ap length pre.1, length-append o.rows pre.0)

pub batches_split : (o : Start) (rows : List Row) → IsPrefix o.rows rows → batches_of rows ≡ batches_of o.rows ++ batches_of (added_rows o rows)
batches_split o rows pre = ap batches_of (sym (rows_split o rows pre)) ∙ map-append (λ (r : Row). r.batch) o.rows (added_rows o rows)

all_right : (P : ℕ → Type 0) (xs ys : List ℕ) → All P (xs ++ ys) → All P ys
all_right P [] ys h = h
all_right P (x ∷ xs) ys h = all_right P xs ys (All-tail P x (xs ++ ys) h)

-- each row after those at the start is of a batch to do
pub added_due : (o : Start) (rows : List Row) → IsPrefix o.rows rows → AreRows o rows → All (IsMissing o) (batches_of (added_rows o rows))
added_due o rows pre h =
    let split = batches_split o rows pre in
    let within = all_right (λ b. b < length o.entries) (batches_of o.rows) (batches_of (added_rows o rows)) (subst (All (λ b. b < length o.entries)) split h.within) in
    let apart = once_apart (batches_of o.rows) (batches_of (added_rows o rows)) (subst IsOnce split h.once) in
    λ k d lt. (within k d lt, apart k d lt)

numbers_back : (o : Start) (batches : List ℕ) → All (IsMissing o) batches → map (batch_numbered o) (map (claim_number o) batches) ≡ batches
numbers_back o [] h = refl
numbers_back o (b ∷ bs) h =
    let rest = numbers_back o bs (All-tail (IsMissing o) b bs h) in
    ap (λ c. c ∷ map (batch_numbered o) (map (claim_number o) bs)) (batch_back o b (All-head (IsMissing o) b bs h)).1 ∙ ap (λ l. b ∷ l) rest

-- the batches of all rows, by the numbers of those that were added
pub batches_again : (o : Start) (rows : List Row) → IsPrefix o.rows rows → AreRows o rows → batches_with o (numbers_of o rows) ≡ batches_of rows
batches_again o rows pre h =
    ap (λ l. batches_of o.rows ++ l) (numbers_back o (batches_of (added_rows o rows)) (added_due o rows pre h)) ∙ sym (batches_split o rows pre)

-- one more row has one more number
pub numbers_push : (o : Start) (rows : List Row) (batch : ℕ) → IsPrefix o.rows rows → AreEntries o.entries → batch < length o.entries
    → numbers_of o (rows ++ next_row o.entries rows batch ∷ []) ≡ numbers_of o rows ++ claim_number o batch ∷ []
numbers_push o rows batch pre are lt =
    let row : Row = next_row o.entries rows batch in
    let rest : added_rows o (rows ++ row ∷ []) ≡ added_rows o rows ++ row ∷ [] = drop-append-le (length o.rows) rows (row ∷ []) (prefix_few o rows pre) in
    ap (λ rs. map (claim_number o) (batches_of rs)) rest
    ∙ ap (map (claim_number o)) (map-append (λ (r : Row). r.batch) (added_rows o rows) (row ∷ []))
    ∙ map-append (claim_number o) (batches_of (added_rows o rows)) (row.batch ∷ [])
    ∙ ap (λ b. numbers_of o rows ++ claim_number o b ∷ []) (are.numbered batch lt)

-- a number that isn't among those of some batches is of none of them
no_number : (o : Start) (batches : List ℕ) (batch : ℕ) → times (claim_number o batch) (map (claim_number o) batches) ≡ 0 → Lacks batches batch
no_number o [] batch h = tt
no_number o (b ∷ bs) batch h =
    let n : ℕ = claim_number o batch in
    let split = sum_by-cons (λ y. cond {A = ℕ} (y == n) 1 0) (claim_number o b) (map (claim_number o) bs) in (
      λ e. (let one : cond {A = ℕ} (claim_number o b == n) 1 0 ≡ 1 = ap (λ (t : Bool). cond {A = ℕ} t 1 0) (eq-eqb (claim_number o b) n (ap (claim_number o) e)) in absurd (omega (arith, h, split, one))),
      no_number o bs batch (omega (arith, h, split)),
    )

-- the rows lack a batch to do whose number they lack
pub lacks_row : (o : Start) (rows : List Row) (batch : ℕ) → IsPrefix o.rows rows → IsMissing o batch → times (claim_number o batch) (numbers_of o rows) ≡ 0 → Lacks (batches_of rows) batch
lacks_row o rows batch pre due none =
    subst (λ bs. Lacks bs batch) (sym (batches_split o rows pre))
    (lacks_both (batches_of o.rows) (batches_of (added_rows o rows)) batch due.1 (no_number o (batches_of (added_rows o rows)) batch none))

test_same : (o : Start) (a b : ℕ) → IsMissing o a → IsMissing o b → (claim_number o a == claim_number o b) ≡ (a == b)
test_same o a b due_a due_b = go (a == b) refl
  where
    go : (t : Bool) → (a == b) ≡ t → (claim_number o a == claim_number o b) ≡ t
    go true e = eq-eqb (claim_number o a) (claim_number o b) (ap (claim_number o) (grind (arith, nat_tests)))
    go false e = grind (arith, nat_tests, same_number o a b due_a due_b)

-- a batch to do stands among some of them as often as its number among theirs
pub times_number : (o : Start) (batches : List ℕ) (batch : ℕ) → All (IsMissing o) batches → IsMissing o batch → times (claim_number o batch) (map (claim_number o) batches) ≡ times batch batches
times_number o [] batch all due = refl
times_number o (b ∷ bs) batch all due =
    let rest = times_number o bs batch (All-tail (IsMissing o) b bs all) due in
    let one = ap (λ (t : Bool). cond {A = ℕ} t 1 0) (test_same o b batch (All-head (IsMissing o) b bs all) due) in
    omega (arith, sum_by-cons (λ y. cond {A = ℕ} (y == claim_number o batch) 1 0) (claim_number o b) (map (claim_number o) bs), sum_by-cons (λ y. cond {A = ℕ} (y == batch) 1 0) b bs, rest, one)

-- how many rows there are
pub rows_few : (o : Start) (rows : List Row) → AreEntries o.entries → AreRows o rows → length rows ≤ 16384
rows_few o rows are h = omega (arith, once_few (batches_of rows) (length o.entries) h.within h.once, are.few, length-map rows (λ (r : Row). r.batch))

pub length_numbers : (o : Start) (rows : List Row) → length (numbers_of o rows) ≡ length rows - length o.rows
length_numbers o rows = length-map (batches_of (added_rows o rows)) (claim_number o) ∙ length-map (added_rows o rows) (λ (r : Row). r.batch) ∙ length-drop (length o.rows) rows

prefix_push : {X : Type 0} (xs ys : List X) (y : X) → IsPrefix xs ys → IsPrefix xs (ys ++ y ∷ [])
prefix_push xs ys y pre = (pre.0 ++ y ∷ [], sym (append_assoc xs pre.0 (y ∷ [])) ∙ ap (λ l. l ++ y ∷ []) pre.1)

-- the row of a batch that the rows lack was added
pub headed_push : {F : Type 0} (o : Start) (before now : BoardState F) (started batch : ℕ) → IsHeaded o before started → batch < length o.entries → Lacks (batches_of before.rows) batch → o.takes batch ≡ true
    → now.rows ≡ before.rows ++ next_row o.entries before.rows batch ∷ [] → now.written ≡ true → IsHeaded o now started
headed_push o before now started batch h lt lacks own e written = record {
  written = written;
  starts = subst (λ rs. IsPrefix o.rows rs) (sym e) (prefix_push o.rows before.rows (next_row o.entries before.rows batch) h.starts);
  many = h.many;
  entries = h.entries;
  rows_are = subst (AreRows o) (sym e) (rows_push o before.rows batch h.entries h.rows_are lt lacks own);
}

-- nothing was added
pub headed_same : {F : Type 0} (o : Start) (before now : BoardState F) (started : ℕ) → IsHeaded o before started → now.rows ≡ before.rows → now.written ≡ true → IsHeaded o now started
headed_same o before now started h e written = record {
  written = written;
  starts = subst (λ rs. IsPrefix o.rows rs) (sym e) h.starts;
  many = h.many;
  entries = h.entries;
  rows_are = subst (AreRows o) (sym e) h.rows_are;
}
