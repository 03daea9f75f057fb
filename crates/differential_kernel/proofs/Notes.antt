-- Words that are stored, lane by lane, and what is noted of them.
use Rattle.std.proofs.Common.{◌≡◌, ◌≢◌, inl, inr, ℕ, zero, suc, ◌+◌, ◌<◌, ◌≤◌, ◌==◌, Bool, true, false, cond, List, [], ◌∷◌, ◌++◌, length, set, refl, ap, sym, subst, ◌∙◌, arith}
use Rattle.std.proofs.lemmas.Bool.{cases_eq, cases_lt, eq-eqb, false_from_ne_true, ne_eqb, true≢false}
use Rattle.std.proofs.lemmas.List.{map-set, get_or-set_same, get_or-set_other}
use Rattle.circuit.specs.Value.{bit_at}
use Rattle.fanout.specs.Readers.{IsReadAt, Ordered}
use Rattle.lane_words.specs.Gates.{plane}
use Rattle.lane_words.proofs.Planes.{length_plane}
use Rattle.place_set.specs.Places.{Places, has}
use Rattle.differential_kernel.specs.Differences.{AreMarked, AreSameOff, DifferOnlyIn, Grows, IsSame}

-- ---- one word stored

pub at_set_same : {W : Type 0} (bit : W → ℕ → Bool) (k : ℕ) (words : List W) (n : ℕ) (v : W) → n < length words → bit_at (plane bit k (set words n v)) n ≡ bit v k
at_set_same bit k words n v lt =
    let size : length (plane bit k words) ≡ length words = length_plane bit k words in
    ap (λ bits. bit_at bits n) (map-set (λ w. bit w k) words n v) ∙ get_or-set_same (plane bit k words) n (bit v k) false (omega (arith, size, lt))

pub at_set_other : {W : Type 0} (bit : W → ℕ → Bool) (k : ℕ) (words : List W) (n m : ℕ) (v : W) → m ≢ n → bit_at (plane bit k (set words n v)) m ≡ bit_at (plane bit k words) m
at_set_other bit k words n m v other = ap (λ bits. bit_at bits m) (map-set (λ w. bit w k) words n v) ∙ get_or-set_other (plane bit k words) n m (bit v k) false other

-- one word more in which nothing differs
pub same_push : {W : Type 0} (bit : W → ℕ → Bool) (k : ℕ) (words : List W) (v : W) (n : ℕ) → bit v k ≡ false → bit_at (plane bit k words) n ≡ false
    → bit_at (plane bit k (words ++ v ∷ [])) n ≡ false
same_push bit k [] v zero e before = e
same_push bit k [] v (suc n) e before = refl
same_push bit k (w ∷ words) v zero e before = before
same_push bit k (w ∷ words) v (suc n) e before = same_push bit k words v n e before

-- ---- a set with one place more or less

pub put_here : (old new : Places) (n : ℕ) → ((p : ℕ) → has new p ≡ cond (p == n) true (has old p)) → has new n ≡ true
put_here old new n is = is n ∙ ap (λ b. cond b true (has old n)) (eq-eqb n n refl)

-- what is there stays
pub put_grows : (old new : Places) (n : ℕ) → ((p : ℕ) → has new p ≡ cond (p == n) true (has old p)) → Grows old new
put_grows old new n is p there =
    is p ∙ elim (cases_eq p n) [
      | inl same ↦ ap (λ b. cond b true (has old p)) (eq-eqb p n same)
      | inr other ↦ ap (λ b. cond b true (has old p)) (ne_eqb p n other) ∙ there
    ]

pub not_put : (old new : Places) (n p : ℕ) → ((q : ℕ) → has new q ≡ cond (q == n) true (has old q)) → has new p ≡ false → (p ≢ n) × (has old p ≡ false)
not_put old new n p is none =
    let other : p ≢ n = λ same. true≢false (sym (put_here old new n is) ∙ sym (ap (has new) same) ∙ none) in
    (other, sym (ap (λ b. cond b true (has old p)) (ne_eqb p n other)) ∙ sym (is p) ∙ none)

pub taken_here : (old new : Places) (n : ℕ) → ((p : ℕ) → has new p ≡ cond (p == n) false (has old p)) → has new n ≡ false
taken_here old new n is = is n ∙ ap (λ b. cond b false (has old n)) (eq-eqb n n refl)

pub taken_other : (old new : Places) (n p : ℕ) → ((q : ℕ) → has new q ≡ cond (q == n) false (has old q)) → p ≢ n → has new p ≡ has old p
taken_other old new n p is other = is p ∙ ap (λ b. cond b false (has old p)) (ne_eqb p n other)

-- no place up to the one that is taken out
pub none_taken : (old new : Places) (from n : ℕ) → ((p : ℕ) → has new p ≡ cond (p == n) false (has old p))
    → ((p : ℕ) → p < from → has old p ≡ false) → ((p : ℕ) → from ≤ p → p < n → has old p ≡ false)
    → (p : ℕ) → p < n + 1 → has new p ≡ false
none_taken old new from n is before between p lt =
    elim (cases_eq p n) [
      | inl same ↦ ap (has new) same ∙ taken_here old new n is
      | inr other ↦
          taken_other old new n p is other
          ∙ elim (cases_lt p from) [ inl less ↦ before p less | inr most ↦ between p most (omega (arith, lt, other)) ]
    ]

pub grows_none : (old new : Places) (p : ℕ) → Grows old new → has new p ≡ false → has old p ≡ false
grows_none old new p grows none = false_from_ne_true (has old p) (λ there. true≢false (sym (grows p there) ∙ none))

-- ---- what differs is in a set

module _ {W : Type 0} (lanes : ℕ) (bit : W → ℕ → Bool) where
  -- a word is stored, and its place put into the set
  pub same_put : (old new : Places) (words : List W) (n : ℕ) (v : W) → ((p : ℕ) → has new p ≡ cond (p == n) true (has old p))
      → AreSameOff lanes bit old words → AreSameOff lanes bit new (set words n v)
  same_put old new words n v is same p none k lt =
      let before = not_put old new n p is none in
      at_set_other bit k words n p v before.0 ∙ same p before.1 k lt

  -- nothing is stored, and its place taken out of the set
  -- a word in which nothing differs, in place of another
  pub same_set : (words : List W) (n p : ℕ) (v : W) → n < length words → ((k : ℕ) → k < lanes → bit v k ≡ false)
      → ((p ≡ n → ⊥) → IsSame lanes bit words p) → IsSame lanes bit (set words n v) p
  same_set words n p v within none_in same k lt =
      elim (cases_eq p n) [
        | inl here ↦ ap (bit_at (plane bit k (set words n v))) here ∙ at_set_same bit k words n v within ∙ none_in k lt
        | inr other ↦ at_set_other bit k words n p v other ∙ same other k lt
      ]

  pub same_taken : (old new : Places) (words : List W) (n : ℕ) (v : W) → n < length words → ((p : ℕ) → has new p ≡ cond (p == n) false (has old p))
      → ((k : ℕ) → k < lanes → bit v k ≡ false) → AreSameOff lanes bit old words → AreSameOff lanes bit new (set words n v)
  same_taken old new words n v within is none_in same p none k lt =
      elim (cases_eq p n) [
        | inl here ↦ ap (bit_at (plane bit k (set words n v))) here ∙ at_set_same bit k words n v within ∙ none_in k lt
        | inr other ↦ at_set_other bit k words n p v other ∙ same p (sym (taken_other old new n p is other) ∙ none) k lt
      ]

  -- a greater set
  pub only_in_more : (set more : Places) (words : List W) → Grows set more → more.bound ≡ length words → DifferOnlyIn lanes bit set words → DifferOnlyIn lanes bit more words
  only_in_more set more words grows bound own = record { bound = bound; same = λ n none. own.same n (grows_none set more n grows none) }

  -- where one word is stored, the places that don't read its net are as they were
  pub same_other : (words : List W) (n m : ℕ) (v : W) → m ≢ n → IsSame lanes bit words m → IsSame lanes bit (set words n v) m
  same_other words n m v other same k lt = at_set_other bit k words n m v other ∙ same k lt

  pub same_here : (words : List W) (n : ℕ) (v : W) → n < length words → ((k : ℕ) → k < lanes → bit v k ≡ false) → IsSame lanes bit (set words n v) n
  same_here words n v within none_in k lt = at_set_same bit k words n v within ∙ none_in k lt

  -- a word of a net that doesn't differ
  pub same_still : (words : List W) (n m : ℕ) (v : W) → n < length words → ((k : ℕ) → k < lanes → bit v k ≡ false) → IsSame lanes bit words m → IsSame lanes bit (set words n v) m
  same_still words n m v within none_in same =
      elim (cases_eq m n) [
        | inl here ↦ subst (IsSame lanes bit (set words n v)) (sym here) (same_here words n v within none_in)
        | inr other ↦ same_other words n m v other same
      ]

  -- a word of a net that differs, whose readers are marked
  pub marked_put : (o : Ordered) (from : ℕ) (words : List W) (marks more : Places) (n : ℕ) (v : W)
      → Grows marks more → ((p : ℕ) → IsReadAt o n p → has more p ≡ true)
      → AreMarked lanes bit o from words marks → AreMarked lanes bit o from (set words n v) more
  marked_put o from words marks more n v grows read marked place m le reads none =
      let other : m ≢ n = λ here. true≢false (sym (read place (subst (λ i. IsReadAt o i place) here reads)) ∙ none) in
      same_other words n m v other (marked place m le reads (grows_none marks more place grows none))
