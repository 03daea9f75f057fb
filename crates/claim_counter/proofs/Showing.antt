-- What the table shows of the pure machine, after a step of each kind.
use Rattle.std.proofs.Common.{◌≡◌, ℕ, zero, suc, ◌+◌, ◌-◌, ◌<◌, ◌≤◌, ◌≢◌, ◌==◌, ◌&&◌, ◌||◌, Bool, true, false, cond, List, [], ◌∷◌, ◌++◌, length, map, replicate, drop, set, sym, refl, ap, ◌∙◌, subst, arith, ◌⊎◌, inl, inr, ⊎_elim, nat_lt, min, slice_index, length-append, zero-add}
use Rattle.std.specs.List.{list_any, count_by}
use Rattle.std.proofs.lemmas.List.{length-set}
use Rattle.std.proofs.lemmas.List.Sums.{sum_by-cons, sum_by_push}
use Rattle.std.proofs.lemmas.Bool.Decides.{nat_tests}
use mathlib.Core.Option.{some, some-injective, some-ne-none}
use lib.ListN.{get_elem?}
use Rattle.atomic_table.specs.Table.{State}
use Rattle.atomic_table.proofs.Lists.{at_set}
use Rattle.campaign_core.specs.Machines.{Machine, times, times_claimed_by}
use Rattle.claim_counter.specs.declared.view.View.{View}
use Rattle.claim_counter.specs.Views.{less_one, with_one, joined_views, spent_view}
use Rattle.claim_counter.specs.Shown.{history_of, Shows}
use Rattle.claim_counter.proofs.Views.{times-snoc, times-append}

-- what is there is below the length
pub at_below : {A : Type 0} (xs : List A) (i : ℕ) (v : A) → get_elem? xs i ≡ some v → i < length xs
at_below [] i v e = absurd (some-ne-none v (sym e))
at_below (x ∷ xs) zero v e = omega arith
at_below (x ∷ xs) (suc i) v e = let a = at_below xs i v e in omega arith

-- an element of a longer list is one of the list, or the last
snoc_at : {A : Type 0} (xs : List A) (w : A) (i : ℕ) (v : A) → get_elem? (xs ++ w ∷ []) i ≡ some v → (get_elem? xs i ≡ some v) ⊎ ((i ≡ length xs) × (w ≡ v))
snoc_at [] w zero v e = inr (refl, some-injective w v e)
snoc_at [] w (suc i) v e = absurd (some-ne-none v (sym e))
snoc_at (x ∷ xs) w zero v e = inl e
snoc_at (x ∷ xs) w (suc i) v e = ⊎_elim (λ t. inl t) (λ t. inr (let a : i ≡ length xs = t.0 in omega arith, t.1)) (snoc_at xs w i v e)

-- the zero words are no numbers
pub history_zero : (k : ℕ) → history_of (replicate k 0) ≡ []
history_zero zero = refl
history_zero (suc k) = history_zero k

-- the words of a history are this history
pub history_words : (hs : List ℕ) (k : ℕ) → history_of (map (λ k. k + 1) hs ++ replicate k 0) ≡ hs
history_words [] k = history_zero k
history_words (x ∷ hs) k =
    let some_ : nat_lt 0 (x + 1) ≡ true = grind (arith, nat_tests) in
    let back : x + 1 - 1 ≡ x = omega arith in
    ap (λ (p : Bool × ℕ × List ℕ). cond p.0 (p.1 ∷ p.2) p.2) (λ i. (some_ i, back i, history_words hs k i))

-- an element passes exactly where some of them are counted
pub any_counts : {A : Type 0} (p : A → Bool) (xs : List A) → list_any p xs ≡ nat_lt 0 (count_by p xs)
any_counts p [] = refl
any_counts p (x ∷ xs) = by_cases (p x) refl (any_counts p xs)
  where
    by_cases : (b : Bool) → p x ≡ b → list_any p xs ≡ nat_lt 0 (count_by p xs) → list_any p (x ∷ xs) ≡ nat_lt 0 (count_by p (x ∷ xs))
    by_cases true is more =
        let some : count_by p (x ∷ xs) ≡ 1 + count_by p xs = sum_by-cons (λ y. cond (p y) 1 0) x xs ∙ ap (λ (b : Bool). cond b 1 0 + count_by p xs) is in
        let there : nat_lt 0 (count_by p (x ∷ xs)) ≡ true = grind (arith, nat_tests, some) in
        ap (λ (b : Bool). b || list_any p xs) is ∙ sym there
    by_cases false is more =
        let same : count_by p (x ∷ xs) ≡ count_by p xs = sum_by-cons (λ y. cond (p y) 1 0) x xs ∙ ap (λ (b : Bool). cond b 1 0 + count_by p xs) is ∙ zero-add (count_by p xs) in
        ap (λ (b : Bool). b || list_any p xs) is ∙ more ∙ ap (nat_lt 0) (sym same)

-- the views show these claims
pub record Claimed (views : List View) (claims : List (ℕ × ℕ)) : Type 0 where
  pub each : (w : ℕ) (v : View) → get_elem? views w ≡ some v → (x : ℕ) → times_claimed_by w x claims ≡ times x v.claims
  pub others : (w : ℕ) → length views ≤ w → (x : ℕ) → times_claimed_by w x claims ≡ 0

-- what a table with these words shows
pub shows_of : {S : Type 0} (todo n t : ℕ) (tail : List ℕ) (s : State S View) (m : Machine) → s.words ≡ n ∷ t ∷ tail → m.limit ≡ todo → m.next ≡ min n todo → Claimed s.views m.claims → m.history ≡ history_of tail → m.failed ≡ nat_lt 1 t → Shows todo s m
shows_of todo n t tail s m words limit next claims history failed = record {
  limit = limit;
  next = next ∙ sym (ap (λ (ws : List ℕ). min (slice_index ws 0) todo) words);
  claims = claims.each;
  others = claims.others;
  history = history ∙ sym (ap (λ (ws : List ℕ). history_of (drop 2 ws)) words);
  failed = failed ∙ sym (ap (λ (ws : List ℕ). nat_lt 1 (slice_index ws 1)) words);
}

module _ {S : Type 0} (todo n t : ℕ) (tail : List ℕ) (s : State S View) (m : Machine) (words : s.words ≡ n ∷ t ∷ tail) (h : Shows todo s m) where
  pub next_shown : m.next ≡ min n todo
  next_shown = h.next ∙ ap (λ (ws : List ℕ). min (slice_index ws 0) todo) words

  pub history_shown : m.history ≡ history_of tail
  history_shown = h.history ∙ ap (λ (ws : List ℕ). history_of (drop 2 ws)) words

  pub failed_shown : m.failed ≡ nat_lt 1 t
  failed_shown = h.failed ∙ ap (λ (ws : List ℕ). nat_lt 1 (slice_index ws 1)) words

pub claims_shown : {S : Type 0} (todo : ℕ) (s : State S View) (m : Machine) → Shows todo s m → Claimed s.views m.claims
claims_shown todo s m h = record { each = h.claims; others = h.others }

-- a step that leaves the claims of its view
pub claimed_same : (views : List View) (id : ℕ) (v w : View) (cs : List (ℕ × ℕ)) → get_elem? views id ≡ some v → w.claims ≡ v.claims → Claimed views cs → Claimed (set views id w) cs
claimed_same views id v w cs at same h = record {
  each = λ j u there x. ⊎_elim
      (λ (t : (j ≡ id) × (w ≡ u)).
      let P : ℕ × View → Type 0 = λ p. times_claimed_by p.0 x cs ≡ times x p.1.claims in
      subst P (λ i. (sym t.0 i, t.1 i)) (h.each id v at x ∙ sym (ap (times x) same)))
      (λ t. h.each j u t.1 x)
      (at_set views id j w u there);
  others = λ j out x. h.others j (omega (arith, length-set views id w)) x;
}

claim_snoc : (w x o n : ℕ) (cs : List (ℕ × ℕ)) → times_claimed_by w x (cs ++ (o, n) ∷ []) ≡ times_claimed_by w x cs + cond ((o == w) && (n == x)) 1 0
claim_snoc w x o n cs = sum_by_push (λ (c : ℕ × ℕ). cond ((c.0 == w) && (c.1 == x)) 1 0) cs (o, n)

mine : (id x n : ℕ) (b : Bool) → cond {A = ℕ} ((id == id) && b) 1 0 ≡ cond b 1 0
mine id x n b = let same : (id == id) ≡ true = grind (arith, nat_tests) in ap (λ (a : Bool). cond {A = ℕ} (a && b) 1 0) same

theirs : (id w : ℕ) (b : Bool) → w ≢ id → cond {A = ℕ} ((id == w) && b) 1 0 ≡ 0
theirs id w b apart = let other : (id == w) ≡ false = grind (arith, nat_tests) in ap (λ (a : Bool). cond {A = ℕ} (a && b) 1 0) other

-- a number joins the claims of one view
pub claimed_more : (views : List View) (id n : ℕ) (v w : View) (cs : List (ℕ × ℕ)) → get_elem? views id ≡ some v → w.claims ≡ v.claims ++ n ∷ [] → Claimed views cs → Claimed (set views id w) (cs ++ (id, n) ∷ [])
claimed_more views id n v w cs at more h = record {
  each = λ j u there x. ⊎_elim
      (λ (t : (j ≡ id) × (w ≡ u)).
      let P : ℕ × View → Type 0 = λ p. times_claimed_by p.0 x (cs ++ (id, n) ∷ []) ≡ times x p.1.claims in
      let here : times_claimed_by id x (cs ++ (id, n) ∷ []) ≡ times x w.claims = omega (arith, claim_snoc id x id n cs, mine id x n (n == x), h.each id v at x, times-snoc x v.claims n, ap (times x) more) in
      subst P (λ i. (sym t.0 i, t.1 i)) here)
      (λ t. claim_snoc j x id n cs ∙ omega (arith, theirs id j (n == x) t.0, h.each j u t.1 x))
      (at_set views id j w u there);
  others = λ j out x.
      let below = at_below views id v at in
      let le : length views ≤ j = omega (arith, length-set views id w) in
      omega (arith, claim_snoc j x id n cs, theirs id j (n == x) (omega arith), h.others j le x);
}

-- a view is cut in two
pub claimed_cut : (views : List View) (id : ℕ) (v : View) (cs : List (ℕ × ℕ)) → get_elem? views id ≡ some v → Claimed views cs → Claimed (set views id (less_one v) ++ with_one v ∷ []) cs
claimed_cut views id v cs at h =
    let a = claimed_same views id v (less_one v) cs at refl h in record {
      each = λ j u there x. ⊎_elim
          (λ t. a.each j u t x)
          (λ (t : (j ≡ length (set views id (less_one v))) × (with_one v ≡ u)). a.others j (omega arith) x ∙ ap (λ (u : View). times x u.claims) t.1)
          (snoc_at (set views id (less_one v)) (with_one v) j u there);
      others = λ j out x. a.others j (omega (arith, length-append (set views id (less_one v)) (with_one v ∷ []))) x;
    }

-- one claim after a move
moved_one : (other id j a k l n : ℕ) (b : Bool) → other ≢ id → k ≡ cond (j == other) 0 (l + cond (j == id) n 0)
    → cond ((cond (a == other) id a == j) && b) 1 0 + k ≡ cond (j == other) 0 (cond ((a == j) && b) 1 0 + l + cond (j == id) (cond ((a == other) && b) 1 0 + n) 0)
moved_one other id j a k l n true apart h = grind (arith, nat_tests)
moved_one other id j a k l n false apart h = grind (arith, nat_tests)

-- the claims after a move: none of the one worker, and those of both of the other
moved_count : (other id j x : ℕ) (cs : List (ℕ × ℕ)) → other ≢ id → times_claimed_by j x (map (λ c. (cond (c.0 == other) id c.0, c.1)) cs) ≡ cond (j == other) 0 (times_claimed_by j x cs + cond (j == id) (times_claimed_by other x cs) 0)
moved_count other id j x [] apart = grind (arith, nat_tests)
moved_count other id j x (c ∷ cs) apart =
    let rest = moved_count other id j x cs apart in
    let f : ℕ → ℕ × ℕ → ℕ = λ w c. cond ((c.0 == w) && (c.1 == x)) 1 0 in
    let one = moved_one other id j c.0 (times_claimed_by j x (map (λ c. (cond (c.0 == other) id c.0, c.1)) cs)) (times_claimed_by j x cs) (times_claimed_by other x cs) (c.1 == x) apart rest in
    sum_by-cons (f j) (cond (c.0 == other) id c.0, c.1) (map (λ c. (cond (c.0 == other) id c.0, c.1)) cs) ∙ (one ∙ sym (ap (λ (p : ℕ × ℕ). cond (j == other) 0 (p.0 + cond (j == id) p.1 0)) (λ i. (sum_by-cons (f j) c cs i, sum_by-cons (f other) c cs i))))

moved_away : (other id j k l n : ℕ) → k ≡ cond (j == other) 0 (l + cond (j == id) n 0) → j ≡ other → k ≡ 0
moved_away other id j k l n h e = grind (arith, nat_tests)

moved_here : (other id j k l n : ℕ) → other ≢ id → k ≡ cond (j == other) 0 (l + cond (j == id) n 0) → j ≡ id → k ≡ l + n
moved_here other id j k l n apart h e = grind (arith, nat_tests)

moved_not : (other id j k l n : ℕ) → k ≡ cond (j == other) 0 (l + cond (j == id) n 0) → j ≢ other → j ≢ id → k ≡ l
moved_not other id j k l n h a b = grind (arith, nat_tests)

-- two views are put together
pub claimed_join : (views : List View) (id other : ℕ) (v w : View) (cs : List (ℕ × ℕ)) → get_elem? views id ≡ some v → get_elem? views other ≡ some w → other ≢ id → Claimed views cs → Claimed (set (set views id (joined_views v w)) other spent_view) (map (λ c. (cond (c.0 == other) id c.0, c.1)) cs)
claimed_join views id other v w cs at there apart h =
    let now : List (ℕ × ℕ) = map (λ c. (cond (c.0 == other) id c.0, c.1)) cs in
    let many : (j x : ℕ) → times_claimed_by j x now ≡ cond (j == other) 0 (times_claimed_by j x cs + cond (j == id) (times_claimed_by other x cs) 0) = λ j x. moved_count other id j x cs apart in record {
      each = λ j u found x. ⊎_elim
          (λ (t : (j ≡ other) × (spent_view ≡ u)). moved_away other id j (times_claimed_by j x now) (times_claimed_by j x cs) (times_claimed_by other x cs) (many j x) t.0 ∙ ap (λ (u : View). times x u.claims) t.1)
          (λ t. ⊎_elim
          (λ (q : (j ≡ id) × (joined_views v w ≡ u)).
          let a = moved_here other id j (times_claimed_by j x now) (times_claimed_by j x cs) (times_claimed_by other x cs) apart (many j x) q.0 in
          let b : times_claimed_by j x cs ≡ times x v.claims = ap (λ (k : ℕ). times_claimed_by k x cs) q.0 ∙ h.each id v at x in
          let d : times_claimed_by j x now ≡ times x (v.claims ++ w.claims) = omega (arith, h.each other w there x, times-append x v.claims w.claims) in
          d ∙ ap (λ (u : View). times x u.claims) q.1)
          (λ q. moved_not other id j (times_claimed_by j x now) (times_claimed_by j x cs) (times_claimed_by other x cs) (many j x) t.0 q.0 ∙ h.each j u q.1 x)
          (at_set views id j (joined_views v w) u t.1))
          (at_set (set views id (joined_views v w)) other j spent_view u found);
      others = λ j out x.
          let b1 = at_below views id v at in
          let b2 = at_below views other w there in
          let le : length views ≤ j = omega (arith, length-set views id (joined_views v w), length-set (set views id (joined_views v w)) other spent_view) in
          moved_not other id j (times_claimed_by j x now) (times_claimed_by j x cs) (times_claimed_by other x cs) (many j x) (omega arith) (omega arith) ∙ h.others j le x;
    }
