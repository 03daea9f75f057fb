-- What holds after every list of lawful events.
use Rattle.std.proofs.Common.{◌≡◌, ℕ, ◌+◌, ◌<◌, ◌≤◌, ◌==◌, ◌&&◌, ◌||◌, Bool, true, false, not, cond, nat_lt, List, [], ◌∷◌, ◌++◌, sym, refl, ap, ◌∙◌, subst, arith, append_assoc}
use Rattle.std.proofs.lemmas.List.{append-nil}
use Rattle.std.proofs.lemmas.List.Sums.{sum_by-cons, sum_by_push}
use Rattle.std.proofs.lemmas.Bool.{false≢true, and_parts, not-true}
use Rattle.std.proofs.lemmas.Bool.Decides.{nat_tests}
use mathlib.Core.List.{IsPrefix}
use Rattle.metric_sums.specs.declared.Sums.{Sums}
use Rattle.metric_sums.specs.Totals.{plus, sums_by}
use Rattle.campaign_core.specs.declared.event.Event.{Event}
use Rattle.campaign_core.specs.declared.event.Event.TheVariants.{Draw, Post, Look, Fail}
use Rattle.campaign_core.specs.Machines.{Machine, fresh, is_claimed, is_posted, is_lawful, with_draw, after, after_all, all_lawful, times, times_claimed, once_below}
use Rattle.campaign_core.specs.Laws.{own, from_scratch, grown_sums}

-- how often a number stands in a list that one more was appended to
times-snoc : (x n : ℕ) (history : List ℕ) → times x (history ++ n ∷ []) ≡ times x history + cond (n == x) 1 0
times-snoc x n history = sum_by_push (λ y. cond (y == x) 1 0) history n

claimed-snoc : (x w n : ℕ) (cs : List (ℕ × ℕ)) → times_claimed x (cs ++ (w, n) ∷ []) ≡ times_claimed x cs + cond (n == x) 1 0
claimed-snoc x w n cs = sum_by_push (λ (c : ℕ × ℕ). cond (c.1 == x) 1 0) cs (w, n)

-- a claim of this worker is a claim
some_claim : (w n : ℕ) (c : ℕ × ℕ) (cs : List (ℕ × ℕ)) (b : Bool) → ((c.0 == w) && (c.1 == n)) ≡ b → (is_claimed w n cs ≡ true → 0 < times_claimed n cs) → is_claimed w n (c ∷ cs) ≡ true → 0 < times_claimed n (c ∷ cs)
some_claim w n c cs true is rest h =
    let here : (c.1 == n) ≡ true = (and_parts (c.0 == w) (c.1 == n) is).1 in
    let one : cond {A = ℕ} (c.1 == n) 1 0 ≡ 1 = ap (λ (b : Bool). cond b 1 0) here in
    omega (arith, sum_by-cons (λ (c : ℕ × ℕ). cond (c.1 == n) 1 0) c cs)
some_claim w n c cs false is rest h =
    let more = rest (subst (λ (b : Bool). (b || is_claimed w n cs) ≡ true) is h) in
    omega (arith, sum_by-cons (λ (c : ℕ × ℕ). cond (c.1 == n) 1 0) c cs)

claimed_some : (w n : ℕ) (cs : List (ℕ × ℕ)) → is_claimed w n cs ≡ true → 0 < times_claimed n cs
claimed_some w n [] h = absurd (false≢true h)
claimed_some w n (c ∷ cs) h = some_claim w n c cs ((c.0 == w) && (c.1 == n)) refl (claimed_some w n cs) h

-- a number that wasn't posted isn't in the history
none_here : (n x : ℕ) (history : List ℕ) (b : Bool) → (x == n) ≡ b → (is_posted n history ≡ false → times n history ≡ 0) → is_posted n (x ∷ history) ≡ false → times n (x ∷ history) ≡ 0
none_here n x history true is rest h = absurd (false≢true (sym h ∙ ap (λ (b : Bool). b || is_posted n history) is))
none_here n x history false is rest h =
    let less : times n history ≡ 0 = rest (subst (λ (b : Bool). (b || is_posted n history) ≡ false) is h) in
    let zero_here : cond {A = ℕ} (x == n) 1 0 ≡ 0 = ap (λ (b : Bool). cond b 1 0) is in
    omega (arith, sum_by-cons (λ y. cond (y == n) 1 0) x history)

not_listed : (n : ℕ) (history : List ℕ) → is_posted n history ≡ false → times n history ≡ 0
not_listed n [] h = refl
not_listed n (x ∷ history) h = none_here n x history (x == n) refl (not_listed n history) h

-- what each lawful event keeps
pub record Good (m : Machine) : Type 0 where
  pub claims : (x : ℕ) → times_claimed x m.claims ≡ once_below x m.next
  pub history : (x : ℕ) → times x m.history ≤ times_claimed x m.claims

good_draw : (m : Machine) (w : ℕ) (b : Bool) → Good m → Good (cond b (with_draw m w) m)
good_draw m w true h = record { claims = λ x. let a = h.claims x in grind (arith, nat_tests, claimed-snoc x w m.next m.claims); history = λ x. omega (arith, h.history x, claimed-snoc x w m.next m.claims) }
good_draw m w false h = h

-- a post stays within the claims
post_fits : (x n : ℕ) (m : Machine) (b : Bool) → (n == x) ≡ b → Good m → 0 < times_claimed n m.claims → times n m.history ≡ 0 → times x m.history + cond b 1 0 ≤ times_claimed x m.claims
post_fits x n m true is h some_claim none_ =
    let same : n ≡ x = grind (arith, nat_tests) in
    let P : ℕ → Type 0 = λ y. times y m.history + 1 ≤ times_claimed y m.claims in subst P same (omega arith)
post_fits x n m false is h some_claim none_ = omega (arith, h.history x)

pub good_after : (m : Machine) (e : Event) → Good m → is_lawful m e ≡ true → Good (after m e)
good_after m (Draw w) h ok = good_draw m w (nat_lt m.next m.limit) h
good_after m (Post w n) h ok =
    let first = (and_parts (is_claimed w n m.claims && not (is_posted n m.history)) (not m.failed) ok).0 in
    let some_claim = claimed_some w n m.claims (and_parts (is_claimed w n m.claims) (not (is_posted n m.history)) first).0 in
    let none_ = not_listed n m.history (not-true (is_posted n m.history) (and_parts (is_claimed w n m.claims) (not (is_posted n m.history)) first).1) in
    record { claims = h.claims; history = λ x. omega (arith, times-snoc x n m.history, post_fits x n m (n == x) refl h some_claim none_) }
good_after m (Look w) h ok = h
good_after m (Fail w) h ok = record { claims = h.claims; history = h.history }

pub good_all : (m : Machine) (es : List Event) → Good m → all_lawful m es ≡ true → Good (after_all m es)
good_all m [] h ok = h
good_all m (e ∷ es) h ok = good_all (after m e) es (good_after m e h (and_parts (is_lawful m e) (all_lawful (after m e) es) ok).0) (and_parts (is_lawful m e) (all_lawful (after m e) es) ok).1

pub good_fresh : (limit : ℕ) → Good (fresh limit)
good_fresh limit = record { claims = λ x. grind (arith, nat_tests); history = λ x. omega arith }

-- a beginning of a beginning
prefix_trans : {A : Type 0} (xs ys zs : List A) → IsPrefix xs ys → IsPrefix ys zs → IsPrefix xs zs
prefix_trans xs ys zs p q = (p.0 ++ q.0, sym (append_assoc xs p.0 q.0) ∙ (ap (λ w. w ++ q.0) p.1 ∙ q.1))

history_draw : (m : Machine) (w : ℕ) (b : Bool) → (cond b (with_draw m w) m).history ≡ m.history
history_draw m w true = refl
history_draw m w false = refl

grows_one : (m : Machine) (e : Event) → IsPrefix m.history (after m e).history
grows_one m (Draw w) = ([], append-nil m.history ∙ sym (history_draw m w (nat_lt m.next m.limit)))
grows_one m (Post w n) = (n ∷ [], refl)
grows_one m (Look w) = ([], append-nil m.history)
grows_one m (Fail w) = ([], append-nil m.history)

-- a history begins each later one
pub grows : (m : Machine) (es : List Event) → IsPrefix m.history (after_all m es).history
grows m [] = ([], append-nil m.history)
grows m (e ∷ es) = prefix_trans m.history (after m e).history (after_all (after m e) es).history (grows_one m e) (grows (after m e) es)

pub after-append : (m : Machine) (es fs : List Event) → after_all m (es ++ fs) ≡ after_all (after_all m es) fs
after-append m [] fs = refl
after-append m (e ∷ es) fs = after-append (after m e) es fs

-- one more number adds its own sums
sums_push : (own : ℕ → Sums) (xs : List ℕ) (n : ℕ) → sums_by own (xs ++ n ∷ []) ≡ plus (sums_by own xs) (own n)
sums_push own xs n = λ i. record {
  permanent_all = sum_by_push (λ x. (own x).permanent_all) xs n i;
  permanent_danger = sum_by_push (λ x. (own x).permanent_danger) xs n i;
  latent = sum_by_push (λ x. (own x).latent) xs n i;
  transient_all = sum_by_push (λ x. (own x).transient_all) xs n i;
  transient_danger = sum_by_push (λ x. (own x).transient_danger) xs n i;
}

-- sums that start from scratch stay so
pub grown_is : (sums : List Sums) (m : Machine) (es : List Event) → grown_sums sums (from_scratch sums m.history) es ≡ from_scratch sums (after_all m es).history
grown_is sums m [] = refl
grown_is sums m (Draw w ∷ es) = ap (λ (l : List ℕ). grown_sums sums (from_scratch sums l) es) (sym (history_draw m w (nat_lt m.next m.limit))) ∙ grown_is sums (after m (Draw w)) es
grown_is sums m (Post w n ∷ es) = ap (λ (t : Sums). grown_sums sums t es) (sym (sums_push (own sums) m.history n)) ∙ grown_is sums (after m (Post w n)) es
grown_is sums m (Look w ∷ es) = grown_is sums m es
grown_is sums m (Fail w ∷ es) = grown_is sums (after m (Fail w)) es

limit_draw : (m : Machine) (w : ℕ) (b : Bool) → nat_lt m.next m.limit ≡ b → m.next ≤ m.limit → (cond b (with_draw m w) m).next ≤ (cond b (with_draw m w) m).limit
limit_draw m w true is h = grind (arith, nat_tests)
limit_draw m w false is h = h

limit_one : (m : Machine) (e : Event) → m.next ≤ m.limit → (after m e).next ≤ (after m e).limit
limit_one m (Draw w) h = limit_draw m w (nat_lt m.next m.limit) refl h
limit_one m (Post w n) h = h
limit_one m (Look w) h = h
limit_one m (Fail w) h = h

limit_same : (m : Machine) (e : Event) → (after m e).limit ≡ m.limit
limit_same m (Draw w) = let f : (b : Bool) → (cond b (with_draw m w) m).limit ≡ m.limit = λ b. elim b as (λ b. (cond b (with_draw m w) m).limit ≡ m.limit) [ true ↦ refl | false ↦ refl ] in f (nat_lt m.next m.limit)
limit_same m (Post w n) = refl
limit_same m (Look w) = refl
limit_same m (Fail w) = refl

-- the next number never passes the limit, which stays
pub within : (m : Machine) (es : List Event) → m.next ≤ m.limit → (after_all m es).next ≤ m.limit
within m [] h = h
within m (e ∷ es) h = let P : ℕ → Type 0 = λ k. (after_all (after m e) es).next ≤ k in subst P (limit_same m e) (within (after m e) es (limit_one m e h))
