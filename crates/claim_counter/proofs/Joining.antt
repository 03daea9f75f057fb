-- Seats that are split from a first seat, do their work, and are joined into it again.
use Rattle.std.proofs.Common.{◌^◌, ◌≡◌, ℕ, zero, suc, ◌+◌, ◌<◌, ◌≤◌, Bool, true, false, List, [], ◌∷◌, ◌++◌, length, get_or, sym, refl, ap, ◌∙◌, subst, arith, length-append}
use Rattle.std.specs.List.{sum_by, All}
use Rattle.std.proofs.lemmas.List.Sums.{sum_by-cons, sum_by_push}
use Rattle.std.proofs.lemmas.List.Elements.{All-push}
use Rattle.std.proofs.lemmas.Bool.{false≢true, or_parts}
use Rattle.campaign_core.specs.Machines.{times, once_below}
use Rattle.claim_counter.specs.declared.view.View.{View}
use Rattle.claim_counter.specs.Views.{joined_views, less_one, with_one, with_claim, with_none}
use Rattle.claim_counter.specs.Seats.{Counter, Seated, IsOf, Closed}
use Rattle.claim_counter.specs.Crews.{shares_of, MayDraw, IsDone, IsCrew}
use Rattle.claim_counter.proofs.Views.{times-append, claimed_self}
use Rattle.std.proofs.Math.Seq.{get_or-append_seam}

get_front : {X : Type 0} (xs : List X) (w : X) (k : ℕ) (d : X) → k < length xs → get_or (xs ++ w ∷ []) k d ≡ get_or xs k d
get_front [] w k d h = absurd (omega arith)
get_front (x ∷ xs) w zero d h = refl
get_front (x ∷ xs) w (suc k) d h = get_front xs w k d (omega arith)

-- what holds of each holds of all but the last, and of the last
pub all_front : {X : Type 0} (P : X → Type 0) (xs : List X) (w : X) → All P (xs ++ w ∷ []) → All P xs
all_front P xs w h k d less = subst P (get_front xs w k d less) (h k d (omega (arith, length-append xs (w ∷ []))))

pub all_last : {X : Type 0} (P : X → Type 0) (xs : List X) (w : X) → All P (xs ++ w ∷ []) → P w
all_last P xs w h = subst P (get_or-append_seam xs w [] w) (h (length xs) w (omega (arith, length-append xs (w ∷ []))))

-- the sums of two lists that are the same at each place
pub sum_each : {X : Type 0} (f : X → ℕ) (xs ys : List X) → length ys ≡ length xs → ((i : ℕ) (d : X) → i < length xs → f (get_or ys i d) ≡ f (get_or xs i d)) → sum_by f ys ≡ sum_by f xs
sum_each f [] [] len each = refl
sum_each f [] (y ∷ ys) len each = absurd (omega arith)
sum_each f (x ∷ xs) [] len each = absurd (omega arith)
sum_each f (x ∷ xs) (y ∷ ys) len each =
    let a = each 0 x (omega arith) in
    let b = sum_each f xs ys (omega arith) (λ i d h. each (suc i) d (omega arith)) in
    omega (arith, sum_by-cons f x xs, sum_by-cons f y ys)

-- one more seat is split from the first
pub splits_one : (c : Counter) (first now seat : Seated) (seats : List Seated) → IsCrew c first seats → 2 ≤ first.view.share → now.table ≡ first.table → now.view ≡ less_one first.view → seat.table ≡ first.table → seat.view ≡ with_one first.view → IsCrew c now (seats ++ seat ∷ [])
splits_one c first now seat seats h two table view table2 view2 =
    let P : Seated × Seated → Type 0 = λ p. IsCrew c p.0 (seats ++ p.1 ∷ []) in
    let v = first.view in
    let a : Seated = record { table = first.table; view = less_one v } in
    let b : Seated = record { table = first.table; view = with_one v } in
    let sum = sum_by_push (λ (p : Seated). p.view.share) seats b in
    let shares = h.shares in
    let same : ◌≡◌ {A = Seated × Seated} (a, b) (now, seat) = λ i. (record { table = sym table i; view = sym view i }, record { table = sym table2 i; view = sym view2 i }) in
    subst P same (record {
      of = record { table = h.of.table; todo = h.of.todo; share = omega arith; opened = h.of.opened };
      nones = h.nones;
      all = h.all;
      ready = All-push (λ p. MayDraw c p) seats b h.ready (record { of = record { table = h.of.table; todo = h.of.todo; share = omega arith; opened = refl }; first = refl; free = refl; all = λ n. refl });
      shares = omega arith;
    })

-- a ready seat is joined into the first again
pub joins_ready : (c : Counter) (first now : Seated) (seats rest : List Seated) (p : Seated) → IsCrew c first seats → seats ≡ rest ++ p ∷ [] → now.table ≡ first.table → now.view ≡ joined_views first.view p.view → IsCrew c now rest
joins_ready c first now seats rest p h e table view =
    let ready : All (λ p. MayDraw c p) (rest ++ p ∷ []) = subst (λ l. All (λ p. MayDraw c p) l) e h.ready in
    let mine = all_last (λ p. MayDraw c p) rest p ready in
    let v = first.view in
    let u = p.view in
    let shares = h.shares in
    let sum : shares_of seats ≡ shares_of rest + u.share = ap shares_of e ∙ sum_by_push (λ (p : Seated). p.view.share) rest p in
    let P : Seated → Type 0 = λ p. IsCrew c p rest in
    let same : record { table = first.table; view = joined_views v u } ≡ now = λ i. record { table = sym table i; view = sym view i } in
    subst P same (record {
      of = record { table = h.of.table; todo = h.of.todo; share = let a = h.of.share in omega arith; opened = refl };
      nones = let a = h.nones in let b = mine.first in omega arith;
      all = λ n. omega (arith, h.all n, mine.all n, times-append n v.claims u.claims, times-append n v.posts u.posts);
      ready = all_front (λ p. MayDraw c p) rest p ready;
      shares = omega arith;
    })

-- a first seat without others may draw
pub ready_alone : (c : Counter) (first : Seated) → IsCrew c first [] → first.view.holds ≡ false → MayDraw c first
ready_alone c first h free = record { of = h.of; first = h.nones; free = free; all = h.all }

-- a ready seat whose draw is answered None is done
pub done_at_none : (c : Counter) (old now : Seated) → MayDraw c old → now.table ≡ old.table → now.view ≡ with_none old.view → IsDone c now
done_at_none c old now r table view =
    let P : Seated → Type 0 = λ p. IsDone c p in
    let same : record { table = old.table; view = with_none old.view } ≡ now = λ i. record { table = sym table i; view = sym view i } in
    subst P same (record { of = record { table = r.of.table; todo = r.of.todo; share = r.of.share; opened = r.of.opened }; free = r.free; none = λ _. omega arith; all = λ _. r.all })

-- a number that a ready seat drew is claimed and not posted
pub drawn_once : (c : Counter) (old : Seated) (v : View) (n : ℕ) → MayDraw c old → times n old.view.claims ≡ 0 → v ≡ with_claim old.view n → (0 < times n v.claims) × (times n v.posts ≡ 0)
drawn_once c old v n r none_ e =
    let P : View → Type 0 = λ v. (0 < times n v.claims) × (times n v.posts ≡ 0) in
    subst P (sym e) (claimed_self n old.view.claims, sym (r.all n) ∙ none_)

-- what the first seat has taken in, of `many` seats, and those that are left
pub record Joined (c : Counter) (many : ℕ) (first : Seated) (left : List Seated) : Type 0 where
  pub of : IsOf c first
  pub free : first.view.holds ≡ false
  pub all : first.view.fails ≡ false → (n : ℕ) → times n first.view.claims ≡ times n first.view.posts
  pub ready : All (λ p. IsDone c p) left
  pub shares : first.view.share + shares_of left ≡ 2 ^ 32
  pub none : first.view.fails ≡ false → length left < many → 0 < first.view.nones

-- nothing was joined yet
pub starts_joined : (c : Counter) (first : Seated) (was now : List Seated) → IsCrew c first was → first.view.holds ≡ false → All (λ p. IsDone c p) now → shares_of now ≡ shares_of was → Joined c (length now) first now
starts_joined c first was now h free done shares = record { of = h.of; free = free; all = λ _. h.all; ready = done; shares = let a = h.shares in omega arith; none = λ _ less. absurd (omega arith) }

-- the last seat is joined
pub joins_one : (c : Counter) (many : ℕ) (first now : Seated) (left rest : List Seated) (p : Seated) → Joined c many first left → left ≡ rest ++ p ∷ [] → now.table ≡ first.table → now.view ≡ joined_views first.view p.view → Joined c many now rest
joins_one c many first now left rest p h e table view =
    let ready : All (λ p. IsDone c p) (rest ++ p ∷ []) = subst (λ l. All (λ p. IsDone c p) l) e h.ready in
    let done = all_last (λ p. IsDone c p) rest p ready in
    let v = first.view in
    let u = p.view in
    let shares = h.shares in
    let sum : shares_of left ≡ shares_of rest + u.share = ap shares_of e ∙ sum_by_push (λ (p : Seated). p.view.share) rest p in
    let P : Seated → Type 0 = λ p. Joined c many p rest in
    let same : record { table = first.table; view = joined_views v u } ≡ now = λ i. record { table = sym table i; view = sym view i } in
    subst P same (record {
      of = record { table = h.of.table; todo = h.of.todo; share = let a = h.of.share in omega arith; opened = refl };
      free = h.free;
      all = λ fine n. omega (arith, h.all (or_parts v.fails u.fails fine).0 n, done.all (or_parts v.fails u.fails fine).1 n, times-append n v.claims u.claims, times-append n v.posts u.posts);
      ready = all_front (λ p. IsDone c p) rest p ready;
      shares = omega arith;
      none = λ fine less. let a = done.none (or_parts v.fails u.fails fine).1 in omega arith;
    })

-- the only seat, once it is done
pub joined_alone : (c : Counter) (p : Seated) → IsDone c p → p.view.share ≡ 2 ^ 32 → Joined c 1 p []
joined_alone c p h all = record { of = h.of; free = h.free; all = h.all; ready = λ k d less. absurd (omega arith); shares = omega arith; none = λ fine less. h.none fine }

fine_seat : {V : Type 0} (list : V → List ℕ) (failed : V → Bool) (todo : ℕ) (v : View) (x : V) (b : Bool) → v.fails ≡ b → Closed list failed todo v x → failed x ≡ false → v.fails ≡ false
fine_seat list failed todo v x true is c fine = absurd (false≢true (sym fine ∙ c.fails is))
fine_seat list failed todo v x false is c fine = is

-- once all were joined, a value that hasn't failed has each number once
pub finished : {V : Type 0} (list : V → List ℕ) (failed : V → Bool) (c : Counter) (many : ℕ) (first : Seated) (left : List Seated) (x : V) → Joined c many first left → left ≡ [] → 0 < many → Closed list failed c.todo first.view x → failed x ≡ false → (n : ℕ) → times n (list x) ≡ once_below n c.todo
finished list failed c many first left x h e some_ closed fine n =
    let ok = fine_seat list failed c.todo first.view x first.view.fails refl closed fine in
    let len : length left ≡ 0 = ap length e in
    closed.posts n ∙ (sym (h.all ok n) ∙ closed.claims (h.none ok (omega arith)) n)
