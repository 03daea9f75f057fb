-- What a worker's seat still owes to post, as it draws and posts.
use Rattle.std.proofs.Common.{◌≡◌, ℕ, suc, ◌+◌, ◌<◌, ◌==◌, Bool, false, cond, List, [], ◌∷◌, ◌++◌, map, refl, sym, ap, subst, ◌∙◌, inl, inr, arith}
use Rattle.std.proofs.lemmas.Bool.{cases_eq, ne_eqb}
use Rattle.std.proofs.lemmas.Bool.Decides.{nat_tests}
use Rattle.std.proofs.lemmas.List.{map-append}
use Rattle.std.proofs.lemmas.List.Elements.{All-push}
use Rattle.campaign_core.specs.Machines.{times}
use Rattle.metric_sums.specs.declared.Sums.{Sums}
use Rattle.claim_counter.specs.declared.view.View.{View}
use Rattle.claim_counter.specs.Views.{with_claim, with_none, taking, noting, giving}
use Rattle.claim_counter.specs.Seats.{Counter, Seated}
use Rattle.claim_counter.specs.Crews.{MayDraw, IsDone}
use Rattle.claim_counter.proofs.Views.{times-snoc}
use Rattle.campaign_board.specs.declared.entry.Look.{Look}
use Rattle.campaign_board.specs.Boards.{Start}
use Rattle.campaign_board.specs.Missing.{IsMissing, claim_number}
use Rattle.campaign_board.specs.Sharing.{IsDrawn, MayPost, IsPosted, IsLook}
use Rattle.campaign_workers.specs.Rounds.{Owes}
use Rattle.claim_counter.proofs.Few.{times-cons}

-- the seat is the table's, with this view
pub same_seat : (now : Seated) (table : _) (view : View) → now.table ≡ table → now.view ≡ view → record { table = table; view = view } ≡ now
same_seat now table view a b = λ i. record { table = sym a i; view = sym b i }

pub times_self : (x : ℕ) (xs : List ℕ) → times x (x ∷ xs) ≡ 1 + times x xs
times_self x xs = grind (arith, nat_tests, times-cons x x xs)

-- a number that is drawn for the first time is drawn once
drawn_first : (n : ℕ) (claims : List ℕ) → times n claims ≡ 0 → times n (claims ++ n ∷ []) ≡ 1
drawn_first n claims none = grind (arith, nat_tests, times-snoc n claims n)

-- a number that was drawn once isn't drawn again
drawn_before : (m n : ℕ) (claims : List ℕ) → times m claims ≡ 1 → times n claims ≡ 0 → times m (claims ++ n ∷ []) ≡ 1
drawn_before m n claims once none = elim (cases_eq n m) as (λ _. times m (claims ++ n ∷ []) ≡ 1) [
  | inl same ↦ (let both : times n claims ≡ times m claims = ap (λ x. times x claims) same in absurd (omega arith))
  | inr apart ↦
      (let skip : cond {A = ℕ} (n == m) 1 0 ≡ 0 = ap (λ (t : Bool). cond {A = ℕ} t 1 0) (ne_eqb n m apart) in omega (arith, times-snoc m claims n, skip))
]

-- one more batch is owed
times_owed : (o : Start) (owed : List ℕ) (batch x : ℕ) → times x (map (claim_number o) (owed ++ batch ∷ [])) ≡ times x (map (claim_number o) owed) + cond (claim_number o batch == x) 1 0
times_owed o owed batch x = ap (times x) (map-append (claim_number o) owed (batch ∷ [])) ∙ times-snoc x (map (claim_number o) owed) (claim_number o batch)

-- a ready seat owes nothing
pub owes_nothing : (c : Counter) (o : Start) (p : Seated) → MayDraw c p → Owes c o p []
owes_nothing c o p ready = record {
  of = ready.of;
  free = ready.free;
  due = λ k d less. absurd (omega arith);
  once = λ k d less. absurd (omega arith);
  all = λ n. omega (arith, ready.all n);
}

-- and the other way round, where no draw was answered None
pub ready_again : (c : Counter) (o : Start) (p : Seated) → Owes c o p [] → p.view.nones ≡ 0 → MayDraw c p
ready_again c o p h none = record { of = h.of; first = none; free = h.free; all = λ n. omega (arith, h.all n) }

-- a batch that was drawn is owed
pub owes_drawn : (c : Counter) (o : Start) (old now : Seated) (owed : List ℕ) (batch : ℕ) → Owes c o old owed → now.table ≡ old.table → IsDrawn o old.view now.view batch
    → Owes c o now (owed ++ batch ∷ [])
owes_drawn c o old now owed batch h same drawn =
    let n : ℕ = claim_number o batch in
    let v = old.view in
    subst (λ p. Owes c o p (owed ++ batch ∷ [])) (same_seat now old.table (with_claim v n) same drawn.view) (record {
      of = record { table = h.of.table; todo = h.of.todo; share = h.of.share; opened = h.of.opened };
      free = h.free;
      due = All-push (IsMissing o) owed batch h.due drawn.due;
      once = All-push (λ b. times (claim_number o b) (v.claims ++ n ∷ []) ≡ 1) owed batch (λ k d less. drawn_before _ n v.claims (h.once k d less) drawn.new) (drawn_first n v.claims drawn.new);
      all = λ x. omega (arith, h.all x, times-snoc x v.claims n, times_owed o owed batch x);
    })

-- a draw that was answered None leaves what is owed
pub owes_at_none : (c : Counter) (o : Start) (old now : Seated) (owed : List ℕ) → Owes c o old owed → now.table ≡ old.table → now.view ≡ with_none old.view → Owes c o now owed
owes_at_none c o old now owed h same none =
    subst (λ p. Owes c o p owed) (same_seat now old.table (with_none old.view) same none) (record {
      of = record { table = h.of.table; todo = h.of.todo; share = h.of.share; opened = h.of.opened };
      free = h.free;
      due = h.due;
      once = h.once;
      all = h.all;
    })

-- the first batch that is owed may be posted
pub may_post_first : (c : Counter) (o : Start) (p : Seated) (batch : ℕ) (rest : List ℕ) → Owes c o p (batch ∷ rest) → MayPost o p.view batch
may_post_first c o p batch rest h =
    let n : ℕ = claim_number o batch in
    let once : times n p.view.claims ≡ 1 = h.once 0 batch (omega arith) in
    record {
      due = h.due 0 batch (omega arith);
      drawn = omega arith;
      new = omega (arith, once, h.all n, times_self n (map (claim_number o) rest));
    }

-- once it was posted, the others are owed
pub owes_rest : (c : Counter) (o : Start) (old now : Seated) (batch : ℕ) (rest : List ℕ) (sums : Sums) → Owes c o old (batch ∷ rest) → now.table ≡ old.table → IsPosted o old.view now.view batch sums
    → Owes c o now rest
owes_rest c o old now batch rest sums h same posted =
    let n : ℕ = claim_number o batch in
    let v = old.view in
    subst (λ p. Owes c o p rest) (same_seat now old.table (giving (noting (taking v posted.history false) n) false) same posted.view) (record {
      of = record { table = h.of.table; todo = h.of.todo; share = h.of.share; opened = h.of.opened };
      free = refl;
      due = λ k d less. h.due (suc k) d (omega arith);
      once = λ k d less. h.once (suc k) d (omega arith);
      all = λ x. omega (arith, h.all x, times-snoc x v.posts n, times-cons x n (map (claim_number o) rest));
    })

-- a draw was answered None, nothing is owed, and the seat looked
pub done_at_look : (c : Counter) (o : Start) (old now : Seated) (look : Look) → Owes c o old [] → 0 < old.view.nones → now.table ≡ old.table → IsLook o old.view now.view look → IsDone c now
done_at_look c o old now look h none same looked =
    subst (IsDone c) (same_seat now old.table (giving (taking old.view looked.history look.stopped) look.stopped) same looked.view) (record {
      of = record { table = h.of.table; todo = h.of.todo; share = h.of.share; opened = h.of.opened };
      free = refl;
      none = λ _. none;
      all = λ _ n. omega (arith, h.all n);
    })
