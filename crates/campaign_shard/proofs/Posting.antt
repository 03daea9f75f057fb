-- The posts of a part, draw by draw, and what is closed.
use Rattle.std.proofs.Common.{◌≡◌, ◌≢◌, ℕ, ◌+◌, ◌^◌, ◌<◌, ◌==◌, Bool, true, false, cond, List, [], ◌∷◌, ◌++◌, length, refl, ap, sym, subst, ◌∙◌, arith}
use Rattle.std.specs.Prelude.{nat_lt}
use Rattle.std.proofs.lemmas.Bool.{ne_eqb, eq-eqb}
use Rattle.std.proofs.lemmas.Bool.Decides.{nat_tests}
use Rattle.metric_sums.specs.declared.Sums.{Sums}
use Rattle.campaign_core.specs.Machines.{times, once_below}
use Rattle.claim_counter.specs.declared.view.View.{View}
use Rattle.claim_counter.specs.Views.{starting_view, with_claim, giving}
use Rattle.claim_counter.specs.Seats.{Counter, Seated}
use Rattle.claim_counter.proofs.Views.{times-snoc, claimed_self}
use Rattle.claim_counter.proofs.Undrawn.{undrawn, undrawn_less}
use Rattle.campaign_board.specs.Boards.{Start}
use Rattle.campaign_board.specs.Missing.{batches_missing, claim_number}
use Rattle.campaign_board.specs.Sharing.{IsDrawn, MayPost, IsPosted}
use Rattle.campaign_board.proofs.Numbering.{batch_back, same_number}
use Rattle.result_merge.specs.Parts.{is_of_part}
use Rattle.campaign_shard.specs.PartSeats.{counted_in, HasPostedPart, IsAtPart, UnpostedDrawsLeaveNoRow}
use Rattle.campaign_shard.specs.PartSteps.{IsOpening}

once_lower : (n m : ℕ) → n < m → once_below n m ≡ 1
once_lower n m lt = let test : nat_lt n m ≡ true = grind (arith, lt) in rw test refl

not_failed : (b failed : Bool) → (b ≡ true → failed ≡ true) → failed ≡ false → b ≡ false
not_failed true failed h e = let bad : true ≡ false = sym (h refl) ∙ e in absurd (cc)
not_failed false failed h e = refl

pub no_row : UnpostedDrawsLeaveNoRow
no_row c o part parts todo p rows failed worked closed = record {
  starts = closed.starts;
  due = closed.due;
  own = λ fine batch due. (
      let quiet : p.view.fails ≡ false = not_failed p.view.fails failed closed.closed.fails fine in
      let lower : claim_number o batch < todo = subst (λ m. claim_number o batch < m) (sym closed.todo_is) (batch_back o batch due).0 in
      let claimed : times (claim_number o batch) p.view.claims ≡ 1 = closed.closed.claims (worked.none quiet) (claim_number o batch) ∙ once_lower (claim_number o batch) todo lower in
      closed.posts batch due ∙ worked.posted quiet batch due ∙ ap (counted_in part parts batch) claimed);
}

-- ---- the loop

no_counted : (b : Bool) → 0 ≡ cond {A = ℕ} b 0 0
no_counted true = refl
no_counted false = refl

-- the seat begins: it has the turn's board behind it, has drawn nothing and posted nothing
pub begins : (c : Counter) (o : Start) (part parts : ℕ) (first now : Seated) (failed : Bool) → IsOpening c first → now.table ≡ first.table → now.view ≡ giving first.view failed
    → IsAtPart c o part parts now × (now.view.nones ≡ 0)
begins c o part parts first now failed h table given =
    let view : now.view ≡ giving (starting_view c.todo) failed = given ∙ ap (λ (v : View). giving v failed) h.view in
    let share : now.view.share ≡ 2 ^ 32 = ap (λ (v : View). v.share) view in (
      record {
        of = record {
          table = table ∙ h.table;
          todo = ap (λ (v : View). v.todo) view;
          share = omega (arith, share);
          opened = ap (λ (v : View). v.opened) view;
        };
        free = ap (λ (v : View). v.holds) view;
        all = share;
        posted = λ batch due. (
            ap (λ (v : View). times (claim_number o batch) v.posts) view ∙ no_counted (is_of_part part parts batch)
            ∙ ap (λ (v : View). counted_in part parts batch (times (claim_number o batch) v.claims)) (sym view));
      },
      ap (λ (v : View). v.nones) view,
    )

-- one more of these numbers
one_more : (xs : List ℕ) (n : ℕ) → times n (xs ++ n ∷ []) ≡ times n xs + 1
one_more xs n = times-snoc n xs n ∙ ap (λ (b : Bool). times n xs + cond {A = ℕ} b 1 0) (eq-eqb n n refl)

no_more : (xs : List ℕ) (n x : ℕ) → n ≢ x → times x (xs ++ n ∷ []) ≡ times x xs
no_more xs n x ne = times-snoc x xs n ∙ ap (λ (b : Bool). times x xs + cond {A = ℕ} b 1 0) (ne_eqb n x ne) ∙ omega arith

none_counted : (part parts batch count : ℕ) → is_of_part part parts batch ≡ false → counted_in part parts batch count ≡ 0
none_counted part parts batch count e = rw e refl

all_counted : (part parts batch count : ℕ) → is_of_part part parts batch ≡ true → counted_in part parts batch count ≡ count
all_counted part parts batch count e = rw e refl

-- a batch of another part was drawn
pub skipped : (o : Start) (part parts : ℕ) (old now : View) (batch : ℕ) → HasPostedPart o part parts old → IsDrawn o old now batch → is_of_part part parts batch ≡ false
    → HasPostedPart o part parts now
skipped o part parts old now batch h drawn out other due = by_number (claim_number o batch == claim_number o other) refl
  where
    by_number : (same : Bool) → (claim_number o batch == claim_number o other) ≡ same
        → times (claim_number o other) now.posts ≡ counted_in part parts other (times (claim_number o other) now.claims)
    by_number true t =
        let numbers : claim_number o batch ≡ claim_number o other = grind (arith, nat_tests) in
        let here : batch ≡ other = same_number o batch other drawn.due due numbers in
        let away : is_of_part part parts other ≡ false = subst (λ b. is_of_part part parts b ≡ false) here out in
        ap (λ (v : View). times (claim_number o other) v.posts) drawn.view ∙ h other due
        ∙ none_counted part parts other (times (claim_number o other) old.claims) away ∙ sym (none_counted part parts other (times (claim_number o other) now.claims) away)
    by_number false t =
        let apart : claim_number o batch ≢ claim_number o other = grind (arith, nat_tests) in
        let claims : times (claim_number o other) now.claims ≡ times (claim_number o other) old.claims =
        ap (λ (v : View). times (claim_number o other) v.claims) drawn.view ∙ no_more old.claims (claim_number o batch) (claim_number o other) apart in
        ap (λ (v : View). times (claim_number o other) v.posts) drawn.view ∙ h other due ∙ ap (counted_in part parts other) (sym claims)

-- a batch of the part was drawn: it may be posted
pub may_post_own : (o : Start) (part parts : ℕ) (old now : View) (batch : ℕ) → HasPostedPart o part parts old → IsDrawn o old now batch → is_of_part part parts batch ≡ true
    → MayPost o now batch
may_post_own o part parts old now batch h drawn own =
    let n : ℕ = claim_number o batch in
    let claims : times n now.claims ≡ times n old.claims + 1 = ap (λ (v : View). times n v.claims) drawn.view ∙ one_more old.claims n in
    let posts : times n now.posts ≡ 0 = ap (λ (v : View). times n v.posts) drawn.view ∙ h batch drawn.due ∙ all_counted part parts batch (times n old.claims) own ∙ drawn.new in
    record { due = drawn.due; drawn = omega (arith, claims); new = posts }

-- and it was posted
pub posted_own : (o : Start) (part parts : ℕ) (old mid now : View) (batch : ℕ) → HasPostedPart o part parts old → IsDrawn o old mid batch → is_of_part part parts batch ≡ true
    → now.claims ≡ mid.claims → now.posts ≡ mid.posts ++ claim_number o batch ∷ [] → HasPostedPart o part parts now
posted_own o part parts old mid now batch h drawn own claims posts other due = by_number (claim_number o batch == claim_number o other) refl
  where
    by_number : (same : Bool) → (claim_number o batch == claim_number o other) ≡ same
        → times (claim_number o other) now.posts ≡ counted_in part parts other (times (claim_number o other) now.claims)
    by_number true t =
        let numbers : claim_number o batch ≡ claim_number o other = grind (arith, nat_tests) in
        let here : batch ≡ other = same_number o batch other drawn.due due numbers in
        let n : ℕ = claim_number o batch in
        let claimed : times n now.claims ≡ times n old.claims + 1 = ap (times n) (claims ∙ ap (λ (v : View). v.claims) drawn.view) ∙ one_more old.claims n in
        let sent : times n now.posts ≡ times n old.posts + 1 = ap (times n) (posts ∙ ap (λ (v : View). v.posts ++ n ∷ []) drawn.view) ∙ one_more old.posts n in
        let before : times n old.posts ≡ times n old.claims = h batch drawn.due ∙ all_counted part parts batch (times n old.claims) own in
        let at_batch : times n now.posts ≡ counted_in part parts batch (times n now.claims) =
        sent ∙ ap (λ k. k + 1) before ∙ sym claimed ∙ sym (all_counted part parts batch (times n now.claims) own) in
        subst (λ b. times (claim_number o b) now.posts ≡ counted_in part parts b (times (claim_number o b) now.claims)) here at_batch
    by_number false t =
        let apart : claim_number o batch ≢ claim_number o other = grind (arith, nat_tests) in
        let m : ℕ = claim_number o other in
        let claimed : times m now.claims ≡ times m old.claims = ap (times m) (claims ∙ ap (λ (v : View). v.claims) drawn.view) ∙ no_more old.claims (claim_number o batch) m apart in
        let sent : times m now.posts ≡ times m old.posts = ap (times m) (posts ∙ ap (λ (v : View). v.posts ++ claim_number o batch ∷ []) drawn.view) ∙ no_more old.posts (claim_number o batch) m apart in
        sent ∙ h other due ∙ ap (counted_in part parts other) (sym claimed)

-- a draw leaves fewer batches that the seat may still draw, so that its draws come to an end
pub draws_less : (o : Start) (old mid : View) (claims : List ℕ) (batch : ℕ) → IsDrawn o old mid batch → claims ≡ mid.claims → undrawn (length (batches_missing o)) claims < undrawn (length (batches_missing o)) old.claims
draws_less o old mid claims batch drawn same =
    let n : ℕ = claim_number o batch in
    let now : claims ≡ old.claims ++ n ∷ [] = same ∙ ap (λ (v : View). v.claims) drawn.view in
    subst (λ l. undrawn (length (batches_missing o)) l < undrawn (length (batches_missing o)) old.claims) (sym now)
    (undrawn_less (length (batches_missing o)) n old.claims (old.claims ++ n ∷ []) (batch_back o batch drawn.due).0 drawn.new (claimed_self n old.claims) (λ x. omega (arith, times-snoc x old.claims n)))

-- after a draw of another part's batch the seat goes on
pub goes_past : (c : Counter) (o : Start) (part parts : ℕ) (old now : Seated) (batch : ℕ) → IsAtPart c o part parts old → now.table ≡ old.table → IsDrawn o old.view now.view batch
    → is_of_part part parts batch ≡ false → IsAtPart c o part parts now
goes_past c o part parts old now batch h table drawn out =
    let held : now.view.holds ≡ old.view.holds = ap (λ (v : View). v.holds) drawn.view in
    let share : now.view.share ≡ old.view.share = ap (λ (v : View). v.share) drawn.view in
    let todo : now.view.todo ≡ old.view.todo = ap (λ (v : View). v.todo) drawn.view in
    let opened : now.view.opened ≡ old.view.opened = ap (λ (v : View). v.opened) drawn.view in
    record {
      of = record { table = table ∙ h.of.table; todo = todo ∙ h.of.todo; share = (let some = h.of.share in omega (arith, some, share)); opened = opened ∙ h.of.opened };
      free = held ∙ h.free;
      all = share ∙ h.all;
      posted = skipped o part parts old.view now.view batch h.posted drawn out;
    }

-- after a post of its own the seat goes on
pub goes_on : (c : Counter) (o : Start) (part parts : ℕ) (old mid now : Seated) (batch : ℕ) (sums : Sums) → IsAtPart c o part parts old → mid.table ≡ old.table → now.table ≡ mid.table
    → IsDrawn o old.view mid.view batch → is_of_part part parts batch ≡ true → IsPosted o mid.view now.view batch sums → IsAtPart c o part parts now
goes_on c o part parts old mid now batch sums h table_mid table drawn own posted =
    let share_mid : mid.view.share ≡ old.view.share = ap (λ (v : View). v.share) drawn.view in
    let todo_mid : mid.view.todo ≡ old.view.todo = ap (λ (v : View). v.todo) drawn.view in
    let opened_mid : mid.view.opened ≡ old.view.opened = ap (λ (v : View). v.opened) drawn.view in
    let share : now.view.share ≡ mid.view.share = ap (λ (v : View). v.share) posted.view in
    let todo : now.view.todo ≡ mid.view.todo = ap (λ (v : View). v.todo) posted.view in
    let held : now.view.holds ≡ false = ap (λ (v : View). v.holds) posted.view in
    let claims : now.view.claims ≡ mid.view.claims = ap (λ (v : View). v.claims) posted.view in
    let posts : now.view.posts ≡ mid.view.posts ++ claim_number o batch ∷ [] = ap (λ (v : View). v.posts) posted.view in
    let opened : now.view.opened ≡ mid.view.opened = ap (λ (v : View). v.opened) posted.view in
    record {
      of = record {
        table = table ∙ table_mid ∙ h.of.table;
        todo = todo ∙ todo_mid ∙ h.of.todo;
        share = (let some = h.of.share in omega (arith, some, share, share_mid));
        opened = opened ∙ opened_mid ∙ h.of.opened;
      };
      free = held;
      all = share ∙ share_mid ∙ h.all;
      posted = posted_own o part parts old.view mid.view now.view batch h.posted drawn own claims posts;
    }

-- no more is drawn once a draw was answered None, and so the seat was not until then
pub none_yet : (old now : View) (n : ℕ) → now ≡ with_claim old n → old.nones ≡ 0 → now.nones ≡ 0
none_yet old now n e h = ap (λ (v : View). v.nones) e ∙ h
