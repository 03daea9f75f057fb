-- A round, draw by draw and post by post.
use Rattle.std.proofs.Common.{◌≡◌, ◌≢◌, ℕ, zero, suc, ◌+◌, ◌<◌, ◌≤◌, List, [], ◌∷◌, ◌++◌, length, get_or, set, drop, map, refl, sym, ap, subst, ◌∙◌, arith, append_assoc, get_or-set_other, length-append}
use Rattle.std.specs.Prelude.{Option, None, Some}
use Rattle.std.proofs.lemmas.List.{append-nil, map-append}
use Rattle.metric_sums.specs.declared.Sums.{Sums}
use Rattle.claim_counter.specs.declared.view.View.{View}
use Rattle.claim_counter.specs.Seats.{Counter, Seated}
use Rattle.claim_counter.specs.Crews.{MayDraw}
use Rattle.campaign_plan.specs.Analysis.{Analysis}
use Rattle.campaign_board.specs.declared.entry.Entry.{Entry}
use Rattle.campaign_board.specs.Boards.{Start, board_entry}
use Rattle.campaign_board.specs.Missing.{claim_number}
use Rattle.campaign_board.specs.Sharing.{IsDrawn, MayPost, IsPosted}
use Rattle.campaign_workers.specs.Truth.{true_entry, HasTrueEntries}
use Rattle.campaign_workers.specs.Rounds.{drawn_in, numbers_in, Owes}
use Rattle.campaign_workers.proofs.Owing.{owes_nothing, owes_drawn, may_post_first, owes_rest}

-- there is no batch from this place on
abbrev IsBlankFrom : ℕ → List (Option ℕ) → Type 0
IsBlankFrom i batches = (k : ℕ) → i ≤ k → get_or batches k None ≡ None

-- a list without a batch
blank_draws : (batches : List (Option ℕ)) → IsBlankFrom 0 batches → drawn_in batches ≡ []
blank_draws [] blank = refl
blank_draws (None ∷ batches) blank = blank_draws batches (λ k le. blank (suc k) (omega arith))
blank_draws (Some batch ∷ batches) blank = cc (blank 0 (omega arith))

-- one more batch, behind those that were drawn
set_draws : (batches : List (Option ℕ)) (i batch : ℕ) → i < length batches → IsBlankFrom i batches → drawn_in (set batches i (Some batch)) ≡ drawn_in batches ++ batch ∷ []
set_draws [] i batch less blank = absurd (omega arith)
set_draws (None ∷ batches) zero batch less blank = let none : drawn_in batches ≡ [] = blank_draws batches (λ k le. blank (suc k) (omega arith)) in rw none
set_draws (Some other ∷ batches) zero batch less blank = cc (blank 0 (omega arith))
set_draws (None ∷ batches) (suc i) batch less blank = set_draws batches i batch (omega arith) (λ k le. blank (suc k) (omega arith))
set_draws (Some other ∷ batches) (suc i) batch less blank = ap (λ rest. other ∷ rest) (set_draws batches i batch (omega arith) (λ k le. blank (suc k) (omega arith)))

-- a seat in the course of a round's draws, before the one for this place
pub record HasDrawn (c : Counter) (o : Start) (old now : Seated) (batches : List (Option ℕ)) (i : ℕ) : Type 0 where
  pub owes : Owes c o now (drawn_in batches)
  pub claims : now.view.claims ≡ old.view.claims ++ numbers_in o batches
  pub nones : now.view.nones ≡ 0
  pub share : now.view.share ≡ old.view.share
  pub blank : IsBlankFrom i batches
  pub full : length (drawn_in batches) ≡ i

blank_four : IsBlankFrom 0 (None ∷ None ∷ None ∷ None ∷ [])
blank_four zero le = refl
blank_four (suc zero) le = refl
blank_four (suc (suc zero)) le = refl
blank_four (suc (suc (suc zero))) le = refl
blank_four (suc (suc (suc (suc k)))) le = refl

-- nothing was drawn yet
pub begins_round : (c : Counter) (o : Start) (p : Seated) → MayDraw c p → HasDrawn c o p p (None ∷ None ∷ None ∷ None ∷ []) 0
begins_round c o p ready = record { owes = owes_nothing c o p ready; claims = sym (append-nil p.view.claims); nones = ready.first; share = refl; blank = blank_four; full = refl }

-- one more batch was drawn
pub draws_one : (c : Counter) (o : Start) (old now next : Seated) (batches : List (Option ℕ)) (i batch : ℕ) → HasDrawn c o old now batches i → i < length batches → next.table ≡ now.table
    → IsDrawn o now.view next.view batch → HasDrawn c o old next (set batches i (Some batch)) (i + 1)
draws_one c o old now next batches i batch h less same drawn =
    let n : ℕ = claim_number o batch in
    let more = set_draws batches i batch less h.blank in
    record {
      owes = subst (Owes c o next) (sym more) (owes_drawn c o now next (drawn_in batches) batch h.owes same drawn);
      claims =
          ap (λ (v : View). v.claims) drawn.view ∙ ap (λ claims. claims ++ n ∷ []) h.claims ∙ append_assoc old.view.claims (numbers_in o batches) (n ∷ [])
          ∙ ap (λ numbers. old.view.claims ++ numbers) (sym (map-append (claim_number o) (drawn_in batches) (batch ∷ []))) ∙ ap (λ drawn. old.view.claims ++ map (claim_number o) drawn) (sym more);
      nones = ap (λ (v : View). v.nones) drawn.view ∙ h.nones;
      share = ap (λ (v : View). v.share) drawn.view ∙ h.share;
      blank = λ k le. let apart : k ≢ i = omega arith in get_or-set_other batches i k (Some batch) None apart ∙ h.blank k (omega arith);
      full = omega (arith, ap (λ (drawn : List ℕ). length drawn) more, length-append (drawn_in batches) (batch ∷ []), h.full);
    }

-- a seat in the course of a round's posts: these batches are left
pub record HasLeft (c : Counter) (o : Start) (old now : Seated) (batches left : List (Option ℕ)) : Type 0 where
  pub owes : Owes c o now (drawn_in left)
  pub posts : now.view.posts ++ numbers_in o left ≡ old.view.posts ++ numbers_in o batches
  pub nones : now.view.nones ≡ old.view.nones
  pub share : now.view.share ≡ old.view.share

-- the batch at this place, and those behind it
left_at : (batches : List (Option ℕ)) (i batch : ℕ) → get_or batches i None ≡ Some batch → drop i batches ≡ Some batch ∷ drop (suc i) batches
left_at [] i batch e = cc e
left_at (first ∷ batches) zero batch e = ap (λ b. b ∷ batches) e
left_at (first ∷ batches) (suc i) batch e = left_at batches i batch e

left_next : (batches : List (Option ℕ)) (i batch : ℕ) → get_or batches i None ≡ Some batch → drop i batches ≡ Some batch ∷ drop (i + 1) batches
left_next batches i batch e = let next : suc i ≡ i + 1 = omega arith in subst (λ j. drop i batches ≡ Some batch ∷ drop j batches) next (left_at batches i batch e)

-- the batch at this place may be posted
pub may_post_at : (c : Counter) (o : Start) (old now : Seated) (batches : List (Option ℕ)) (i batch : ℕ) → HasLeft c o old now batches (drop i batches) → get_or batches i None ≡ Some batch → MayPost o now.view batch
may_post_at c o old now batches i batch h e =
    may_post_first c o now batch (drawn_in (drop (i + 1) batches)) (subst (λ left. Owes c o now (drawn_in left)) (left_next batches i batch e) h.owes)

-- its entry is the one of the origin
pub posts_entry : (p : Analysis) (o : Start) (view : View) (batch : ℕ) (entry : Entry) → MayPost o view batch → HasTrueEntries p o → entry ≡ true_entry p batch
    → MayPost o view entry.batch × (entry ≡ board_entry o.entries entry.batch)
posts_entry p o view batch entry may entries e =
    let P : Entry → Type 0 = λ x. MayPost o view x.batch × (x ≡ board_entry o.entries x.batch) in
    subst P (sym e) (may, sym (entries batch may.due))

-- once it was posted, those behind it are left
pub posts_at : (p : Analysis) (c : Counter) (o : Start) (old now next : Seated) (batches : List (Option ℕ)) (i batch : ℕ) (entry : Entry) (sums : Sums) → HasLeft c o old now batches (drop i batches)
    → get_or batches i None ≡ Some batch → entry ≡ true_entry p batch → next.table ≡ now.table → IsPosted o now.view next.view entry.batch sums → HasLeft c o old next batches (drop (i + 1) batches)
posts_at p c o old now next batches i batch entry sums h e is same told =
    let n : ℕ = claim_number o batch in
    let rest = drop (i + 1) batches in
    let all : HasLeft c o old now batches (Some batch ∷ rest) = subst (HasLeft c o old now batches) (left_next batches i batch e) h in
    let posted : IsPosted o now.view next.view batch sums = subst (λ (x : Entry). IsPosted o now.view next.view x.batch sums) is told in
    record {
      owes = owes_rest c o now next batch (drawn_in rest) sums all.owes same posted;
      posts = ap (λ (v : View). v.posts ++ numbers_in o rest) posted.view ∙ append_assoc now.view.posts (n ∷ []) (numbers_in o rest) ∙ all.posts;
      nones = ap (λ (v : View). v.nones) posted.view ∙ all.nones;
      share = ap (λ (v : View). v.share) posted.view ∙ all.share;
    }
