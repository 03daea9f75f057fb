-- Where nobody can go on each worker has ended, and unless the campaign has failed all is done.
use Rattle.std.proofs.Common.{◌≡◌, ℕ, zero, suc, ◌+◌, ◌*◌, ◌<◌, ◌≤◌, ◌==◌, Bool, true, false, cond, nat_lt, List, [], ◌∷◌, ◌++◌, length, get_or, set, replicate, refl, sym, ap, ◌∙◌, subst, ⊎_elim, Option, arith}
use Rattle.std.specs.Prelude.{MatchBool, None, ◌⊎◌}
use Rattle.std.specs.List.{sum_by}
use Rattle.std.proofs.lemmas.Bool.{cases_eq, false≢true, true≢false}
use Rattle.std.proofs.lemmas.Bool.Decides.{nat_tests}
use Rattle.std.proofs.lemmas.List.{length-append, length-set, length-replicate}
use Rattle.std.proofs.lemmas.List.Sums.{sum_by-cons, sum_by-set}
use Rattle.campaign_core.specs.declared.event.Event.TheVariants.{Post, Fail}
use Rattle.campaign_core.specs.Machines.{Machine, fresh, with_draw, after, after_all, times, once_below}
use Rattle.claim_counter.proofs.Few.{times-cons}
use Rattle.claim_counter.proofs.Views.{times-snoc, once_more}
use Rattle.campaign_laws.specs.Crew.{Stand, Drawing, Waiting, Holding, Posted, Ended, Crew, CrewStep, crew_step, with_drawn, behind_post, IsCrewStep, stand_of, MayTake, after_step, Leads, fresh_crew}
use Rattle.campaign_core.proofs.Runs.{within}
use Rattle.campaign_laws.specs.CrewLaws.{CanGoOn, AllIsDone, events_of}
use Rattle.campaign_laws.proofs.Stands.{is_there, at_same, at_other, not_ended}
use Rattle.campaign_laws.proofs.Falling.{to_do, undrawn, after_posts_some, left, round_to_do, behind, all_begin}
use Rattle.campaign_laws.proofs.Lawful.{hand, hand_round, hand_behind, nothing_drawn, lawful}
use Rattle.campaign_laws.proofs.Turning.{some_can}

-- a draw has given none only where all batches are drawn
-- more: who hasn't been given none wants the turn for a batch
record IsDue (m : Machine) (owed : List ℕ) (last : Bool) : Type 0 where
  all : last ≡ true → m.limit ≤ m.next
  more : last ≡ false → 0 < length owed

-- what is known where a worker stands: it ends early only where the campaign has failed
abbrev IsKnown : Machine → Stand → Type 0
IsKnown m (Drawing drawn) = Unit {0}
IsKnown m (Waiting owed last) = IsDue m owed last
IsKnown m (Holding owed last) = IsDue m owed last
IsKnown m (Posted owed last) = last ≡ true → m.limit ≤ m.next
IsKnown m Ended = m.failed ≡ false → m.limit ≤ m.next

-- the limit stays, the counter doesn't fall, and a failure stays
record Grows (m n : Machine) : Type 0 where
  limit : n.limit ≡ m.limit
  next : m.next ≤ n.next
  failed : n.failed ≡ false → m.failed ≡ false

stays_known : (m n : Machine) (x : Stand) → Grows m n → IsKnown m x → IsKnown n x
stays_known m n (Drawing drawn) g k = tt
stays_known m n (Waiting owed last) g k = record { all = λ e. let before = k.all e in let a = g.limit in let b = g.next in omega arith; more = k.more }
stays_known m n (Holding owed last) g k = record { all = λ e. let before = k.all e in let a = g.limit in let b = g.next in omega arith; more = k.more }
stays_known m n (Posted owed last) g k = λ e. let before = k e in let a = g.limit in let b = g.next in omega arith
stays_known m n Ended g k = λ e. let before = k (g.failed e) in let a = g.limit in let b = g.next in omega arith

-- unless the campaign has failed then, a step is one less to do, and no batch is lost
record Spends (m n : Machine) (old now : Stand) : Type 0 where
  one : undrawn n + to_do now + 1 ≡ undrawn m + to_do old
  counts : (x : ℕ) → times x n.history + times x (hand now) + once_below x m.next ≡ times x m.history + times x (hand old) + once_below x n.next

record IsFine (m n : Machine) (old now : Stand) : Type 0 where
  grows : Grows m n
  known : IsKnown n now
  spends : n.failed ≡ false → Spends m n old now

same : (m : Machine) → Grows m m
same m = record { limit = refl; next = omega arith; failed = λ e. e }

drawing : (m : Machine) (w : ℕ) (drawn : List ℕ) (more : Bool) → nat_lt m.next m.limit ≡ more
    → IsFine m (cond more (with_draw m w) m) (Drawing drawn) (cond more (with_drawn (drawn ++ m.next ∷ [])) (Waiting drawn true))
drawing m w drawn true is =
    let xs = drawn ++ m.next ∷ [] in
    let full = length xs == 4 in
    let below : m.next < m.limit = grind (arith, nat_tests) in
    let longer = length-append drawn (m.next ∷ []) in
    record {
      grows = record { limit = refl; next = omega arith; failed = λ e. e };
      known = round_known (with_draw m w) xs full (omega arith);
      spends = λ e. record {
        one = let r = round_to_do xs full in omega arith;
        counts = λ x. let r = ap (times x) (hand_round xs full) in let p = times-snoc x drawn m.next in let o = once_more x m.next in omega arith;
      };
    }
  where
    round_known : (m : Machine) (xs : List ℕ) (full : Bool) → 0 < length xs → IsKnown m (cond full (Waiting xs false) (Drawing xs))
    round_known m xs true h = record { all = λ e. absurd (false≢true e); more = λ e. h }
    round_known m xs false h = tt
drawing m w drawn false is =
    let all : m.limit ≤ m.next = grind (arith, nat_tests) in
    record {
      grows = same m;
      known = record { all = λ e. all; more = λ e. absurd (true≢false e) };
      spends = λ e. record { one = omega arith; counts = λ x. omega arith };
    }

looked : (m : Machine) (last : Bool) → IsDue m [] last → IsFine m m (Holding [] last) Ended
looked m true k = record { grows = same m; known = λ e. k.all refl; spends = λ e. record { one = omega arith; counts = λ x. omega arith } }
looked m false k = absurd (let none = k.more refl in omega arith)

-- a worker that ends early
stopped : (m n : Machine) (batch : ℕ) (owed : List ℕ) (last : Bool) → Grows m n → n.failed ≡ true → IsFine m n (Holding (batch ∷ owed) last) Ended
stopped m n batch owed last g f = record { grows = g; known = λ e. absurd (true≢false (sym f ∙ e)); spends = λ e. absurd (true≢false (sym f ∙ e)) }

posting : (m : Machine) (w batch : ℕ) (owed : List ℕ) (last : Bool) → IsDue m (batch ∷ owed) last → IsFine m (after m (Post w batch)) (Holding (batch ∷ owed) last) (Posted owed last)
posting m w batch owed last k = record {
  grows = record { limit = refl; next = omega arith; failed = λ e. e };
  known = k.all;
  spends = λ e. record { one = let some = after_posts_some last in omega arith; counts = λ x. let r = times-cons x batch owed in let p = times-snoc x m.history batch in omega arith };
}

holding : (m : Machine) (turn : Option ℕ) (w batch : ℕ) (owed : List ℕ) (last failed : Bool) (s : CrewStep) → m.failed ≡ failed → IsDue m (batch ∷ owed) last
    → MatchBool failed (s ≡ crew_step w [] None Ended) ((s ≡ crew_step w (Post w batch ∷ []) turn (Posted owed last)) ⊎ (s ≡ crew_step w (Fail w ∷ []) None Ended))
    → IsFine m (after_all m s.events) (Holding (batch ∷ owed) last) s.stand
holding m turn w batch owed last true s is k e = subst (λ s. IsFine m (after_all m s.events) (Holding (batch ∷ owed) last) s.stand) (sym e) (stopped m m batch owed last (same m) is)
holding m turn w batch owed last false s is k e =
    ⊎_elim
    (λ e. subst (λ s. IsFine m (after_all m s.events) (Holding (batch ∷ owed) last) s.stand) (sym e) (posting m w batch owed last k))
    (λ e. subst (λ s. IsFine m (after_all m s.events) (Holding (batch ∷ owed) last) s.stand) (sym e)
    (stopped m (after m (Fail w)) batch owed last (record { limit = refl; next = omega arith; failed = λ e. absurd (true≢false e) }) refl))
    e

behind_known : (m : Machine) (owed : List ℕ) (last : Bool) → (last ≡ true → m.limit ≤ m.next) → IsKnown m (behind_post owed last)
behind_known m [] false k = tt
behind_known m [] true k = record { all = k; more = λ e. absurd (true≢false e) }
behind_known m (batch ∷ owed) last k = record { all = k; more = λ e. omega arith }

fine : (c : Crew) (w : ℕ) (x : Stand) (s : CrewStep) → IsKnown c.campaign x → IsCrewStep c w x s → IsFine c.campaign (after_all c.campaign s.events) x s.stand
fine c w (Drawing drawn) s k e =
    subst (λ s. IsFine c.campaign (after_all c.campaign s.events) (Drawing drawn) s.stand) (sym e) (drawing c.campaign w drawn (nat_lt c.campaign.next c.campaign.limit) refl)
fine c w (Waiting owed last) s k e =
    subst (λ s. IsFine c.campaign (after_all c.campaign s.events) (Waiting owed last) s.stand) (sym e.1)
    (record { grows = same c.campaign; known = k; spends = λ e. record { one = let some = after_posts_some last in omega arith; counts = λ x. omega arith } })
fine c w (Holding [] last) s k e = subst (λ s. IsFine c.campaign (after_all c.campaign s.events) (Holding [] last) s.stand) (sym e) (looked c.campaign last k)
fine c w (Holding (batch ∷ owed) last) s k e = holding c.campaign c.turn w batch owed last c.campaign.failed s refl k e
fine c w (Posted owed last) s k e =
    subst (λ s. IsFine c.campaign (after_all c.campaign s.events) (Posted owed last) s.stand) (sym e) (record {
      grows = same c.campaign;
      known = behind_known c.campaign owed last k;
      spends = λ e. record { one = let b = behind owed last in omega arith; counts = λ x. let h = ap (times x) (hand_behind owed last) in omega arith };
    })
fine c w Ended s k e = absurd e

-- what is kept from step to step, where so many steps were taken
-- known: what is known of each worker
-- spent: unless the campaign has failed, the steps taken and those left are always as many
-- counts: and each batch that is drawn was posted once, or is in one hand
record IsKept (c : Crew) (taken all batches workers : ℕ) : Type 0 where
  limit : c.campaign.limit ≡ batches
  crew : length c.stands ≡ workers
  known : (w : ℕ) → w < length c.stands → IsKnown c.campaign (stand_of c w)
  spent : c.campaign.failed ≡ false → taken + left c ≡ all
  counts : c.campaign.failed ≡ false → (x : ℕ) → times x c.campaign.history + sum_by (λ s. times x (hand s)) c.stands ≡ once_below x c.campaign.next

kept_step : (c : Crew) (s : CrewStep) (taken all batches workers : ℕ) → MayTake c s → IsKept c taken all batches workers → IsKept (after_step c s) (taken + 1) all batches workers
kept_step c s taken all batches workers may k =
    let there = is_there c.stands s.worker (not_ended c s may) in
    let step : IsFine c.campaign (after_all c.campaign s.events) (stand_of c s.worker) s.stand = fine c s.worker (stand_of c s.worker) s (k.known s.worker there) may in
    record {
      limit = step.grows.limit ∙ k.limit;
      crew = length-set c.stands s.worker s.stand ∙ k.crew;
      known = λ w below. ⊎_elim
          (λ e. subst (λ w. IsKnown (after_all c.campaign s.events) (get_or (set c.stands s.worker s.stand) w Ended)) (sym e)
          (subst (IsKnown (after_all c.campaign s.events)) (sym (at_same c.stands s.worker s.stand there)) step.known))
          (λ n. subst (IsKnown (after_all c.campaign s.events)) (sym (at_other c.stands s.worker w s.stand n))
          (stays_known c.campaign (after_all c.campaign s.events) (stand_of c w) step.grows (k.known w (let l = length-set c.stands s.worker s.stand in omega arith))))
          (cases_eq w s.worker);
      spent = λ e.
          let moved = sum_by-set to_do c.stands s.worker s.stand Ended there in
          let one = (step.spends e).one in
          let before = k.spent (step.grows.failed e) in
          omega arith;
      counts = λ e x.
          let moved = sum_by-set (λ s. times x (hand s)) c.stands s.worker s.stand Ended there in
          let one = (step.spends e).counts x in
          let before = k.counts (step.grows.failed e) x in
          omega arith;
    }

kept_all : (c : Crew) (ss : List CrewStep) (d : Crew) (taken all batches workers : ℕ) → Leads c ss d → IsKept c taken all batches workers → IsKept d (taken + length ss) all batches workers
kept_all c [] d taken all batches workers same k =
    let e : taken ≡ taken + 0 = omega arith in
    subst (λ d. IsKept d (taken + 0) all batches workers) same (subst (λ n. IsKept c n all batches workers) e k)
kept_all c (s ∷ ss) d taken all batches workers may k =
    let rest = kept_all (after_step c s) ss d (taken + 1) all batches workers may.1 (kept_step c s taken all batches workers may.0 k) in
    let e : taken + 1 + length ss ≡ taken + length (s ∷ ss) = omega arith in
    subst (λ n. IsKept d n all batches workers) e rest

known_fresh : (m : Machine) (workers w : ℕ) → w < length (replicate workers (Drawing [])) → IsKnown m (get_or (replicate workers (Drawing [])) w Ended)
known_fresh m zero w h = absurd (omega arith)
known_fresh m (suc workers) zero h = tt
known_fresh m (suc workers) (suc w) h = known_fresh m workers w (omega arith)

kept_fresh : (batches workers : ℕ) → IsKept (fresh_crew batches workers) 0 (4 * batches + 3 * workers) batches workers
kept_fresh batches workers = record {
  limit = refl;
  crew = length-replicate workers (Drawing []);
  known = known_fresh (fresh batches) workers;
  spent = λ e. let b = all_begin workers in omega arith;
  counts = λ e x. let none = nothing_drawn workers x in let zero_below : once_below x 0 ≡ 0 = grind (arith, nat_tests) in omega arith;
}

-- who can't take a step has ended
ended : (c : Crew) (w : ℕ) (x : Stand) → CanGoOn c → ((s : CrewStep) → MayTake c s → ⊥) → stand_of c w ≡ x → (x ≡ Ended → ⊥) → stand_of c w ≡ Ended
ended c w x on stuck at n = absurd (let go = on.some w (λ e. n (sym at ∙ e)) in stuck go.0 go.1)

all_ended : (c : Crew) (w : ℕ) (x : Stand) → CanGoOn c → ((s : CrewStep) → MayTake c s → ⊥) → stand_of c w ≡ x → stand_of c w ≡ Ended
all_ended c w (Drawing drawn) on stuck at = ended c w (Drawing drawn) on stuck at (λ e. absurd (cc))
all_ended c w (Waiting owed last) on stuck at = ended c w (Waiting owed last) on stuck at (λ e. absurd (cc))
all_ended c w (Holding owed last) on stuck at = ended c w (Holding owed last) on stuck at (λ e. absurd (cc))
all_ended c w (Posted owed last) on stuck at = ended c w (Posted owed last) on stuck at (λ e. absurd (cc))
all_ended c w Ended on stuck at = at

nothing_left : (f : Stand → ℕ) → f Ended ≡ 0 → (xs : List Stand) → ((w : ℕ) → get_or xs w Ended ≡ Ended) → sum_by f xs ≡ 0
nothing_left f none [] all = refl
nothing_left f none (x ∷ xs) all =
    let first : f x ≡ 0 = ap f (all 0) ∙ none in
    let rest = nothing_left f none xs (λ w. all (suc w)) in
    omega (arith, sum_by-cons f x xs)

pub all_is_done : AllIsDone
all_is_done batches workers some steps c may stuck =
    let k : IsKept c (0 + length steps) (4 * batches + 3 * workers) batches workers
    = kept_all (fresh_crew batches workers) steps c 0 (4 * batches + 3 * workers) batches workers may (kept_fresh batches workers) in
    let on : CanGoOn c = some_can batches workers steps c may in
    let over : (w : ℕ) → stand_of c w ≡ Ended = λ w. all_ended c w (stand_of c w) on stuck refl in
    let most : c.campaign.next ≤ batches
    = subst (λ m. m.next ≤ batches) (sym (lawful batches workers steps c may).campaign) (within (fresh batches) (events_of steps) (omega arith)) in
    let all_drawn : c.campaign.failed ≡ false → c.campaign.next ≡ batches
    = λ e.
    let there : 0 < length c.stands = let l = k.crew in omega arith in
    let least : c.campaign.limit ≤ c.campaign.next = subst (IsKnown c.campaign) (over 0) (k.known 0 there) e in
    let l = k.limit in
    omega arith in
    record {
      ended = over;
      posted = λ e x.
          let none = nothing_left (λ s. times x (hand s)) refl c.stands over in
          let sum = k.counts e x in
          let a = ap (once_below x) (all_drawn e) in
          omega arith;
      all = λ e.
          let none = nothing_left to_do refl c.stands over in
          let sum = k.spent e in
          let a = all_drawn e in
          let l = k.limit in
          omega arith;
    }
