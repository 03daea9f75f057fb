-- The steps of a crew are lawful events: a worker posts what it drew and nobody has posted.
use Rattle.std.proofs.Common.{◌≡◌, ℕ, zero, suc, ◌+◌, ◌<◌, ◌≤◌, ◌==◌, ◌&&◌, ◌||◌, Bool, true, false, not, cond, nat_lt, List, [], ◌∷◌, ◌++◌, length, get_or, set, replicate, refl, sym, ap, ◌∙◌, subst, ⊎_elim, arith}
use Rattle.std.specs.Prelude.{MatchBool, None, ◌⊎◌}
use Rattle.std.specs.List.{sum_by}
use Rattle.std.proofs.lemmas.Bool.{cases_eq, eq-eqb, eqb-true, and_from, and_parts, or_left, or_right}
use Rattle.std.proofs.lemmas.Bool.Decides.{nat_tests}
use Rattle.std.proofs.lemmas.List.Folds.{list_any-append}
use Rattle.std.proofs.lemmas.List.Sums.{sum_by-cons, sum_by-set, get_or-le-sum_by}
use Rattle.campaign_core.specs.declared.event.Event.{Event}
use Rattle.campaign_core.specs.declared.event.Event.TheVariants.{Post, Fail}
use Rattle.campaign_core.specs.Machines.{Machine, fresh, with_draw, after, after_all, is_claimed, is_posted, is_lawful, all_lawful, times, once_below}
use Rattle.campaign_core.proofs.Runs.{after-append}
use Rattle.claim_counter.proofs.Few.{times-cons}
use Rattle.claim_counter.proofs.Views.{times-snoc, once_more}
use Rattle.campaign_laws.specs.Crew.{Stand, Drawing, Waiting, Holding, Posted, Ended, Crew, CrewStep, crew_step, with_drawn, behind_post, IsCrewStep, stand_of, MayTake, after_step, Leads, fresh_crew}
use Rattle.campaign_laws.specs.CrewLaws.{events_of, StepsAreLawful}
use Rattle.campaign_laws.proofs.Stands.{is_there, at_same, at_other, not_ended}

-- what a worker has drawn and not posted
abbrev pub hand : Stand → List ℕ
hand (Drawing drawn) = drawn
hand (Waiting owed last) = owed
hand (Holding owed last) = owed
hand (Posted owed last) = owed
hand Ended = []

pub hand_round : (drawn : List ℕ) (full : Bool) → hand (cond full (Waiting drawn false) (Drawing drawn)) ≡ drawn
hand_round drawn true = refl
hand_round drawn false = refl

pub hand_behind : (owed : List ℕ) (last : Bool) → hand (behind_post owed last) ≡ owed
hand_behind [] false = refl
hand_behind [] true = refl
hand_behind (batch ∷ owed) last = refl

-- claimed: each batch in a worker's hand is a claim of this worker
-- once: each number below the next one was posted once, or is in one hand, or neither; and no other number
record Owns (m : Machine) (stands : List Stand) : Type 0 where
  claimed : (v batch : ℕ) → 0 < times batch (hand (get_or stands v Ended)) → is_claimed v batch m.claims ≡ true
  once : (x : ℕ) → times x m.history + sum_by (λ s. times x (hand s)) stands ≤ once_below x m.next

-- what a step of the worker w from one stand to another does
-- claims: each claim stays
-- own: what is in its hand then, it has claimed
-- counts: what comes to the history and its hand comes to the numbers below the next one
record Moves (m n : Machine) (w : ℕ) (old now : Stand) : Type 0 where
  claims : (v batch : ℕ) → is_claimed v batch m.claims ≡ true → is_claimed v batch n.claims ≡ true
  own : ((batch : ℕ) → 0 < times batch (hand old) → is_claimed w batch m.claims ≡ true) → (batch : ℕ) → 0 < times batch (hand now) → is_claimed w batch n.claims ≡ true
  counts : (x : ℕ) → times x n.history + times x (hand now) + once_below x m.next ≤ times x m.history + times x (hand old) + once_below x n.next

owns_after : (m n : Machine) (stands : List Stand) (w : ℕ) (now : Stand) → w < length stands → Moves m n w (get_or stands w Ended) now → Owns m stands → Owns n (set stands w now)
owns_after m n stands w now there h o = record {
  claimed = λ v batch some. ⊎_elim
      (λ e.
      let at : get_or (set stands w now) v Ended ≡ now = ap (λ v. get_or (set stands w now) v Ended) e ∙ at_same stands w now there in
      subst (λ v. is_claimed v batch n.claims ≡ true) (sym e) (h.own (o.claimed w) batch (subst (λ s. 0 < times batch (hand s)) at some)))
      (λ d. h.claims v batch (o.claimed v batch (subst (λ s. 0 < times batch (hand s)) (at_other stands w v now d) some)))
      (cases_eq v w);
  once = λ x.
      let moved = sum_by-set (λ s. times x (hand s)) stands w now Ended there in
      let counts = h.counts x in
      let was = o.once x in
      omega arith;
}

-- a step that leaves claims, history and counter alone, after which no more is in the hand
quiet : (m n : Machine) (w : ℕ) (old now : Stand) → n.claims ≡ m.claims → n.history ≡ m.history → n.next ≡ m.next → ((x : ℕ) → times x (hand now) ≤ times x (hand old)) → Moves m n w old now
quiet m n w old now claims history next fewer = record {
  claims = λ v batch h. subst (λ c. is_claimed v batch c ≡ true) (sym claims) h;
  own = λ h batch some. subst (λ c. is_claimed w batch c ≡ true) (sym claims) (h batch (let less = fewer batch in omega arith));
  counts = λ x. let less = fewer x in let e = ap (times x) history in let f = ap (once_below x) next in omega arith;
}

-- one claim more
abbrev is_claim : ℕ → ℕ → ℕ × ℕ → Bool
is_claim v batch c = (c.0 == v) && (c.1 == batch)

claim_stays : (v batch w n : ℕ) (claims : List (ℕ × ℕ)) → is_claimed v batch claims ≡ true → is_claimed v batch (claims ++ (w, n) ∷ []) ≡ true
claim_stays v batch w n claims h = list_any-append (is_claim v batch) claims ((w, n) ∷ []) ∙ or_left (is_claimed v batch claims) (is_claimed v batch ((w, n) ∷ [])) h

claim_comes : (w n : ℕ) (claims : List (ℕ × ℕ)) → is_claimed w n (claims ++ (w, n) ∷ []) ≡ true
claim_comes w n claims =
    list_any-append (is_claim w n) claims ((w, n) ∷ []) ∙ or_right (is_claimed w n claims) (is_claimed w n ((w, n) ∷ [])) (or_left ((w == w) && (n == n)) false (and_from (w == w) (n == n) (eq-eqb w w refl) (eq-eqb n n refl)))

-- the batch that is drawn comes to the hand
drawn_own : (m : Machine) (w : ℕ) (drawn : List ℕ) (batch : ℕ) (here : Bool) → (m.next == batch) ≡ here
    → ((batch : ℕ) → 0 < times batch drawn → is_claimed w batch m.claims ≡ true) → 0 < times batch (drawn ++ m.next ∷ []) → is_claimed w batch (m.claims ++ (w, m.next) ∷ []) ≡ true
drawn_own m w drawn batch true is h some = subst (λ b. is_claimed w b (m.claims ++ (w, m.next) ∷ []) ≡ true) (eqb-true m.next batch is) (claim_comes w m.next m.claims)
drawn_own m w drawn batch false is h some =
    let pushed = times-snoc batch drawn m.next in
    let none : cond {A = ℕ} (m.next == batch) 1 0 ≡ 0 = ap (λ b. cond b 1 0) is in
    claim_stays w batch w m.next m.claims (h batch (omega arith))

drawing : (m : Machine) (w : ℕ) (drawn : List ℕ) (more : Bool) → Moves m (cond more (with_draw m w) m) w (Drawing drawn) (cond more (with_drawn (drawn ++ m.next ∷ [])) (Waiting drawn true))
drawing m w drawn true =
    let now = with_drawn (drawn ++ m.next ∷ []) in
    let is : hand now ≡ drawn ++ m.next ∷ [] = hand_round (drawn ++ m.next ∷ []) (length (drawn ++ m.next ∷ []) == 4) in
    record {
      claims = λ v batch h. claim_stays v batch w m.next m.claims h;
      own = λ h batch some. drawn_own m w drawn batch (m.next == batch) refl h (subst (λ xs. 0 < times batch xs) is some);
      counts = λ x. let e = ap (times x) is in let f = times-snoc x drawn m.next in let g = once_more x m.next in omega arith;
    }
drawing m w drawn false = quiet m m w (Drawing drawn) (Waiting drawn true) refl refl refl (λ x. omega arith)

-- the batch that is posted goes from the hand to the history
posting : (m : Machine) (w batch : ℕ) (owed : List ℕ) (last : Bool) → Moves m (after m (Post w batch)) w (Holding (batch ∷ owed) last) (Posted owed last)
posting m w batch owed last = record {
  claims = λ v b h. h;
  own = λ h b some. h b (let rest = times-cons b batch owed in omega arith);
  counts = λ x. let rest = times-cons x batch owed in let more = times-snoc x m.history batch in omega arith;
}

-- it may be posted: nobody has posted it
unposted_at : (n x : ℕ) (history : List ℕ) (here : Bool) → (x == n) ≡ here → (times n history ≡ 0 → is_posted n history ≡ false) → times n (x ∷ history) ≡ 0 → is_posted n (x ∷ history) ≡ false
unposted_at n x history true is rest h =
    absurd (let cons = times-cons n x history in let one : cond {A = ℕ} (x == n) 1 0 ≡ 1 = ap (λ b. cond b 1 0) is in omega arith)
unposted_at n x history false is rest h =
    let cons = times-cons n x history in
    let none : cond {A = ℕ} (x == n) 1 0 ≡ 0 = ap (λ b. cond b 1 0) is in
    ap (λ b. b || is_posted n history) is ∙ rest (omega arith)

unposted : (n : ℕ) (history : List ℕ) → times n history ≡ 0 → is_posted n history ≡ false
unposted n [] h = refl
unposted n (x ∷ history) h = unposted_at n x history (x == n) refl (λ z. unposted n history z) h

-- WHAT A STEP SHOWS: its events are lawful, and it moves batches as said
abbrev Shows : Crew → ℕ → Stand → CrewStep → Type 0
Shows c w x s = (all_lawful c.campaign s.events ≡ true) × Moves c.campaign (after_all c.campaign s.events) w x s.stand

holding : (c : Crew) (w batch : ℕ) (owed : List ℕ) (last failed : Bool) (s : CrewStep) → c.campaign.failed ≡ failed → is_claimed w batch c.campaign.claims ≡ true → is_posted batch c.campaign.history ≡ false
    → MatchBool failed (s ≡ crew_step w [] None Ended) ((s ≡ crew_step w (Post w batch ∷ []) c.turn (Posted owed last)) ⊎ (s ≡ crew_step w (Fail w ∷ []) None Ended))
    → Shows c w (Holding (batch ∷ owed) last) s
holding c w batch owed last true s is mine new e =
    subst (Shows c w (Holding (batch ∷ owed) last)) (sym e) (refl, quiet c.campaign c.campaign w (Holding (batch ∷ owed) last) Ended refl refl refl (λ x. omega arith))
holding c w batch owed last false s is mine new e =
    let m = c.campaign in
    let post : (is_lawful m (Post w batch) && true) ≡ true
    = and_from (is_lawful m (Post w batch)) true (and_from (is_claimed w batch m.claims && not (is_posted batch m.history)) (not m.failed)
    (and_from (is_claimed w batch m.claims) (not (is_posted batch m.history)) mine (ap not new)) (ap not is)) refl in
    ⊎_elim
    (λ e. subst (Shows c w (Holding (batch ∷ owed) last)) (sym e) (post, posting m w batch owed last))
    (λ e. subst (Shows c w (Holding (batch ∷ owed) last)) (sym e) (refl, quiet m (after m (Fail w)) w (Holding (batch ∷ owed) last) Ended refl refl refl (λ x. omega arith)))
    e

shows : (c : Crew) (w : ℕ) (x : Stand) (s : CrewStep) → get_or c.stands w Ended ≡ x → Owns c.campaign c.stands → IsCrewStep c w x s → Shows c w x s
shows c w (Drawing drawn) s at o e = subst (Shows c w (Drawing drawn)) (sym e) (refl, drawing c.campaign w drawn (nat_lt c.campaign.next c.campaign.limit))
shows c w (Waiting owed last) s at o e = subst (Shows c w (Waiting owed last)) (sym e.1) (refl, quiet c.campaign c.campaign w (Waiting owed last) (Holding owed last) refl refl refl (λ x. omega arith))
shows c w (Holding [] last) s at o e = subst (Shows c w (Holding [] last)) (sym e) (refl, quiet c.campaign c.campaign w (Holding [] last) Ended refl refl refl (λ x. omega arith))
shows c w (Holding (batch ∷ owed) last) s at o e =
    let own = times-cons batch batch owed in
    let self : cond {A = ℕ} (batch == batch) 1 0 ≡ 1 = ap (λ b. cond b 1 0) (eq-eqb batch batch refl) in
    let in_hand : times batch (hand (get_or c.stands w Ended)) ≡ times batch (batch ∷ owed) = ap (λ s. times batch (hand s)) at in
    let mine = o.claimed w batch (omega arith) in
    let there = is_there c.stands w (λ z. absurd (let q : Ended ≡ Holding (batch ∷ owed) last = sym z ∙ at in cc)) in
    let one = get_or-le-sum_by (λ s. times batch (hand s)) c.stands w Ended there in
    let most = o.once batch in
    let below : once_below batch c.campaign.next ≤ 1 = grind (arith, nat_tests) in
    holding c w batch owed last c.campaign.failed s refl mine (unposted batch c.campaign.history (omega arith)) e
shows c w (Posted owed last) s at o e =
    let same = hand_behind owed last in
    subst (Shows c w (Posted owed last)) (sym e) (refl, quiet c.campaign c.campaign w (Posted owed last) (behind_post owed last) refl refl refl (λ x. let e = ap (times x) same in omega arith))
shows c w Ended s at o e = absurd e

owns_step : (c : Crew) (s : CrewStep) → MayTake c s → Owns c.campaign c.stands → (all_lawful c.campaign s.events ≡ true) × Owns (after_step c s).campaign (after_step c s).stands
owns_step c s may o =
    let shown = shows c s.worker (stand_of c s.worker) s refl o may in
    (shown.0, owns_after c.campaign (after_all c.campaign s.events) c.stands s.worker s.stand (is_there c.stands s.worker (not_ended c s may)) shown.1 o)

lawful_append : (m : Machine) (es fs : List Event) → all_lawful m es ≡ true → all_lawful (after_all m es) fs ≡ true → all_lawful m (es ++ fs) ≡ true
lawful_append m [] fs h k = k
lawful_append m (e ∷ es) fs h k =
    let parts = and_parts (is_lawful m e) (all_lawful (after m e) es) h in
    and_from (is_lawful m e) (all_lawful (after m e) (es ++ fs)) parts.0 (lawful_append (after m e) es fs parts.1 k)

all_shown : (c : Crew) (ss : List CrewStep) (d : Crew) → Leads c ss d → Owns c.campaign c.stands → (all_lawful c.campaign (events_of ss) ≡ true) × (d.campaign ≡ after_all c.campaign (events_of ss))
all_shown c [] d e o = (refl, ap (λ d. d.campaign) (sym e))
all_shown c (s ∷ ss) d e o =
    let one = owns_step c s e.0 o in
    let rest = all_shown (after_step c s) ss d e.1 one.1 in
    (lawful_append c.campaign s.events (events_of ss) one.0 rest.0, rest.1 ∙ sym (after-append c.campaign s.events (events_of ss)))

empty_hands : (workers v : ℕ) → hand (get_or (replicate workers (Drawing [])) v Ended) ≡ []
empty_hands zero v = refl
empty_hands (suc workers) zero = refl
empty_hands (suc workers) (suc v) = empty_hands workers v

pub nothing_drawn : (workers x : ℕ) → sum_by (λ s. times x (hand s)) (replicate workers (Drawing [])) ≡ 0
nothing_drawn zero x = refl
nothing_drawn (suc workers) x = omega (arith, sum_by-cons (λ s. times x (hand s)) (Drawing []) (replicate workers (Drawing [])), nothing_drawn workers x)

owns_fresh : (batches workers : ℕ) → Owns (fresh batches) (replicate workers (Drawing []))
owns_fresh batches workers = record {
  claimed = λ v batch some. absurd (let none = ap (times batch) (empty_hands workers v) in omega arith);
  once = λ x. let none = nothing_drawn workers x in omega arith;
}

pub lawful : StepsAreLawful
lawful batches workers steps c e = let all = all_shown (fresh_crew batches workers) steps c e (owns_fresh batches workers) in record { lawful = all.0; campaign = all.1 }
