-- Who has the turn, and that some worker can go on.
use Rattle.std.proofs.Common.{◌≡◌, ℕ, zero, suc, ◌<◌, ◌++◌, Bool, true, false, cond, nat_lt, List, [], ◌∷◌, get_or, set, replicate, refl, sym, ap, ◌∙◌, subst, inl, inr, ⊎_elim, Option, Some, None}
use Rattle.std.specs.Prelude.{MatchBool, ◌⊎◌, ◌==◌, length}
use Rattle.std.proofs.lemmas.Bool.{cases_eq, false≢true}
use Rattle.campaign_core.specs.declared.event.Event.TheVariants.{Draw, Post, Look, Fail}
use Rattle.campaign_laws.specs.Crew.{Stand, Drawing, Waiting, Holding, Posted, Ended, Crew, CrewStep, crew_step, with_drawn, behind_post, IsCrewStep, stand_of, MayTake, after_step, Leads, fresh_crew}
use Rattle.campaign_laws.specs.CrewLaws.{has_turn, SomeCanGoOn}
use Rattle.campaign_laws.proofs.Stands.{is_there, at_same, at_other, not_ended}

-- what each step does with the turn: the worker keeps what it has of it, takes it where it is free, or gives back what it had
abbrev Keeps : Crew → ℕ → Stand → CrewStep → Type 0
Keeps c w x s = (s.turn ≡ c.turn) × (has_turn s.stand ≡ has_turn x)

abbrev Gets : Crew → ℕ → Stand → CrewStep → Type 0
Gets c w x s = (c.turn ≡ None) × (s.turn ≡ Some w) × (has_turn s.stand ≡ true)

abbrev GivesUp : Crew → ℕ → Stand → CrewStep → Type 0
GivesUp c w x s = (s.turn ≡ None) × (has_turn s.stand ≡ false) × (has_turn x ≡ true)

abbrev Turns : Crew → ℕ → Stand → CrewStep → Type 0
Turns c w x s = Keeps c w x s ⊎ (Gets c w x s ⊎ GivesUp c w x s)

drawn_free : (drawn more : List ℕ) (full left : Bool) → has_turn (cond left (cond full (Waiting more false) (Drawing more)) (Waiting drawn true)) ≡ false
drawn_free drawn more true true = refl
drawn_free drawn more false true = refl
drawn_free drawn more true false = refl
drawn_free drawn more false false = refl

behind_free : (owed : List ℕ) (last : Bool) → has_turn (behind_post owed last) ≡ false
behind_free [] false = refl
behind_free [] true = refl
behind_free (batch ∷ owed) last = refl

turns_holding : (c : Crew) (w batch : ℕ) (owed : List ℕ) (last failed : Bool) (s : CrewStep)
    → MatchBool failed (s ≡ crew_step w [] None Ended) ((s ≡ crew_step w (Post w batch ∷ []) c.turn (Posted owed last)) ⊎ (s ≡ crew_step w (Fail w ∷ []) None Ended))
    → Turns c w (Holding (batch ∷ owed) last) s
turns_holding c w batch owed last true s e = subst (Turns c w (Holding (batch ∷ owed) last)) (sym e) (inr (inr (refl, refl, refl)))
turns_holding c w batch owed last false s e =
    ⊎_elim (λ e. subst (Turns c w (Holding (batch ∷ owed) last)) (sym e) (inl (refl, refl))) (λ e. subst (Turns c w (Holding (batch ∷ owed) last)) (sym e) (inr (inr (refl, refl, refl)))) e

turns : (c : Crew) (w : ℕ) (x : Stand) (s : CrewStep) → IsCrewStep c w x s → Turns c w x s
turns c w (Drawing drawn) s e =
    let more = drawn ++ c.campaign.next ∷ [] in
    subst (Turns c w (Drawing drawn)) (sym e) (inl (refl, drawn_free drawn more (length more == 4) (nat_lt c.campaign.next c.campaign.limit)))
turns c w (Waiting owed last) s e = subst (Turns c w (Waiting owed last)) (sym e.1) (inr (inl (e.0, refl, refl)))
turns c w (Holding [] last) s e = subst (Turns c w (Holding [] last)) (sym e) (inr (inr (refl, refl, refl)))
turns c w (Holding (batch ∷ owed) last) s e = turns_holding c w batch owed last c.campaign.failed s e
turns c w (Posted owed last) s e = subst (Turns c w (Posted owed last)) (sym e) (inr (inr (refl, behind_free owed last, refl)))
turns c w Ended s e = absurd e

-- who has the turn stands with it, and nobody else
record HasOne (turn : Option ℕ) (stands : List Stand) : Type 0 where
  held : (v : ℕ) → turn ≡ Some v → has_turn (get_or stands v Ended) ≡ true
  one : (v : ℕ) → has_turn (get_or stands v Ended) ≡ true → turn ≡ Some v

same_worker : (turn : Option ℕ) (v w : ℕ) → turn ≡ Some v → turn ≡ Some w → v ≡ w
same_worker turn v w e f = cc

module _ (c : Crew) (w : ℕ) (s : CrewStep) (there : w < length c.stands) (h : HasOne c.turn c.stands) where
  here : (v : ℕ) → v ≡ w → has_turn (get_or (set c.stands w s.stand) v Ended) ≡ has_turn s.stand
  here v e = ap (λ v. has_turn (get_or (set c.stands w s.stand) v Ended)) e ∙ ap has_turn (at_same c.stands w s.stand there)

  away : (v : ℕ) → (v ≡ w → ⊥) → has_turn (get_or (set c.stands w s.stand) v Ended) ≡ has_turn (get_or c.stands v Ended)
  away v n = ap has_turn (at_other c.stands w v s.stand n)

  kept : Keeps c w (get_or c.stands w Ended) s → HasOne s.turn (set c.stands w s.stand)
  kept k =
      let same : (v : ℕ) → has_turn (get_or (set c.stands w s.stand) v Ended) ≡ has_turn (get_or c.stands v Ended)
      = λ v. ⊎_elim (λ e. here v e ∙ (k.1 ∙ ap (λ v. has_turn (get_or c.stands v Ended)) (sym e))) (λ n. away v n) (cases_eq v w) in
      record { held = λ v t. same v ∙ h.held v (sym k.0 ∙ t); one = λ v t. k.0 ∙ h.one v (sym (same v) ∙ t) }

  got : Gets c w (get_or c.stands w Ended) s → HasOne s.turn (set c.stands w s.stand)
  got k = record {
    held = λ v t. here v (same_worker s.turn v w t k.1) ∙ k.2;
    one = λ v t. ⊎_elim (λ e. k.1 ∙ ap Some (sym e)) (λ n. absurd (let was : c.turn ≡ Some v = h.one v (sym (away v n) ∙ t) in let none : c.turn ≡ None = k.0 in cc)) (cases_eq v w);
  }

  given_up : GivesUp c w (get_or c.stands w Ended) s → HasOne s.turn (set c.stands w s.stand)
  given_up k = record {
    held = λ v t. absurd (let none : s.turn ≡ None = k.0 in cc);
    one = λ v t. absurd (⊎_elim (λ e. false≢true (sym k.1 ∙ (sym (here v e) ∙ t))) (λ n. n (same_worker c.turn v w (h.one v (sym (away v n) ∙ t)) (h.one w k.2))) (cases_eq v w));
  }

  has_one : Turns c w (get_or c.stands w Ended) s → HasOne s.turn (set c.stands w s.stand)
  has_one turn = ⊎_elim kept (λ r. ⊎_elim got given_up r) turn

one_after : (c : Crew) (s : CrewStep) → MayTake c s → HasOne c.turn c.stands → HasOne s.turn (set c.stands s.worker s.stand)
one_after c s may h = has_one c s.worker s (is_there c.stands s.worker (not_ended c s may)) h (turns c s.worker (stand_of c s.worker) s may)

one_after_all : (c : Crew) (ss : List CrewStep) (d : Crew) → Leads c ss d → HasOne c.turn c.stands → HasOne d.turn d.stands
one_after_all c [] d e h = subst (λ d. HasOne d.turn d.stands) e h
one_after_all c (s ∷ ss) d e h = one_after_all (after_step c s) ss d e.1 (one_after c s e.0 h)

nobody_begins : (workers v : ℕ) → has_turn (get_or (replicate workers (Drawing [])) v Ended) ≡ false
nobody_begins zero v = refl
nobody_begins (suc workers) zero = refl
nobody_begins (suc workers) (suc v) = nobody_begins workers v

one_begins : (workers : ℕ) → HasOne None (replicate workers (Drawing []))
one_begins workers = record {
  held = λ v t. absurd (cc);
  one = λ v t. absurd (false≢true (sym (nobody_begins workers v) ∙ t));
}

-- who has the turn may take a step
holding_goes_on : (c : Crew) (w batch : ℕ) (owed : List ℕ) (last failed : Bool)
    → (s : CrewStep) × (s.worker ≡ w) × MatchBool failed (s ≡ crew_step w [] None Ended) ((s ≡ crew_step w (Post w batch ∷ []) c.turn (Posted owed last)) ⊎ (s ≡ crew_step w (Fail w ∷ []) None Ended))
holding_goes_on c w batch owed last true = (crew_step w [] None Ended, refl, refl)
holding_goes_on c w batch owed last false = (crew_step w (Post w batch ∷ []) c.turn (Posted owed last), refl, inl refl)

goes_on : (c : Crew) (w : ℕ) (x : Stand) → has_turn x ≡ true → (s : CrewStep) × (s.worker ≡ w) × IsCrewStep c w x s
goes_on c w (Drawing drawn) h = absurd (false≢true h)
goes_on c w (Waiting owed last) h = absurd (false≢true h)
goes_on c w (Holding [] last) h = (crew_step w [] None Ended, refl, refl)
goes_on c w (Holding (batch ∷ owed) last) h = holding_goes_on c w batch owed last c.campaign.failed
goes_on c w (Posted owed last) h = (crew_step w [] None (behind_post owed last), refl, refl)
goes_on c w Ended h = absurd (false≢true h)

-- a step of the worker w from where it stands is one that may be taken
may_take : (c : Crew) (w : ℕ) (x : Stand) (s : CrewStep) → stand_of c w ≡ x → s.worker ≡ w → IsCrewStep c w x s → MayTake c s
may_take c w x s at own step =
    let there : IsCrewStep c w (stand_of c w) s = subst (λ x. IsCrewStep c w x s) (sym at) step in
    subst (λ v. IsCrewStep c v (stand_of c v) s) (sym own) there

holder_goes_on : (c : Crew) → HasOne c.turn c.stands → (w : ℕ) → c.turn ≡ Some w → (s : CrewStep) × (s.worker ≡ w) × MayTake c s
holder_goes_on c h w t = let on = goes_on c w (stand_of c w) (h.held w t) in (on.0, on.1, may_take c w (stand_of c w) on.0 refl on.1 on.2)

wanting_goes_on : (c : Crew) (w : ℕ) (owed : List ℕ) (last : Bool) (turn : Option ℕ) → HasOne c.turn c.stands → stand_of c w ≡ Waiting owed last → c.turn ≡ turn → (s : CrewStep) × MayTake c s
wanting_goes_on c w owed last None h at free = let s = crew_step w (Look w ∷ []) (Some w) (Holding owed last) in (s, may_take c w (Waiting owed last) s at refl (free, refl))
wanting_goes_on c w owed last (Some v) h at taken = let on = holder_goes_on c h v taken in (on.0, on.2)

some_goes_on : (c : Crew) (w : ℕ) (x : Stand) → HasOne c.turn c.stands → stand_of c w ≡ x → (x ≡ Ended → ⊥) → (s : CrewStep) × MayTake c s
some_goes_on c w (Drawing drawn) h at n =
    let s = crew_step w (Draw w ∷ []) c.turn (cond (nat_lt c.campaign.next c.campaign.limit) (with_drawn (drawn ++ c.campaign.next ∷ [])) (Waiting drawn true)) in
    (s, may_take c w (Drawing drawn) s at refl refl)
some_goes_on c w (Waiting owed last) h at n = wanting_goes_on c w owed last c.turn h at refl
some_goes_on c w (Holding owed last) h at n = let on = goes_on c w (Holding owed last) refl in (on.0, may_take c w (Holding owed last) on.0 at on.1 on.2)
some_goes_on c w (Posted owed last) h at n = let on = goes_on c w (Posted owed last) refl in (on.0, may_take c w (Posted owed last) on.0 at on.1 on.2)
some_goes_on c w Ended h at n = absurd (n refl)

pub some_can : SomeCanGoOn
some_can batches workers steps c e =
    let h = one_after_all (fresh_crew batches workers) steps c e (one_begins workers) in
    record { some = λ w n. some_goes_on c w (stand_of c w) h refl n; turn = λ w. (h.one w, h.held w); holder = holder_goes_on c h }
