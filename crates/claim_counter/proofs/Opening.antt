-- The table that was just made keeps the rule, and so does the step that takes its turn.
use Rattle.std.proofs.Common.{◌≡◌, ℕ, zero, suc, ◌+◌, ◌-◌, ◌<◌, ◌≤◌, ◌==◌, Bool, true, false, cond, List, [], ◌∷◌, replicate, set, sym, refl, ap, ◌∙◌, subst, arith, inl, inr, ⊎_elim, Option, Some, None, slice_index}
use Rattle.std.specs.List.{sum_by}
use Rattle.std.proofs.lemmas.List.Sums.{sum_by-cons}
use Rattle.std.proofs.lemmas.Bool.Decides.{nat_tests}
use mathlib.Core.Option.{some, none, some-injective, some-ne-none}
use mathlib.Core.List.{IsPrefix}
use lib.ListN.{get_elem?}
use prog.Atomic.{either}
use Rattle.atomic_table.specs.Table.{State, opening, takes, step, stepped, Allows}
use Rattle.atomic_table.proofs.Lists.{at_set}
use Rattle.campaign_core.specs.Machines.{times}
use Rattle.claim_counter.specs.declared.view.View.{View}
use Rattle.claim_counter.specs.Views.{opening_view, starting_view}
use Rattle.claim_counter.specs.Rules.{holder, knower, Fresh, Rule}
use Rattle.claim_counter.specs.Plays.{Opens}
use Rattle.claim_counter.proofs.Views.{sum_at, sum_same, each_set, false_true}
use Rattle.claim_counter.proofs.Frames.{claims_frame, history_frame, none_holds}
use Rattle.claim_counter.proofs.Takes.{nothing_home}

sum_one : {A : Type 0} (f : A → ℕ) (v : A) → sum_by f (v ∷ []) ≡ f v
sum_one f v = omega (arith, sum_by-cons f v [])

pub first_only : {A : Type 0} (P : A → Type 0) (v : A) → P v → (i : ℕ) (u : A) → get_elem? (v ∷ []) i ≡ some u → P u
first_only P v p zero u e = subst P (some-injective v u e) p
first_only P v p (suc i) u e = absurd (some-ne-none u (sym e))

at_zero : {A : Type 0} (v : A) (i : ℕ) (u : A) → get_elem? (v ∷ []) i ≡ some u → i ≡ 0
at_zero v zero u e = refl
at_zero v (suc i) u e = absurd (some-ne-none u (sym e))

empty_home : {V X : Type 0} (x : V) → ◌≡◌ {A = mathlib.Core.Option.Option (mathlib.Core.Option.Option (Option V))} (some (some None)) (some (some (Some x))) → X
empty_home x e = absurd (cc (some-injective None (Some x) (some-injective (some None) (some (Some x)) e)))

module _ {V : Type 0} (list : V → List ℕ) (failed : V → Bool) where
  pub starts : (todo : ℕ) (ws : List ℕ) → ws ≡ replicate (todo + 2) 0 → Rule list failed todo (opening ws (replicate 1 None) (opening_view todo))
  starts todo ws e = let v = opening_view todo in record {
    counter = 0;
    turn = 0;
    tail = replicate (todo - 0) 0;
    history = [];
    words = let a : todo + 2 ≡ suc (suc (todo - 0)) = omega arith in e ∙ ap (λ (k : ℕ). replicate k 0) a;
    claims_rule = record {
      claims = λ x. grind (arith, nat_tests, sum_one (λ (u : View). times x u.claims) v);
      shares = sum_one (λ (u : View). u.share) v;
      over = omega arith;
      stops = λ p. absurd (let a = sum_one (λ (u : View). u.nones) v in omega arith);
      limit = first_only (λ (u : View). u.nones ≤ u.share) v (omega arith);
      spent = first_only (λ (u : View). u.share ≡ 0 → (u.nones ≡ 0) × (u.claims ≡ [])) v (λ z. absurd (omega arith));
      knows = first_only (λ (u : View). 0 < u.share → u.todo ≡ todo) v (λ p. refl);
    };
    turn_rule = inr (inr (record {
      home = refl;
      word = refl;
      only = at_zero v;
      shut = first_only (λ (u : View). u.opened ≡ false) v refl;
      nobody = sum_one holder v;
      told = sum_one knower v;
    }));
    history_rule = record {
      words = refl;
      room = omega arith;
      posts = λ x. sum_one (λ (u : View). times x u.posts) v;
      own = first_only (λ (u : View). (x : ℕ) → times x u.posts ≤ times x u.claims) v (λ x. omega arith);
      seen = first_only (λ (u : View). IsPrefix u.seen []) v ([], refl);
      value = λ x there. empty_home x there;
      holder = first_only (λ (u : View). u.holds ≡ true → u.seen ≡ []) v (λ e. refl);
      empty = λ there. refl;
    };
  }

module _ {V : Type 0} (list : V → List ℕ) (failed : V → Bool) (todo : ℕ) (s : State (Option V) View) (id : ℕ) (h : Rule list failed todo s) (at : get_elem? s.views id ≡ some (opening_view todo)) where
  -- a view that isn't open shows that the table was just made
  pub fresh_found : Fresh failed h.turn s.homes s.views
  fresh_found = ⊎_elim (λ f. false_true false refl (f.all_open id (opening_view todo) at)) (λ r. ⊎_elim (λ o. false_true false refl (o.all_open id (opening_view todo) at)) (λ f. f) r) h.turn_rule

  -- the rule after the first turn was taken, and the empty slot with it
  pub open_rule : Rule list failed todo (stepped s 1 1 id [] (starting_view todo) (takes 0 None))
  open_rule =
      let v = opening_view todo in
      let w = starting_view todo in
      let f = fresh_found in
      let away : set s.homes 0 none ≡ none ∷ [] = ap (λ hs. set hs 0 none) f.home in
      let empty = h.history_rule.empty (ap (λ hs. get_elem? hs 0) f.home) in
      let a = sum_at holder s.views id v w at in record {
        counter = h.counter;
        turn = 1;
        tail = h.tail;
        history = h.history;
        words = ap (λ (ws : List ℕ). set ws 1 1) h.words;
        claims_rule = claims_frame todo h.counter s.views id v w at refl refl refl refl h.claims_rule;
        turn_rule = inr (inl (record {
          home = away;
          word = inl refl;
          one = omega (arith, f.nobody);
          told = λ one. sum_same knower s.views id v w at refl ∙ f.told;
          holds = each_set (λ u. u.holds ≡ true → (0 < u.share) × (1 ≡ cond u.fails 3 1)) s.views id w (λ e. (omega arith, refl)) (λ i u there e. none_holds s.views f.nobody i u there e);
          all_open = λ j u there. ⊎_elim
              (λ (t : (j ≡ id) × (w ≡ u)). let P : View → Type 0 = λ u. u.opened ≡ true in subst P t.1 refl)
              (λ t. absurd (t.0 (f.only j u t.1 ∙ sym (f.only id v at))))
              (at_set s.views id j w u there);
        }));
        history_rule = history_frame list todo h.tail h.history s.homes (set s.homes 0 none) s.views id v w at refl (λ x. omega arith) (h.history, refl) (λ e. sym empty) (λ x there. nothing_home (set s.homes 0 none) (Some x) away there) (λ there. nothing_home (set s.homes 0 none) None away there) h.history_rule;
      }

module _ {V : Type 0} (list : V → List ℕ) (failed : V → Bool) where
  pub opens : (todo slots id : ℕ) → Allows (Rule list failed todo) slots id (opening_view todo, []) 1 (λ n. either (n == 0) 1 n) (Opens (step slots 1 0 1 none) (opening_view todo, []))
  opens todo slots id s h len at fits =
      let f = fresh_found list failed todo s id h at in
      let found : slice_index s.words 1 ≡ 0 = ap (λ (ws : List ℕ). slice_index ws 1) h.words ∙ f.word in
      let P : ℕ → Type 0 = λ m. Rule list failed todo (stepped s 1 m id [] (starting_view todo) (takes 0 None)) in
      let e : 1 ≡ either (slice_index s.words 1 == 0) 1 (slice_index s.words 1) = ap (λ (n : ℕ). either (n == 0) 1 n) (sym found) in
      (starting_view todo, takes 0 None, ap (λ hs. get_elem? hs 0) f.home, subst P e (open_rule list failed todo s id h at), refl)
