-- What a table that is closed shows.
use Rattle.std.proofs.Common.{◌^◌, ◌≡◌, ℕ, suc, Bool, true, false, List, [], ◌∷◌, set, sym, refl, ap, ◌∙◌, subst, arith, ⊎_elim, min, Option, Some}
use Rattle.std.specs.List.{sum_by}
use Rattle.std.proofs.lemmas.List.Sums.{sum_by-cons}
use mathlib.Core.Option.{some}
use lib.ListN.{get_elem?}
use Rattle.atomic_table.specs.Table.{State, Final, Seen}
use Rattle.atomic_table.proofs.Lists.{at_set}
use Rattle.claim_counter.specs.declared.view.View.{View}
use Rattle.campaign_core.specs.Machines.{times, once_below}
use Rattle.claim_counter.specs.Seats.{Closed}
use Rattle.claim_counter.specs.Views.{spent_view}
use Rattle.claim_counter.specs.Rules.{ClaimsRule, holder, knower, Homes, Free, Out, Rule}
use Rattle.claim_counter.proofs.Views.{sum_at, le_sum, false_true}
use Rattle.claim_counter.proofs.Frames.{free_none}
use Rattle.claim_counter.proofs.Logs.{history_once, once_le}
use Rattle.claim_counter.proofs.Takes.{knows_failure}

sum_none : {A : Type 0} (f : A → ℕ) (xs : List A) → ((i : ℕ) (v : A) → get_elem? xs i ≡ some v → f v ≡ 0) → sum_by f xs ≡ 0
sum_none f [] each = refl
sum_none f (x ∷ xs) each = let a = each 0 x refl in let b = sum_none f xs (λ i u e. each (suc i) u e) in omega (arith, sum_by-cons f x xs)

-- who has all shares: every other view has none
all_mine : (todo n : ℕ) (views : List View) (id : ℕ) (v : View) → ClaimsRule todo n views → get_elem? views id ≡ some v → v.share ≡ 2 ^ 32 → (f : View → ℕ) → ((j : ℕ) (u : View) → get_elem? views j ≡ some u → u.share ≡ 0 → f u ≡ 0) → f spent_view ≡ 0 → sum_by f views ≡ f v
all_mine todo n views id v h at all f spent_f none_ =
    let a = sum_at (λ u. u.share) views id v spent_view at in
    let b = sum_at f views id v spent_view at in
    let rest : sum_by f (set views id spent_view) ≡ 0 = sum_none f (set views id spent_view) (λ j u there.
    let le = le_sum (λ (u : View). u.share) (set views id spent_view) j u there in
    ⊎_elim
    (λ (t : (j ≡ id) × (spent_view ≡ u)). let P : View → Type 0 = λ u. f u ≡ 0 in subst P t.1 none_)
    (λ t. spent_f j u t.1 (omega (arith, h.shares)))
    (at_set views id j spent_view u there)) in
    omega arith

-- a spent view doesn't hold the turn
no_holder : {V : Type 0} (failed : V → Bool) (t : ℕ) (homes : Homes V) (views : List View) → Out failed t homes views → (j : ℕ) (u : View) → get_elem? views j ≡ some u → u.share ≡ 0 → (b : Bool) → u.holds ≡ b → holder u ≡ 0
no_holder failed t homes views o j u there z true is = absurd (let a = (o.holds j u there is).0 in omega arith)
no_holder failed t homes views o j u there z false is = free_none u is

module _ {V : Type 0} (list : V → List ℕ) (failed : V → Bool) where
  -- a value at the end, with what the last seat knows of it
  pub record Shown (todo : ℕ) (v : View) (xs : List (Option V)) : Type 0 where
    pub value : V
    pub home : get_elem? xs 0 ≡ some (Some value)
    pub closed : Closed list failed todo v value

  -- who has all shares and doesn't hold the turn finds it free
  pub lone_free : (todo id : ℕ) (s : State (Option V) View) (v : View) (h : Rule list failed todo s) → get_elem? s.views id ≡ some v → v.share ≡ 2 ^ 32 → v.opened ≡ true → v.holds ≡ false → Free failed h.turn s.homes s.views
  lone_free todo id s v h at all is_open free =
      let mine = all_mine todo h.counter s.views id v h.claims_rule at all in
      ⊎_elim
      (λ f. f)
      (λ r. ⊎_elim
      (λ o. absurd (omega (arith, o.one, mine holder (λ j u there z. no_holder failed h.turn s.homes s.views o j u there z u.holds refl) refl, free_none v free)))
      (λ f. false_true v.opened (f.shut id v at) is_open)
      r)
      h.turn_rule

  pub closes : (todo id : ℕ) (v : View) (ws : List ℕ) (xs : List (Option V)) → v.share ≡ 2 ^ 32 → v.opened ≡ true → v.holds ≡ false → Final (Seen (Rule list failed todo) id v) ws xs → Shown todo v xs
  closes todo id v ws xs all is_open free (s, seen, words, len, homes) =
      let h = seen.0 in
      let at = seen.1 in
      let mine = all_mine todo h.counter s.views id v h.claims_rule at all in
      let f = lone_free todo id s v h at all is_open free in
      let same = h.history_rule.value f.value (ap (λ hs. get_elem? hs 0) f.home) in record {
        value = f.value;
        home = homes 0 (Some f.value) (ap (λ hs. get_elem? hs 0) f.home);
        closed = record {
          posts = λ x. ap (times x) same ∙ (sym (h.history_rule.posts x) ∙ mine (λ u. times x u.posts) (λ j u there z. let a = h.history_rule.own j u there x in let b = ap (times x) (h.claims_rule.spent j u there z).1 in omega arith) refl);
          once = λ x.
              let a = history_once list todo h.counter h.tail h.history s.homes s.views h.claims_rule h.history_rule x in
              let b = once_le x (min h.counter todo) todo (omega arith) in
              let c = ap (times x) same in
              omega arith;
          claims = λ some_none x.
              let n = mine (λ u. u.nones) (λ j u there z. (h.claims_rule.spent j u there z).0) refl in
              let reached = h.claims_rule.stops (omega arith) in
              let c = mine (λ u. times x u.claims) (λ j u there z. ap (times x) (h.claims_rule.spent j u there z).1) refl in
              sym c ∙ (h.claims_rule.claims x ∙ ap (once_below x) (omega arith));
          fails = knows_failure (failed f.value) v.fails (λ isnt. let z = f.told isnt in let le = le_sum knower s.views id v at in omega arith);
        };
      }
