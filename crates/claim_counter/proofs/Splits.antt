-- A view is cut in two.
use Rattle.std.proofs.Common.{◌≡◌, ℕ, ◌+◌, ◌<◌, ◌≤◌, Bool, true, false, cond, List, [], ◌∷◌, ◌++◌, set, refl, arith, inl, inr, ⊎_elim}
use Rattle.std.specs.List.{sum_by}
use Rattle.std.proofs.lemmas.List.Sums.{sum_by_push}
use mathlib.Core.Option.{some}
use mathlib.Core.List.{IsPrefix}
use lib.ListN.{get_elem?}
use Rattle.atomic_table.specs.Table.{Splits}
use Rattle.campaign_core.specs.Machines.{times}
use Rattle.claim_counter.specs.declared.view.View.{View}
use Rattle.claim_counter.specs.Views.{less_one, with_one}
use Rattle.claim_counter.specs.Rules.{ClaimsRule, HistoryRule, holder, knower, Homes, TurnRule, Rule}
use Rattle.claim_counter.proofs.Views.{sum_at, each_set, each_snoc, false_true}

module _ (views : List View) (id : ℕ) (v : View) (at : get_elem? views id ≡ some v) where
  cut : List View
  cut = set views id (less_one v) ++ with_one v ∷ []

  -- a sum after the cut
  sum_cut : (f : View → ℕ) → sum_by f (set views id (less_one v) ++ with_one v ∷ []) + f v ≡ sum_by f views + (f (less_one v) + f (with_one v))
  sum_cut f = let a = sum_at f views id v (less_one v) at in omega (arith, sum_by_push f (set views id (less_one v)) (with_one v))

  each_cut : (P : View → Type 0) → P (less_one v) → P (with_one v) → ((j : ℕ) (u : View) → get_elem? views j ≡ some u → P u) → (j : ℕ) (u : View) → get_elem? (set views id (less_one v) ++ with_one v ∷ []) j ≡ some u → P u
  each_cut P one two old = each_snoc P (set views id (less_one v)) (with_one v) two (each_set P views id (less_one v) one old)

  claims_cut : (todo n : ℕ) → 2 ≤ v.share → v.nones ≡ 0 → ClaimsRule todo n views → ClaimsRule todo n (set views id (less_one v) ++ with_one v ∷ [])
  claims_cut todo n two no_nones h = record {
    claims = λ x. let a = sum_cut (λ u. times x u.claims) in omega (arith, h.claims x);
    shares = let a = sum_cut (λ u. u.share) in omega (arith, h.shares);
    over = let a = sum_cut (λ u. u.nones) in omega (arith, h.over);
    stops = λ p. let a = sum_cut (λ u. u.nones) in h.stops (omega arith);
    limit = each_cut (λ u. u.nones ≤ u.share) (omega arith) (omega arith) h.limit;
    spent = each_cut (λ u. u.share ≡ 0 → (u.nones ≡ 0) × (u.claims ≡ [])) (λ z. absurd (omega arith)) (λ z. absurd (omega arith)) h.spent;
    knows = each_cut (λ u. 0 < u.share → u.todo ≡ todo) (λ p. h.knows id v at (omega arith)) (λ p. h.knows id v at (omega arith)) h.knows;
  }

  module _ {V : Type 0} (list : V → List ℕ) (failed : V → Bool) (homes : Homes V) where
    history_cut : (todo : ℕ) (tail history : List ℕ) → HistoryRule list todo tail history homes views → HistoryRule list todo tail history homes (set views id (less_one v) ++ with_one v ∷ [])
    history_cut todo tail history h = record {
      words = h.words;
      room = h.room;
      posts = λ x. let a = sum_cut (λ u. times x u.posts) in omega (arith, h.posts x);
      own = each_cut (λ u. (x : ℕ) → times x u.posts ≤ times x u.claims) (h.own id v at) (λ x. omega arith) h.own;
      seen = each_cut (λ u. IsPrefix u.seen history) (h.seen id v at) (h.seen id v at) h.seen;
      value = h.value;
      holder = each_cut (λ u. u.holds ≡ true → u.seen ≡ history) (h.holder id v at) (λ e. false_true false refl e) h.holder;
      empty = h.empty;
    }

    turn_cut : (t : ℕ) → 2 ≤ v.share → v.opened ≡ true → TurnRule failed t homes views → TurnRule failed t homes (set views id (less_one v) ++ with_one v ∷ [])
    turn_cut t two is_open h =
        let a = sum_cut holder in
        let b = sum_cut knower in
        ⊎_elim
        (λ f. inl (record {
          value = f.value;
          home = f.home;
          word = f.word;
          nobody = omega (arith, f.nobody);
          told = λ e. omega (arith, f.told e);
          all_open = each_cut (λ u. u.opened ≡ true) is_open refl f.all_open;
        }))
        (λ r. inr (⊎_elim
        (λ o. inl (record {
          home = o.home;
          word = o.word;
          one = omega (arith, o.one);
          told = λ e. omega (arith, o.told e);
          holds = each_cut (λ u. u.holds ≡ true → (0 < u.share) × (t ≡ cond u.fails 3 1)) (λ e. (omega arith, (o.holds id v at e).1)) (λ e. false_true false refl e) o.holds;
          all_open = each_cut (λ u. u.opened ≡ true) is_open refl o.all_open;
        }))
        (λ f. false_true v.opened (f.shut id v at) is_open)
        r))
        h

module _ {V : Type 0} (list : V → List ℕ) (failed : V → Bool) where
  pub splits : (todo id : ℕ) (v : View) → v.opened ≡ true → 2 ≤ v.share → v.nones ≡ 0 → Splits (Rule list failed todo) id v (less_one v) (with_one v)
  splits todo id v is_open two no_nones s h at = record {
    counter = h.counter;
    turn = h.turn;
    tail = h.tail;
    history = h.history;
    words = h.words;
    claims_rule = claims_cut s.views id v at todo h.counter two no_nones h.claims_rule;
    turn_rule = turn_cut s.views id v at list failed s.homes h.turn two is_open h.turn_rule;
    history_rule = history_cut s.views id v at list failed s.homes todo h.tail h.history h.history_rule;
  }
