-- A view takes in another.
use Rattle.std.proofs.Common.{◌≡◌, ℕ, ◌+◌, ◌<◌, ◌≤◌, ◌≢◌, ◌||◌, Bool, true, false, cond, List, [], length, set, sym, refl, ap, ◌∙◌, arith, inl, inr, ⊎_elim, nat_lt}
use Rattle.std.specs.List.{sum_by}
use mathlib.Core.Option.{some}
use mathlib.Core.List.{IsPrefix}
use lib.ListN.{get_elem?}
use Rattle.atomic_table.specs.Table.{Joins}
use Rattle.atomic_table.proofs.Lists.{set_else}
use Rattle.campaign_core.specs.Machines.{times}
use Rattle.claim_counter.specs.declared.view.View.{View}
use Rattle.claim_counter.specs.Views.{longer, joined_views, spent_view}
use Rattle.claim_counter.specs.Rules.{ClaimsRule, HistoryRule, holder, knower, Homes, TurnRule, Rule}
use Rattle.claim_counter.proofs.Views.{le_sum, each_set, sum_joined, times-append, false_true}

longer_prefix : (xs ys history : List ℕ) → IsPrefix xs history → IsPrefix ys history → IsPrefix (longer xs ys) history
longer_prefix xs ys history p q = let f : (b : Bool) → IsPrefix (cond b ys xs) history = λ b. elim b as (λ b. IsPrefix (cond b ys xs) history) [ true ↦ q | false ↦ p ] in f (nat_lt (length xs) (length ys))

joined_prefix : (b : Bool) (xs ys history : List ℕ) → IsPrefix xs history → IsPrefix ys history → IsPrefix (cond b xs (longer xs ys)) history
joined_prefix true xs ys history p q = p
joined_prefix false xs ys history p q = longer_prefix xs ys history p q

knower_or : (a b : Bool) → cond (a || b) 1 0 ≤ cond a 1 0 + cond b 1 0
knower_or true b = omega arith
knower_or false b = omega arith

word_or : (t : ℕ) (a b : Bool) → t ≡ cond a 3 1 → (t ≡ 1 → cond {A = ℕ} b 1 0 ≡ 0) → t ≡ cond (a || b) 3 1
word_or t true b e f = e
word_or t false true e f = absurd (omega (arith, f e))
word_or t false false e f = e

module _ (views : List View) (id other : ℕ) (v w : View) (at : get_elem? views id ≡ some v) (there : get_elem? (set views id (joined_views v w)) other ≡ some w) (apart : other ≢ id) where
  was : get_elem? views other ≡ some w
  was = sym (set_else views id other (joined_views v w) apart) ∙ there

  sum_join : (f : View → ℕ) → f spent_view ≡ 0 → sum_by f (set (set views id (joined_views v w)) other spent_view) + (f v + f w) ≡ sum_by f views + f (joined_views v w)
  sum_join f none_ = let a = sum_joined f views id other v w (joined_views v w) spent_view at there in omega arith

  each_join : (P : View → Type 0) → P (joined_views v w) → P spent_view → ((j : ℕ) (u : View) → get_elem? views j ≡ some u → P u) → (j : ℕ) (u : View) → get_elem? (set (set views id (joined_views v w)) other spent_view) j ≡ some u → P u
  each_join P one two old = each_set P (set views id (joined_views v w)) other spent_view two (each_set P views id (joined_views v w) one old)

  claims_join : (todo n : ℕ) → 0 < v.share → ClaimsRule todo n views → ClaimsRule todo n (set (set views id (joined_views v w)) other spent_view)
  claims_join todo n some_share h = record {
    claims = λ x. let a = sum_join (λ u. times x u.claims) refl in omega (arith, h.claims x, times-append x v.claims w.claims);
    shares = let a = sum_join (λ u. u.share) refl in omega (arith, h.shares);
    over = let a = sum_join (λ u. u.nones) refl in omega (arith, h.over);
    stops = λ p. let a = sum_join (λ u. u.nones) refl in h.stops (omega arith);
    limit = each_join (λ u. u.nones ≤ u.share) (omega (arith, h.limit id v at, h.limit other w was)) (omega arith) h.limit;
    spent = each_join (λ u. u.share ≡ 0 → (u.nones ≡ 0) × (u.claims ≡ [])) (λ z. absurd (omega arith)) (λ z. (refl, refl)) h.spent;
    knows = each_join (λ u. 0 < u.share → u.todo ≡ todo) (λ p. h.knows id v at some_share) (λ p. absurd (omega arith)) h.knows;
  }

  module _ {V : Type 0} (list : V → List ℕ) (failed : V → Bool) (homes : Homes V) where
    history_join : (todo : ℕ) (tail history : List ℕ) → HistoryRule list todo tail history homes views → HistoryRule list todo tail history homes (set (set views id (joined_views v w)) other spent_view)
    history_join todo tail history h = record {
      words = h.words;
      room = h.room;
      posts = λ x. let a = sum_join (λ u. times x u.posts) refl in omega (arith, h.posts x, times-append x v.posts w.posts);
      own = each_join (λ u. (x : ℕ) → times x u.posts ≤ times x u.claims) (λ x. omega (arith, h.own id v at x, h.own other w was x, times-append x v.posts w.posts, times-append x v.claims w.claims)) (λ x. omega arith) h.own;
      seen = each_join (λ u. IsPrefix u.seen history) (joined_prefix v.holds v.seen w.seen history (h.seen id v at) (h.seen other w was)) (history, refl) h.seen;
      value = h.value;
      holder = each_join (λ u. u.holds ≡ true → u.seen ≡ history) (λ e. ap (λ (b : Bool). cond b v.seen (longer v.seen w.seen)) e ∙ h.holder id v at e) (λ e. false_true false refl e) h.holder;
      empty = h.empty;
    }

    turn_join : (t : ℕ) → v.opened ≡ true → w.holds ≡ false → TurnRule failed t homes views → TurnRule failed t homes (set (set views id (joined_views v w)) other spent_view)
    turn_join t is_open free h =
        let a = sum_join holder refl in
        let b = sum_join knower refl in
        let c = knower_or v.fails w.fails in
        let d : holder w ≡ 0 = ap (λ (b : Bool). cond b 1 0) free in
        let lw = le_sum knower views other w was in
        ⊎_elim
        (λ f. inl (record {
          value = f.value;
          home = f.home;
          word = f.word;
          nobody = omega (arith, f.nobody);
          told = λ e. omega (arith, f.told e);
          all_open = each_join (λ u. u.opened ≡ true) refl refl f.all_open;
        }))
        (λ r. inr (⊎_elim
        (λ o. inl (record {
          home = o.home;
          word = o.word;
          one = omega (arith, o.one);
          told = λ e. omega (arith, o.told e);
          holds = each_join (λ u. u.holds ≡ true → (0 < u.share) × (t ≡ cond u.fails 3 1))
              (λ e. let x = o.holds id v at e in let y = x.0 in (omega arith, word_or t v.fails w.fails x.1 (λ one. omega (arith, o.told one))))
              (λ e. false_true false refl e)
              o.holds;
          all_open = each_join (λ u. u.opened ≡ true) refl refl o.all_open;
        }))
        (λ f. false_true v.opened (f.shut id v at) is_open)
        r))
        h

module _ {V : Type 0} (list : V → List ℕ) (failed : V → Bool) where
  pub joins : (todo id other : ℕ) (v w : View) → v.opened ≡ true → 0 < v.share → w.holds ≡ false → Joins (Rule list failed todo) id v other w (joined_views v w) spent_view
  joins todo id other v w is_open some_share free s h at apart there = record {
    counter = h.counter;
    turn = h.turn;
    tail = h.tail;
    history = h.history;
    words = h.words;
    claims_rule = claims_join s.views id other v w at there apart todo h.counter some_share h.claims_rule;
    turn_rule = turn_join s.views id other v w at there apart list failed s.homes h.turn is_open free h.turn_rule;
    history_rule = history_join s.views id other v w at there apart list failed s.homes todo h.tail h.history h.history_rule;
  }
