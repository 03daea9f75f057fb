-- A load tells that there is room, and a number is noted.
use Rattle.std.proofs.Common.{◌≡◌, ℕ, suc, ◌+◌, ◌-◌, ◌<◌, ◌≤◌, ◌≢◌, ◌==◌, Bool, true, false, List, [], ◌∷◌, ◌++◌, length, map, replicate, set, sym, refl, ap, ◌∙◌, subst, arith, ⊎_elim, min, Option, Some, None, slice_index, length-append, append_assoc}
use Rattle.std.specs.List.{sum_by}
use Rattle.std.proofs.lemmas.Bool.Decides.{nat_tests}
use mathlib.Core.Option.{some, none}
use mathlib.Core.List.{IsPrefix}
use lib.ListN.{get_elem?}
use Rattle.atomic_table.specs.Table.{State, keeps, step, stepped, Allows}
use Rattle.atomic_table.proofs.Lists.{at_set, set_else}
use Rattle.campaign_core.specs.Machines.{times, once_below}
use Rattle.claim_counter.specs.declared.view.View.{View}
use Rattle.claim_counter.specs.Views.{spent_view, noting}
use Rattle.claim_counter.specs.Rules.{HistoryRule, holder, Rule}
use Rattle.claim_counter.specs.Plays.{Learns, Notes}
use Rattle.claim_counter.proofs.Views.{sum_at, le_sum, each_set, times-snoc}
use Rattle.claim_counter.proofs.Frames.{same_rule, claims_frame, turn_frame, out_held, prefix_self, holds_one}
use Rattle.claim_counter.proofs.Logs.{history_room}
use Rattle.claim_counter.proofs.Takes.{nothing_home}

below : (d todo n : ℕ) → 0 < once_below d (min n todo) → d < todo
below d todo n h = grind (arith, nat_tests)

-- the first zero word is the next
store_word : (history : List ℕ) (k d : ℕ) → set (map (λ k. k + 1) history ++ replicate (suc k) 0) (length history) (d + 1) ≡ map (λ k. k + 1) (history ++ d ∷ []) ++ replicate k 0
store_word [] k d = refl
store_word (x ∷ history) k d = ap (λ ws. (x + 1) ∷ ws) (store_word history k d)

store_tail : (todo : ℕ) (history : List ℕ) (d : ℕ) → length history < todo
    → set (map (λ k. k + 1) history ++ replicate (todo - length history) 0) (length history) (d + 1) ≡ map (λ k. k + 1) (history ++ d ∷ []) ++ replicate (todo - length (history ++ d ∷ [])) 0
store_tail todo history d less =
    let k = todo - length (history ++ d ∷ []) in
    let e : todo - length history ≡ suc k = omega (arith, length-append history (d ∷ [])) in
    ap (λ (n : ℕ). set (map (λ k. k + 1) history ++ replicate n 0) (length history) (d + 1)) e ∙ store_word history k d

prefix_more : (xs ys : List ℕ) (d : ℕ) → IsPrefix xs ys → IsPrefix xs (ys ++ d ∷ [])
prefix_more xs ys d p = (p.0 ++ d ∷ [], sym (append_assoc xs p.0 (d ∷ [])) ∙ ap (λ w. w ++ d ∷ []) p.1)

-- one view at most holds the turn
only_holder : {X : Type 0} (views : List View) (i j : ℕ) (v u : View) → sum_by holder views ≡ 1 → get_elem? views i ≡ some v → v.holds ≡ true → j ≢ i → get_elem? views j ≡ some u → u.holds ≡ true → X
only_holder views i j v u one at mine apart there theirs =
    let a = sum_at holder views i v spent_view at in
    let b = le_sum holder (set views i spent_view) j u (set_else views i j spent_view apart ∙ there) in
    absurd (omega (arith, holds_one v mine, holds_one u theirs))

-- a list with one more number stays within claims that have this number
one_more : (x d : ℕ) (posts claims : List ℕ) → times x posts ≤ times x claims → times d posts ≡ 0 → 0 < times d claims → times x (posts ++ d ∷ []) ≤ times x claims
one_more x d posts claims le not_posted some_claim =
    let go : (t : Bool) → (d == x) ≡ t → times x (posts ++ d ∷ []) ≤ times x claims = λ t. elim t as (λ t. (d == x) ≡ t → times x (posts ++ d ∷ []) ≤ times x claims) [
      | true ↦ λ is. let same : d ≡ x = grind (arith, nat_tests) in let P : ℕ → Type 0 = λ y. times y (posts ++ d ∷ []) ≤ times y claims in subst P same (grind (arith, nat_tests, times-snoc d posts d))
      | false ↦ λ is. grind (arith, nat_tests, times-snoc x posts d)
    ] in
    go (d == x) refl

module _ {V : Type 0} (list : V → List ℕ) (failed : V → Bool) (todo : ℕ) (s : State (Option V) View) (id : ℕ) (v : View) (h : Rule list failed todo s) (at : get_elem? s.views id ≡ some v) where
  -- there is a history word for a number that was drawn and not posted
  pub room_left : v.holds ≡ true → (d : ℕ) → 0 < times d v.claims → times d v.posts ≡ 0 → (length v.seen < todo) × (d < todo)
  room_left holds d some_claim not_posted =
      let room = history_room list todo h.counter h.tail h.history s.homes s.views h.claims_rule h.history_rule id v at d some_claim not_posted in
      let e : length v.seen ≡ length h.history = ap length (h.history_rule.holder id v at holds) in
      let a = le_sum (λ (u : View). times d u.claims) s.views id v at in
      let b = below d todo h.counter (omega (arith, h.claims_rule.claims d)) in
      (omega arith, b)

  module _ (d : ℕ) (holds : v.holds ≡ true) (some_claim : 0 < times d v.claims) (not_posted : times d v.posts ≡ 0) where
    pub history_more : HistoryRule list todo (set h.tail (length h.history) (d + 1)) (h.history ++ d ∷ []) s.homes (set s.views id (noting v d))
    history_more =
        let w = noting v d in
        let o = out_held failed h.turn s.homes s.views id v h.turn_rule at holds in
        let whole : v.seen ≡ h.history = h.history_rule.holder id v at holds in
        let less = history_room list todo h.counter h.tail h.history s.homes s.views h.claims_rule h.history_rule id v at d some_claim not_posted in
        let tail = h.history_rule.words in record {
          words = ap (λ (ws : List ℕ). set ws (length h.history) (d + 1)) tail ∙ store_tail todo h.history d less;
          room = omega (arith, length-append h.history (d ∷ []));
          posts = λ x. let a = sum_at (λ u. times x u.posts) s.views id v w at in omega (arith, h.history_rule.posts x, times-snoc x v.posts d, times-snoc x h.history d);
          own = each_set (λ u. (x : ℕ) → times x u.posts ≤ times x u.claims) s.views id w (λ x. one_more x d v.posts v.claims (h.history_rule.own id v at x) not_posted some_claim) h.history_rule.own;
          seen = each_set (λ u. IsPrefix u.seen (h.history ++ d ∷ [])) s.views id w
              (subst (λ (l : List ℕ). IsPrefix l (h.history ++ d ∷ [])) (ap (λ l. l ++ d ∷ []) (sym whole)) (prefix_self (h.history ++ d ∷ [])))
              (λ i u there. prefix_more u.seen h.history d (h.history_rule.seen i u there));
          value = λ x there. nothing_home s.homes (Some x) o.home there;
          holder = λ j u there e. ⊎_elim
              (λ (t : (j ≡ id) × (w ≡ u)). let P : View → Type 0 = λ u. u.seen ≡ h.history ++ d ∷ [] in subst P t.1 (ap (λ l. l ++ d ∷ []) whole))
              (λ t. only_holder s.views id j v u o.one at holds t.0 t.1 e)
              (at_set s.views id j w u there);
          empty = λ there. nothing_home s.homes None o.home there;
        }

    -- the rule after the number was noted
    pub note_rule : (i : ℕ) → i ≡ 2 + length v.seen → Rule list failed todo (stepped s i (d + 1) id [] (noting v d) keeps)
    note_rule i place =
        let w = noting v d in
        let whole : v.seen ≡ h.history = h.history_rule.holder id v at holds in
        let e : i ≡ suc (suc (length h.history)) = omega (arith, ap length whole) in record {
          counter = h.counter;
          turn = h.turn;
          tail = set h.tail (length h.history) (d + 1);
          history = h.history ++ d ∷ [];
          words = ap (λ (p : List ℕ × ℕ). set p.0 p.1 (d + 1)) (λ j. (h.words j, e j));
          claims_rule = claims_frame todo h.counter s.views id v w at refl refl refl refl h.claims_rule;
          turn_rule = turn_frame failed h.turn s.homes s.views id v w at refl refl refl refl h.turn_rule;
          history_rule = history_more;
        }

module _ {V : Type 0} (list : V → List ℕ) (failed : V → Bool) where
  pub notes : (todo slots id i d : ℕ) (v : View) (c : List (ℕ × Option V)) → v.holds ≡ true → 0 < times d v.claims → times d v.posts ≡ 0 → i ≡ 2 + length v.seen
      → Allows (Rule list failed todo) slots id (v, c) i (λ _. d + 1) (λ _. Notes (step slots i (d + 1) 0 none) (v, c) (d + 1))
  notes todo slots id i d v c holds some_claim not_posted place s h len at fits =
      (noting v d, keeps, tt, note_rule list failed todo s id v h at d holds some_claim not_posted i place, λ e same. ap (λ (x : ℕ). (noting v x, c)) (omega arith))

  pub learns : (todo slots id : ℕ) (v : View) (c : List (ℕ × Option V)) → v.todo ≡ todo → Allows (Rule list failed todo) slots id (v, c) 0 (λ n. n) (Learns (step slots 0 0 0 none) (v, c))
  learns todo slots id v c knows s h len at fits =
      let words : set s.words 0 (slice_index s.words 0) ≡ s.words = ap (λ (ws : List ℕ). set ws 0 (slice_index ws 0)) h.words ∙ sym h.words in (
        v,
        keeps,
        tt,
        same_rule list failed todo s id 0 (slice_index s.words 0) v h at words,
        (refl, λ holds d some_claim not_posted. let a = room_left list failed todo s id v h at holds d some_claim not_posted in (omega arith, omega arith)),
      )
