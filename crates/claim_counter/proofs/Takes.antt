-- The turn is taken, or it isn't free and nothing changes.
use Rattle.std.proofs.Common.{◌≡◌, ℕ, ◌+◌, ◌<◌, ◌==◌, Bool, true, false, cond, List, [], ◌∷◌, set, sym, refl, ap, ◌∙◌, subst, arith, ◌⊎◌, inl, inr, ⊎_elim, min, Option, Some, None, slice_index, MatchBool}
use Rattle.std.proofs.lemmas.Bool.Decides.{nat_tests}
use mathlib.Core.Option.{some, none, some-injective, some-ne-none}
use mathlib.Core.List.{IsPrefix}
use lib.ListN.{get_elem?}
use prog.Atomic.{either}
use Rattle.atomic_table.specs.Table.{State, Me, Act, keeps, takes, step, Allows, Valid, stepped, carried_after}
use Rattle.campaign_core.specs.Machines.{times}
use Rattle.claim_counter.specs.declared.view.View.{View}
use Rattle.claim_counter.specs.Views.{taking}
use Rattle.claim_counter.specs.Rules.{holder, knower, Homes, Free, Rule}
use Rattle.claim_counter.specs.Seats.{Follows}
use Rattle.claim_counter.specs.Plays.{Took, Takes}
use Rattle.claim_counter.proofs.Views.{sum_at, le_sum, each_set, false_true}
use Rattle.claim_counter.proofs.Frames.{same_rule, claims_frame, history_frame, prefix_self, bit_false, none_holds, free_none}
use Rattle.claim_counter.proofs.Logs.{history_own, history_once, once_le}

word_next : (b : Bool) (t : ℕ) → t ≡ cond b 2 0 → t + 1 ≡ cond b 3 1
word_next true t e = omega arith
word_next false t e = omega arith

word_odd : (b : Bool) (t : ℕ) → t ≡ cond b 2 0 → (t + 1 ≡ 1) ⊎ (t + 1 ≡ 3)
word_odd true t e = inr (omega arith)
word_odd false t e = inl (omega arith)

word_is : (b : Bool) (t : ℕ) → t ≡ cond b 2 0 → t + 1 ≡ 1 → b ≡ false
word_is true t e z = absurd (omega arith)
word_is false t e z = refl

-- a slot that is out is no value at home
pub nothing_home : {V X : Type 0} (homes : Homes V) (x : Option V) → homes ≡ none ∷ [] → get_elem? homes 0 ≡ some (some x) → X
nothing_home homes x e at = absurd (some-ne-none x (sym (some-injective none (some x) (sym (ap (λ hs. get_elem? hs 0) e) ∙ at))))

-- a failure that a view knows of is the value's
pub knows_failure : (b f : Bool) → (b ≡ false → cond {A = ℕ} f 1 0 ≡ 0) → f ≡ true → b ≡ true
knows_failure true f told e = refl
knows_failure false f told e = false_true f (bit_false f (told refl)) e

-- the turn was taken with x behind it
pub took_with : {V : Type 0} (list : V → List ℕ) (failed : V → Bool) (n : ℕ) (v : View) (x : V) → Follows list failed v x → Took list failed n (v, []) (taking v (list x) (failed x), (0, Some x) ∷ [])
took_with list failed n v x follows = record { value = x; now = refl; follows = follows }

module _ {V : Type 0} (list : V → List ℕ) (failed : V → Bool) (todo : ℕ) (s : State (Option V) View) (id : ℕ) (v : View) (h : Rule list failed todo s) (at : get_elem? s.views id ≡ some v) where
  pub turn_found : slice_index s.words 1 ≡ h.turn
  turn_found = ap (λ (ws : List ℕ). slice_index ws 1) h.words

  -- the table after the turn was taken, with x behind it
  abbrev pub Taking : V → Type 0
  Taking x = Rule list failed todo (stepped s 1 (slice_index s.words 1 + 1) id [] (taking v (list x) (failed x)) (takes 0 (Some x)))

  pub take_rule : v.holds ≡ false → 0 < v.share → (f : Free failed h.turn s.homes s.views) → Taking f.value
  take_rule free some_share f =
      let w = taking v (list f.value) (failed f.value) in
      let same = h.history_rule.value f.value (ap (λ hs. get_elem? hs 0) f.home) in
      let seen : IsPrefix (list f.value) h.history = subst (λ (l : List ℕ). IsPrefix l h.history) (sym same) (prefix_self h.history) in
      let away : set s.homes 0 none ≡ none ∷ [] = ap (λ hs. set hs 0 none) f.home in
      let a = sum_at holder s.views id v w at in
      let k = sum_at knower s.views id v w at in record {
        counter = h.counter;
        turn = h.turn + 1;
        tail = h.tail;
        history = h.history;
        words = ap (λ (ws : List ℕ). set ws 1 (slice_index ws 1 + 1)) h.words;
        claims_rule = claims_frame todo h.counter s.views id v w at refl refl refl refl h.claims_rule;
        turn_rule = inr (inl (record {
          home = away;
          word = word_odd (failed f.value) h.turn f.word;
          one = omega (arith, f.nobody, free_none v free);
          told = λ one.
              let isnt = word_is (failed f.value) h.turn f.word one in
              let z = f.told isnt in
              let mine : knower w ≡ 0 = ap (λ (b : Bool). cond b 1 0) isnt in
              omega arith;
          holds = each_set (λ u. u.holds ≡ true → (0 < u.share) × (h.turn + 1 ≡ cond u.fails 3 1)) s.views id w (λ e. (some_share, word_next (failed f.value) h.turn f.word)) (λ i u there e. none_holds s.views f.nobody i u there e);
          all_open = each_set (λ u. u.opened ≡ true) s.views id w (f.all_open id v at) f.all_open;
        }));
        history_rule = history_frame list todo h.tail h.history s.homes (set s.homes 0 none) s.views id v w at refl (λ x. omega arith) seen (λ e. same) (λ x there. nothing_home (set s.homes 0 none) (Some x) away there) (λ there. nothing_home (set s.homes 0 none) None away there) h.history_rule;
      }

  pub take_follows : v.todo ≡ todo → (f : Free failed h.turn s.homes s.views) → Follows list failed v f.value
  take_follows knows f =
      let same = h.history_rule.value f.value (ap (λ hs. get_elem? hs 0) f.home) in record {
        later = subst (λ (l : List ℕ). IsPrefix v.seen l) (sym same) (h.history_rule.seen id v at);
        posted = λ x. let b = le_sum (λ u. times x u.posts) s.views id v at in let c = ap (times x) same in omega (arith, h.history_rule.posts x);
        own = λ x some_claim. ap (times x) same ∙ history_own list todo h.counter h.tail h.history s.homes s.views h.claims_rule h.history_rule id v at x some_claim;
        once = λ x.
            let a = history_once list todo h.counter h.tail h.history s.homes s.views h.claims_rule h.history_rule x in
            let b = once_le x (min h.counter todo) v.todo (omega arith) in
            let c = ap (times x) same in
            omega arith;
        fails = knows_failure (failed f.value) v.fails (λ isnt. let z = f.told isnt in let le = le_sum knower s.views id v at in omega arith);
      }

  -- an open view that doesn't hold the turn and finds it even finds the value at home
  pub home_found : (old : ℕ) → (old ≡ 0) ⊎ (old ≡ 2) → slice_index s.words 1 ≡ old → v.opened ≡ true → Free failed h.turn s.homes s.views
  home_found old even hit is_open =
      let e : h.turn ≡ old = sym turn_found ∙ hit in
      ⊎_elim
      (λ f. f)
      (λ r. ⊎_elim
      (λ o. absurd (⊎_elim (λ a. ⊎_elim (λ z. omega arith) (λ z. omega arith) even) (λ a. ⊎_elim (λ z. omega arith) (λ z. omega arith) even) o.word))
      (λ f. false_true v.opened (f.shut id v at) is_open)
      r)
      h.turn_rule

  abbrev Went : ℕ → Bool → Type 0
  Went old b = (w : View) × (a : Act (Option V)) × Valid s.homes [] a × Rule list failed todo (stepped s 1 (either b (old + 1) (slice_index s.words 1)) id [] w a) × MatchBool b (Took list failed (slice_index s.words 1) (v, []) (w, carried_after [] a)) (◌≡◌ {A = Me (Option V) View} (w, carried_after [] a) (v, []))

  went : (old : ℕ) → (old ≡ 0) ⊎ (old ≡ 2) → v.todo ≡ todo → v.opened ≡ true → v.holds ≡ false → 0 < v.share → (b : Bool) → (slice_index s.words 1 == old) ≡ b → Went old b
  went old even knows is_open free some_share true is =
      let hit : slice_index s.words 1 ≡ old = grind (arith, nat_tests) in
      let f = home_found old even hit is_open in
      let P : ℕ → Type 0 = λ m. Rule list failed todo (stepped s 1 m id [] (taking v (list f.value) (failed f.value)) (takes 0 (Some f.value))) in
      let e : slice_index s.words 1 + 1 ≡ old + 1 = omega arith in (
        taking v (list f.value) (failed f.value),
        takes 0 (Some f.value),
        ap (λ hs. get_elem? hs 0) f.home,
        subst P e (take_rule free some_share f),
        took_with list failed (slice_index s.words 1) v f.value (take_follows knows f),
      )
  went old even knows is_open free some_share false is =
      let words : set s.words 1 (slice_index s.words 1) ≡ s.words = ap (λ (ws : List ℕ). set ws 1 (slice_index ws 1)) h.words ∙ sym h.words in
      (v, keeps, tt, same_rule list failed todo s id 1 (slice_index s.words 1) v h at words, refl)

module _ {V : Type 0} (list : V → List ℕ) (failed : V → Bool) where
  pub takes_turn : (todo slots id old : ℕ) (v : View) → (old ≡ 0) ⊎ (old ≡ 2) → v.todo ≡ todo → v.opened ≡ true → v.holds ≡ false → 0 < v.share
      → Allows (Rule list failed todo) slots id (v, []) 1 (λ n. either (n == old) (old + 1) n) (Takes list failed (step slots 1 old (old + 1) none) (v, []))
  takes_turn todo slots id old v even knows is_open free some_share s h len at fits = went list failed todo s id v h at old even knows is_open free some_share (slice_index s.words 1 == old) refl
