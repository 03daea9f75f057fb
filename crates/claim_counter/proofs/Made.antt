-- Each kind of step keeps the rule, and makes an event of the machine or shows the same.
use Rattle.std.proofs.Common.{◌≡◌, ℕ, suc, ◌+◌, ◌-◌, ◌^◌, ◌%◌, ◌<◌, ◌≤◌, ◌≢◌, ◌==◌, ◌&&◌, Bool, true, false, not, cond, List, [], ◌∷◌, ◌++◌, length, replicate, set, sym, refl, ap, ◌∙◌, subst, arith, ◌⊎◌, nat_lt, min, Option, Some, None, slice_index}
use Rattle.std.proofs.lemmas.List.{set-get_or}
use Rattle.std.proofs.lemmas.Bool.Decides.{nat_tests}
use Rattle.std.proofs.lemmas.Bool.{false≢true, lt-ltb}
use mathlib.Core.Option.{some}
use lib.ListN.{get_elem?}
use Rattle.atomic_table.specs.Table.{State, opening, stepped, gives}
use Rattle.atomic_table.proofs.Lists.{set_again, set_else}
use Rattle.campaign_core.specs.Machines.{Machine, fresh, with_draw, after, is_lawful, is_claimed, is_posted, times, times_claimed_by}
use Rattle.campaign_core.specs.declared.event.Event.TheVariants.{Draw, Post, Look, Fail}
use Rattle.claim_counter.specs.declared.view.View.{View}
use Rattle.claim_counter.specs.Views.{opening_view, starting_view, with_claim, with_none, taking, noting, giving, joined_views}
use Rattle.claim_counter.specs.Rules.{Rule}
use Rattle.claim_counter.specs.Shown.{Shows, moved, history_of}
use Rattle.claim_counter.specs.Steps.{after_draw, after_open, after_take, after_note, after_give, after_load, after_split, after_join, given_back}
use Rattle.claim_counter.proofs.Frames.{out_held}
use Rattle.claim_counter.proofs.Logs.{history_own}
use Rattle.claim_counter.proofs.Draws.{counter_found, counter_next, draw_rule}
use Rattle.claim_counter.proofs.Takes.{turn_found, home_found, take_rule}
use Rattle.claim_counter.proofs.Notes.{history_more, note_rule}
use Rattle.claim_counter.proofs.Gives.{give_rule, is_two}
use Rattle.claim_counter.proofs.Splits.{splits}
use Rattle.claim_counter.proofs.Joins.{joins}
use Rattle.claim_counter.proofs.Opening.{starts, first_only, fresh_found, open_rule}
use Rattle.claim_counter.proofs.Showing.{shows_of, next_shown, history_shown, failed_shown, claims_shown, claimed_same, claimed_more, claimed_cut, claimed_join, history_zero, history_words, any_counts}

min_lt : (x y : ℕ) → nat_lt (min x y) y ≡ nat_lt x y
min_lt x y = grind (arith, nat_tests)

-- the turn of a value that is at home, and the turn after it was taken
word_failed : (b : Bool) (t : ℕ) → t ≡ cond b 2 0 → nat_lt 1 t ≡ b
word_failed true t e = grind (arith, nat_tests)
word_failed false t e = grind (arith, nat_tests)

word_taken : (b : Bool) (t : ℕ) → t ≡ cond b 2 0 → nat_lt 1 (t + 1) ≡ b
word_taken true t e = grind (arith, nat_tests)
word_taken false t e = grind (arith, nat_tests)

-- the turn that is given back shows a failure where the value has failed
given_now : (t : ℕ) (b : Bool) → ((t == 1) && b) ≡ true → true ≡ nat_lt 1 (cond b 2 0)
given_now t true e = grind (arith, nat_tests)
given_now t false e = grind (arith, nat_tests)

given_before : (t : ℕ) (b f : Bool) → t ≡ cond f 3 1 → (f ≡ true → b ≡ true) → ((t == 1) && b) ≡ false → nat_lt 1 t ≡ nat_lt 1 (cond b 2 0)
given_before t true true word told e = grind (arith, nat_tests)
given_before t false true word told e = absurd (false≢true (told refl))
given_before t true false word told e = grind (arith, nat_tests)
given_before t false false word told e = grind (arith, nat_tests)

module _ {V : Type 0} (list : V → List ℕ) (failed : V → Bool) where
  pub new_made : (todo : ℕ) → Rule list failed todo (opening (replicate (todo + 2) 0) (None ∷ []) (opening_view todo)) × Shows {S = Option V} todo (opening (replicate (todo + 2) 0) (None ∷ []) (opening_view todo)) (fresh todo)
  new_made todo = (
    starts list failed todo (replicate (todo + 2) 0) refl,
    shows_of {S = Option V} todo 0 0 (replicate todo 0) (opening (replicate (todo + 2) 0) (None ∷ []) (opening_view todo)) (fresh todo)
        (let a : todo + 2 ≡ suc (suc todo) = omega arith in ap (λ (k : ℕ). replicate k 0) a)
        refl
        (omega arith)
        (record { each = λ w. first_only (λ (u : View). (x : ℕ) → times_claimed_by w x [] ≡ times x u.claims) (opening_view todo) (λ x. refl) w; others = λ w out x. refl })
        (sym (history_zero todo))
        refl,
  )

module _ {V : Type 0} (list : V → List ℕ) (failed : V → Bool) (todo id : ℕ) (s : State (Option V) View) (v : View) (m : Machine) (h : Rule list failed todo s) (at : get_elem? s.views id ≡ some v) (shows : Shows todo s m) where
  next_is : m.next ≡ min h.counter todo
  next_is = next_shown todo h.counter h.turn h.tail s m h.words shows

  failed_is : m.failed ≡ nat_lt 1 h.turn
  failed_is = failed_shown todo h.counter h.turn h.tail s m h.words shows

  tail_is : m.history ≡ history_of h.tail
  tail_is = history_shown todo h.counter h.turn h.tail s m h.words shows

  history_is : m.history ≡ h.history
  history_is = tail_is ∙ (ap history_of h.history_rule.words ∙ history_words h.history (todo - length h.history))

  -- the table with the counter moved, and the view after it
  Moved : ℕ → View → Machine → Type 0
  Moved n w now = Shows todo (record { words = set s.words 0 n; homes = s.homes; views = set s.views id w }) now

  shows_draw : todo ≤ 2 ^ 20 → v.todo ≡ todo → Shows todo (after_draw s id v) (after m (Draw id))
  shows_draw small knows =
      let x = slice_index s.words 0 in
      let n = (x + 1) % 2 ^ 64 in
      let found = counter_found list failed todo s id v h at in
      let words : set s.words 0 n ≡ (h.counter + 1) ∷ h.turn ∷ h.tail = ap (λ (ws : List ℕ). set ws 0 n) h.words ∙ ap (λ (k : ℕ). k ∷ h.turn ∷ h.tail) (counter_next list failed todo s id v h at small) in
      let claims = claims_shown todo s m shows in
      let P : ℕ × Bool × Bool → Type 0 = λ p. Shows todo (record { words = set s.words 0 n; homes = s.homes; views = set s.views id (cond p.1 (with_claim v p.0) (with_none v)) }) (cond p.2 (with_draw m id) m) in
      let go : (b : Bool) → nat_lt h.counter todo ≡ b → P (h.counter, b, b) = λ b. elim b as (λ b. nat_lt h.counter todo ≡ b → P (h.counter, b, b)) [
        | true ↦ λ is.
            let less : h.counter < todo = grind (arith, nat_tests) in
            let at_n : h.counter ≡ m.next = omega (arith, next_is) in
            shows_of todo (h.counter + 1) h.turn h.tail (record { words = set s.words 0 n; homes = s.homes; views = set s.views id (with_claim v h.counter) }) (with_draw m id) words shows.limit (omega arith) (claimed_more s.views id m.next v (with_claim v h.counter) m.claims at (ap (λ (k : ℕ). v.claims ++ k ∷ []) at_n) claims) tail_is failed_is
        | false ↦ λ is.
            let more : todo ≤ h.counter = grind (arith, nat_tests) in
            shows_of todo (h.counter + 1) h.turn h.tail (record { words = set s.words 0 n; homes = s.homes; views = set s.views id (with_none v) }) m words shows.limit (omega (arith, next_is)) (claimed_same s.views id v (with_none v) m.claims at refl claims) tail_is failed_is
      ] in
      let first : nat_lt h.counter todo ≡ nat_lt x v.todo = ap (λ (p : ℕ × ℕ). nat_lt p.0 p.1) (λ i. (sym found i, sym knows i)) in
      let second : nat_lt h.counter todo ≡ nat_lt m.next m.limit = sym (ap (λ (p : ℕ × ℕ). nat_lt p.0 p.1) (λ i. (next_is i, shows.limit i)) ∙ min_lt h.counter todo) in
      subst P (λ i. (sym found i, first i, second i)) (go (nat_lt h.counter todo) refl)

  pub draw_made : todo ≤ 2 ^ 20 → v.todo ≡ todo → 0 < v.share → v.nones ≡ 0 → Rule list failed todo (after_draw s id v) × Shows todo (after_draw s id v) (after m (Draw id))
  draw_made small knows some_share first = (draw_rule list failed todo s id v h at small knows some_share first, shows_draw small knows)

  pub take_made : v.opened ≡ true → v.holds ≡ false → 0 < v.share → (slice_index s.words 1 ≡ 0) ⊎ (slice_index s.words 1 ≡ 2) → (x : V) × (get_elem? s.homes 0 ≡ some (some (Some x))) × (list x ≡ m.history) × (failed x ≡ m.failed) × Rule list failed todo (after_take list failed s id v x) × Shows todo (after_take list failed s id v x) (after m (Look id))
  take_made is_open free some_share even =
      let f = home_found list failed todo s id v h at (slice_index s.words 1) even refl is_open in
      let home = ap (λ hs. get_elem? hs 0) f.home in
      let words : set s.words 1 (slice_index s.words 1 + 1) ≡ h.counter ∷ (h.turn + 1) ∷ h.tail = ap (λ (ws : List ℕ). set ws 1 (slice_index ws 1 + 1)) h.words in
      let told : m.failed ≡ failed f.value = failed_is ∙ word_failed (failed f.value) h.turn f.word in (
        f.value,
        home,
        h.history_rule.value f.value home ∙ sym history_is,
        sym told,
        take_rule list failed todo s id v h at free some_share f,
        shows_of todo h.counter (h.turn + 1) h.tail (after_take list failed s id v f.value) m words shows.limit next_is (claimed_same s.views id v (taking v (list f.value) (failed f.value)) m.claims at refl (claims_shown todo s m shows)) tail_is (told ∙ sym (word_taken (failed f.value) h.turn f.word)),
      )

  module _ (d : ℕ) (holds : v.holds ≡ true) (fine : v.fails ≡ false) (some_claim : 0 < times d v.claims) (not_posted : times d v.posts ≡ 0) where
    lawful_post : is_lawful m (Post id d) ≡ true
    lawful_post =
        let o = out_held failed h.turn s.homes s.views id v h.turn_rule at holds in
        let turn : h.turn ≡ 1 = (o.holds id v at holds).1 ∙ ap (λ (b : Bool). cond b 3 1) fine in
        let isnt : m.failed ≡ false = failed_is ∙ ap (nat_lt 1) turn in
        let claimed : is_claimed id d m.claims ≡ true = any_counts (λ (c : ℕ × ℕ). (c.0 == id) && (c.1 == d)) m.claims ∙ lt-ltb 0 (times_claimed_by id d m.claims) (let a = shows.claims id v at d in omega arith) in
        let own : times d m.history ≡ 0 = ap (times d) history_is ∙ (history_own list todo h.counter h.tail h.history s.homes s.views h.claims_rule h.history_rule id v at d some_claim ∙ not_posted) in
        let new : is_posted d m.history ≡ false = any_counts (λ (y : ℕ). y == d) m.history ∙ ap (nat_lt 0) own in
        ap (λ (p : Bool × Bool × Bool). p.0 && not p.1 && not p.2) (λ i. (claimed i, new i, isnt i))

    shows_note : Shows todo (after_note s id v d) (after m (Post id d))
    shows_note =
        let whole : v.seen ≡ h.history = h.history_rule.holder id v at holds in
        let tail = set h.tail (length h.history) (d + 1) in
        let e : 2 + length v.seen ≡ suc (suc (length h.history)) = omega (arith, ap length whole) in
        let words : set s.words (2 + length v.seen) (d + 1) ≡ h.counter ∷ h.turn ∷ tail = ap (λ (p : List ℕ × ℕ). set p.0 p.1 (d + 1)) (λ j. (h.words j, e j)) in
        let more = (history_more list failed todo s id v h at d holds some_claim not_posted).words in
        let history : m.history ++ d ∷ [] ≡ history_of tail = ap (λ (l : List ℕ). l ++ d ∷ []) history_is ∙ sym (ap history_of more ∙ history_words (h.history ++ d ∷ []) (todo - length (h.history ++ d ∷ []))) in
        shows_of todo h.counter h.turn tail (after_note s id v d) (after m (Post id d)) words shows.limit next_is (claimed_same s.views id v (noting v d) m.claims at refl (claims_shown todo s m shows)) history failed_is

    pub note_made : (is_lawful m (Post id d) ≡ true) × Rule list failed todo (after_note s id v d) × Shows todo (after_note s id v d) (after m (Post id d))
    note_made = (lawful_post, note_rule list failed todo s id v h at d holds some_claim not_posted (2 + length v.seen) refl, shows_note)

  module _ (x : V) (holds : v.holds ≡ true) (same : list x ≡ v.seen) (told : v.fails ≡ true → failed x ≡ true) where
    rule_give : Rule list failed todo (after_give failed s id v x)
    rule_give =
        let n = cond (failed x) 2 0 in
        let P : Bool → Type 0 = λ b. Rule list failed todo (stepped s 1 n id ((0, Some x) ∷ []) (giving v b) gives) in
        subst P (is_two (failed x) n refl) (give_rule list failed todo s id v h at n x refl holds same told)

    shows_give : Shows todo (after_give failed s id v x) (given_back m id (slice_index s.words 1) (failed x))
    shows_give =
        let o = out_held failed h.turn s.homes s.views id v h.turn_rule at holds in
        let word = (o.holds id v at holds).1 in
        let n = cond (failed x) 2 0 in
        let words : set s.words 1 n ≡ h.counter ∷ n ∷ h.tail = ap (λ (ws : List ℕ). set ws 1 n) h.words in
        let claims = claimed_same s.views id v (giving v (failed x)) m.claims at refl (claims_shown todo s m shows) in
        let P : Bool → Type 0 = λ b. Shows todo (after_give failed s id v x) (cond b (after m (Fail id)) m) in
        let go : (b : Bool) → ((h.turn == 1) && failed x) ≡ b → P b = λ b. elim b as (λ b. ((h.turn == 1) && failed x) ≡ b → P b) [
          | true ↦ λ is. shows_of todo h.counter n h.tail (after_give failed s id v x) (after m (Fail id)) words shows.limit next_is claims tail_is (given_now h.turn (failed x) is)
          | false ↦ λ is. shows_of todo h.counter n h.tail (after_give failed s id v x) m words shows.limit next_is claims tail_is (failed_is ∙ given_before h.turn (failed x) v.fails word told is)
        ] in
        subst P (ap (λ (t : ℕ). (t == 1) && failed x) (sym (turn_found list failed todo s id v h at))) (go ((h.turn == 1) && failed x) refl)

    pub give_made : Rule list failed todo (after_give failed s id v x) × Shows todo (after_give failed s id v x) (given_back m id (slice_index s.words 1) (failed x))
    give_made = (rule_give, shows_give)

  pub split_made : v.opened ≡ true → 2 ≤ v.share → v.nones ≡ 0 → Rule list failed todo (after_split s id v) × Shows todo (after_split s id v) m
  split_made is_open two no_nones = (
    splits list failed todo id v is_open two no_nones s h at,
    shows_of todo h.counter h.turn h.tail (after_split s id v) m h.words shows.limit next_is (claimed_cut s.views id v m.claims at (claims_shown todo s m shows)) tail_is failed_is,
  )

  pub join_made : (other : ℕ) (w : View) → get_elem? s.views other ≡ some w → other ≢ id → v.opened ≡ true → 0 < v.share → w.holds ≡ false → Rule list failed todo (after_join s id v other w) × Shows todo (after_join s id v other w) (moved other id m)
  join_made other w there apart is_open some_share free = (
    joins list failed todo id other v w is_open some_share free s h at apart (set_else s.views id other (joined_views v w) apart ∙ there),
    shows_of todo h.counter h.turn h.tail (after_join s id v other w) (moved other id m) h.words shows.limit next_is (claimed_join s.views id other v w m.claims at there apart (claims_shown todo s m shows)) tail_is failed_is,
  )

module _ {V : Type 0} (list : V → List ℕ) (failed : V → Bool) (todo id : ℕ) (s : State (Option V) View) (m : Machine) (h : Rule list failed todo s) (at : get_elem? s.views id ≡ some (opening_view todo)) (shows : Shows todo s m) where
  pub open_made : (slice_index s.words 1 ≡ 0) × Rule list failed todo (after_open s id (opening_view todo)) × Shows todo (after_open s id (opening_view todo)) (after m (Look id))
  open_made =
      let f = fresh_found list failed todo s id h at in
      let words : set s.words 1 1 ≡ h.counter ∷ 1 ∷ h.tail = ap (λ (ws : List ℕ). set ws 1 1) h.words in (
        ap (λ (ws : List ℕ). slice_index ws 1) h.words ∙ f.word,
        open_rule list failed todo s id h at,
        shows_of todo h.counter 1 h.tail (after_open s id (opening_view todo)) m words shows.limit (next_shown todo h.counter h.turn h.tail s m h.words shows) (claimed_same s.views id (opening_view todo) (starting_view todo) m.claims at refl (claims_shown todo s m shows)) (history_shown todo h.counter h.turn h.tail s m h.words shows) (failed_shown todo h.counter h.turn h.tail s m h.words shows ∙ ap (nat_lt 1) f.word),
      )

pub load_same : {V : Type 0} (i id : ℕ) (s : State (Option V) View) (v : View) → get_elem? s.views id ≡ some v → after_load s i id v ≡ s
load_same i id s v at = λ k. record { words = set-get_or s.words i 0 k; homes = s.homes; views = set_again s.views id v at k }
