-- A draw keeps the rule.
use Rattle.std.proofs.Common.{◌≡◌, ℕ, suc, ◌+◌, ◌^◌, ◌%◌, ◌<◌, ◌≤◌, Bool, true, false, cond, List, [], ◌∷◌, set, sym, refl, ap, ◌∙◌, subst, arith, nat_lt, min, Option, slice_index}
use Rattle.std.specs.List.{sum_by}
use Rattle.std.proofs.Math.Nat.{mod-eq_of_lt}
use Rattle.std.proofs.lemmas.List.Sums.{sum_by-cons}
use Rattle.std.proofs.lemmas.Bool.Decides.{nat_tests}
use mathlib.Core.Option.{some, none}
use mathlib.Core.List.{IsPrefix}
use lib.ListN.{get_elem?}
use Rattle.atomic_table.specs.Table.{State, keeps, step, stepped, Allows}
use Rattle.campaign_core.specs.Machines.{times, once_below}
use Rattle.claim_counter.specs.declared.view.View.{View}
use Rattle.claim_counter.specs.Views.{drawn, with_claim, with_none}
use Rattle.claim_counter.specs.Rules.{ClaimsRule, Rule}
use Rattle.claim_counter.specs.Plays.{Draws}
use Rattle.claim_counter.proofs.Views.{sum_at, sum_same, le_sum, each_set, times-snoc, once_more}
use Rattle.claim_counter.proofs.Frames.{turn_frame, history_frame}

-- the counter stands below todo: the number joins the claims
claims_more : (todo n : ℕ) (views : List View) (id : ℕ) (v : View) → get_elem? views id ≡ some v → n < todo → 0 < v.share → ClaimsRule todo n views → ClaimsRule todo (n + 1) (set views id (with_claim v n))
claims_more todo n views id v at less some_share h = let w = with_claim v n in record {
  claims = λ x.
      let a = sum_at (λ u. times x u.claims) views id v w at in
      let b : once_below x (min n todo) ≡ once_below x n = ap (once_below x) (omega arith) in
      let d : once_below x (min (n + 1) todo) ≡ once_below x (n + 1) = ap (once_below x) (omega arith) in
      let e = h.claims x in
      omega (arith, times-snoc x v.claims n, once_more x n);
  shares = sum_same (λ u. u.share) views id v w at refl ∙ h.shares;
  over = let a = sum_same (λ u. u.nones) views id v w at refl in omega (arith, h.over);
  stops = λ p. let a = sum_same (λ u. u.nones) views id v w at refl in absurd (let q = h.stops (omega arith) in omega arith);
  limit = each_set (λ u. u.nones ≤ u.share) views id w (h.limit id v at) h.limit;
  spent = each_set (λ u. u.share ≡ 0 → (u.nones ≡ 0) × (u.claims ≡ [])) views id w (λ z. absurd (omega arith)) h.spent;
  knows = each_set (λ u. 0 < u.share → u.todo ≡ todo) views id w (h.knows id v at) h.knows;
}

-- the counter has reached todo: the answer None is counted
claims_none : (todo n : ℕ) (views : List View) (id : ℕ) (v : View) → get_elem? views id ≡ some v → todo ≤ n → 0 < v.share → v.nones ≡ 0 → ClaimsRule todo n views → ClaimsRule todo (n + 1) (set views id (with_none v))
claims_none todo n views id v at reached some_share zero_ h = let w = with_none v in record {
  claims = λ x.
      let a = sum_same (λ u. times x u.claims) views id v w at refl in
      let b : once_below x (min n todo) ≡ once_below x (min (n + 1) todo) = ap (once_below x) (omega arith) in
      a ∙ (h.claims x ∙ b);
  shares = sum_same (λ u. u.share) views id v w at refl ∙ h.shares;
  over = let a = sum_at (λ u. u.nones) views id v w at in omega (arith, h.over);
  stops = λ p. omega arith;
  limit = each_set (λ u. u.nones ≤ u.share) views id w (omega arith) h.limit;
  spent = each_set (λ u. u.share ≡ 0 → (u.nones ≡ 0) × (u.claims ≡ [])) views id w (λ z. absurd (omega arith)) h.spent;
  knows = each_set (λ u. 0 < u.share → u.todo ≡ todo) views id w (h.knows id v at) h.knows;
}

-- the answers None are at most the shares, so that the counter never wraps
pub nones_limit : (views : List View) → ((i : ℕ) (v : View) → get_elem? views i ≡ some v → v.nones ≤ v.share) → sum_by (λ v. v.nones) views ≤ sum_by (λ v. v.share) views
nones_limit [] each = omega arith
nones_limit (v ∷ vs) each =
    let a = each 0 v refl in
    let b = nones_limit vs (λ i u e. each (suc i) u e) in
    omega (arith, sum_by-cons (λ (v : View). v.nones) v vs, sum_by-cons (λ (v : View). v.share) v vs)

none_at : (x n todo : ℕ) → x ≡ n → once_below x (min n todo) ≡ 0
none_at x n todo e = grind (arith, nat_tests)

module _ {V : Type 0} (list : V → List ℕ) (failed : V → Bool) (todo : ℕ) (s : State (Option V) View) (id : ℕ) (v : View) (h : Rule list failed todo s) (at : get_elem? s.views id ≡ some v) where
  pub counter_found : slice_index s.words 0 ≡ h.counter
  counter_found = ap (λ (ws : List ℕ). slice_index ws 0) h.words

  -- the counter doesn't wrap
  pub counter_next : todo ≤ 2 ^ 20 → (slice_index s.words 0 + 1) % 2 ^ 64 ≡ h.counter + 1
  counter_next small =
      let most = nones_limit s.views h.claims_rule.limit in
      ap (λ (k : ℕ). (k + 1) % 2 ^ 64) counter_found ∙ mod-eq_of_lt (omega (arith, h.claims_rule.over, h.claims_rule.shares))

  keeps_others : (w : View) (m : ℕ) → m ≡ h.counter + 1 → w.posts ≡ v.posts → w.seen ≡ v.seen → w.share ≡ v.share → w.opened ≡ v.opened → w.holds ≡ v.holds → w.fails ≡ v.fails → ((x : ℕ) → times x v.claims ≤ times x w.claims) → ClaimsRule todo (h.counter + 1) (set s.views id w)
      → Rule list failed todo (record { words = set s.words 0 m; homes = s.homes; views = set s.views id w })
  keeps_others w m next posts seen share opened holds fails more claims = record {
    counter = h.counter + 1;
    turn = h.turn;
    tail = h.tail;
    history = h.history;
    words = ap (λ (ws : List ℕ). set ws 0 m) h.words ∙ ap (λ (x : ℕ). x ∷ h.turn ∷ h.tail) next;
    claims_rule = claims;
    turn_rule = turn_frame failed h.turn s.homes s.views id v w at share opened holds fails h.turn_rule;
    history_rule = history_frame list todo h.tail h.history s.homes s.homes s.views id v w at posts more (subst (λ (l : List ℕ). IsPrefix l h.history) (sym seen) (h.history_rule.seen id v at)) (λ e. seen ∙ h.history_rule.holder id v at (sym holds ∙ e)) h.history_rule.value h.history_rule.empty h.history_rule;
  }

  -- the rule after a draw
  pub draw_rule : todo ≤ 2 ^ 20 → v.todo ≡ todo → 0 < v.share → v.nones ≡ 0 → Rule list failed todo (stepped s 0 ((slice_index s.words 0 + 1) % 2 ^ 64) id [] (drawn v (slice_index s.words 0)) keeps)
  draw_rule small same some_share first =
      let m = (slice_index s.words 0 + 1) % 2 ^ 64 in
      let After : Bool → Type 0 = λ b. Rule list failed todo (record { words = set s.words 0 m; homes = s.homes; views = set s.views id (cond b (with_claim v h.counter) (with_none v)) }) in
      let go : (b : Bool) → nat_lt h.counter todo ≡ b → After b = λ b. elim b as (λ b. nat_lt h.counter todo ≡ b → After b) [
        | true ↦ λ is. keeps_others (with_claim v h.counter) m (counter_next small) refl refl refl refl refl refl (λ x. omega (arith, times-snoc x v.claims h.counter)) (claims_more todo h.counter s.views id v at (grind (arith, nat_tests)) some_share h.claims_rule)
        | false ↦ λ is. keeps_others (with_none v) m (counter_next small) refl refl refl refl refl refl (λ x. omega arith) (claims_none todo h.counter s.views id v at (grind (arith, nat_tests)) some_share first h.claims_rule)
      ] in
      let P : View → Type 0 = λ w. Rule list failed todo (record { words = set s.words 0 m; homes = s.homes; views = set s.views id w }) in
      subst P (ap (λ (k : ℕ). drawn v k) (sym counter_found)) (go (nat_lt h.counter v.todo) (ap (nat_lt h.counter) (sym same)))

  -- nobody has claimed the number that the counter shows
  pub unclaimed : times (slice_index s.words 0) v.claims ≡ 0
  unclaimed =
      let x = slice_index s.words 0 in
      let a = le_sum (λ (u : View). times x u.claims) s.views id v at in
      omega (arith, h.claims_rule.claims x, none_at x h.counter todo counter_found)

module _ {V : Type 0} (list : V → List ℕ) (failed : V → Bool) where
  pub draws : (todo slots id : ℕ) (v : View) (c : List (ℕ × Option V)) → todo ≤ 2 ^ 20 → v.todo ≡ todo → 0 < v.share → v.nones ≡ 0
      → Allows (Rule list failed todo) slots id (v, c) 0 (λ n. (n + 1) % 2 ^ 64) (Draws (step slots 0 1 0 none) (v, c))
  draws todo slots id v c small same some_share first s h len at fits =
      (drawn v (slice_index s.words 0), keeps, tt, draw_rule list failed todo s id v h at small same some_share first, (refl, λ less. unclaimed list failed todo s id v h at))
