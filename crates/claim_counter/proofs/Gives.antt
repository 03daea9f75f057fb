-- The turn is given back, with the value behind it.
use Rattle.std.proofs.Common.{◌≡◌, ℕ, ◌==◌, Bool, true, false, cond, List, [], ◌∷◌, set, sym, refl, ap, ◌∙◌, arith, inl, Option, Some, None}
use Rattle.std.proofs.lemmas.Bool.Decides.{nat_tests}
use mathlib.Core.Option.{some, none, some-injective}
use lib.ListN.{get_elem?}
use Rattle.atomic_table.specs.Table.{State, gives, step, stepped, Allows}
use Rattle.claim_counter.specs.declared.view.View.{View}
use Rattle.claim_counter.specs.Views.{giving}
use Rattle.claim_counter.specs.Rules.{holder, knower, Rule}
use Rattle.claim_counter.specs.Plays.{StepGives}
use Rattle.claim_counter.proofs.Views.{sum_at, each_set, false_true}
use Rattle.claim_counter.proofs.Frames.{claims_frame, history_frame, out_held, holds_one}

pub is_two : (b : Bool) (m : ℕ) → m ≡ cond b 2 0 → (m == 2) ≡ b
is_two true m e = grind (arith, nat_tests)
is_two false m e = grind (arith, nat_tests)

-- where the value hasn't failed, its holder knew of no failure, and the turn was 1
pub not_failed : (t : ℕ) (b : Bool) (f : Bool) → t ≡ cond b 3 1 → (b ≡ true → f ≡ true) → f ≡ false → (t ≡ 1) × (b ≡ false)
not_failed t true f e told isnt = false_true f isnt (told refl)
not_failed t false f e told isnt = (e, refl)

-- two values in one slot are the same
pub same_value : {V : Type 0} (x y : V) → ◌≡◌ {A = mathlib.Core.Option.Option (mathlib.Core.Option.Option (Option V))} (some (some (Some x))) (some (some (Some y))) → x ≡ y
same_value x y e = cc (some-injective (Some x) (Some y) (some-injective (some (Some x)) (some (Some y)) e))

pub no_value : {V X : Type 0} (x : V) → ◌≡◌ {A = mathlib.Core.Option.Option (mathlib.Core.Option.Option (Option V))} (some (some (Some x))) (some (some None)) → X
no_value x e = absurd (cc (some-injective (Some x) None (some-injective (some (Some x)) (some None) e)))

module _ {V : Type 0} (list : V → List ℕ) (failed : V → Bool) (todo : ℕ) (s : State (Option V) View) (id : ℕ) (v : View) (h : Rule list failed todo s) (at : get_elem? s.views id ≡ some v) where
  -- the rule after the turn was given back with x behind it
  pub give_rule : (m : ℕ) (x : V) → m ≡ cond (failed x) 2 0 → v.holds ≡ true → list x ≡ v.seen → (v.fails ≡ true → failed x ≡ true) → Rule list failed todo (stepped s 1 m id ((0, Some x) ∷ []) (giving v (m == 2)) gives)
  give_rule m x word holds same told =
      let w = giving v (m == 2) in
      let o = out_held failed h.turn s.homes s.views id v h.turn_rule at holds in
      let mine = o.holds id v at holds in
      let whole : list x ≡ h.history = same ∙ h.history_rule.holder id v at holds in
      let back : set s.homes 0 (some (Some x)) ≡ some (Some x) ∷ [] = ap (λ hs. set hs 0 (some (Some x))) o.home in
      let there = ap (λ hs. get_elem? hs 0) back in
      let a = sum_at holder s.views id v w at in
      let k = sum_at knower s.views id v w at in record {
        counter = h.counter;
        turn = m;
        tail = h.tail;
        history = h.history;
        words = ap (λ (ws : List ℕ). set ws 1 m) h.words;
        claims_rule = claims_frame todo h.counter s.views id v w at refl refl refl refl h.claims_rule;
        turn_rule = inl (record {
          value = x;
          home = back;
          word = word;
          nobody = omega (arith, o.one, holds_one v holds);
          told = λ isnt.
              let d = not_failed h.turn v.fails (failed x) mine.1 told isnt in
              let z = o.told d.0 in
              let w0 : knower w ≡ 0 = ap (λ (b : Bool). cond b 1 0) (is_two (failed x) m word ∙ isnt) in
              omega arith;
          all_open = each_set (λ u. u.opened ≡ true) s.views id w (o.all_open id v at) o.all_open;
        });
        history_rule = history_frame list todo h.tail h.history s.homes (set s.homes 0 (some (Some x))) s.views id v w at refl (λ n. omega arith) (h.history_rule.seen id v at) (λ e. false_true false refl e)
            (λ y found. ap list (sym (same_value x y (sym there ∙ found))) ∙ whole)
            (λ found. no_value x (sym there ∙ found))
            h.history_rule;
      }

module _ {V : Type 0} (list : V → List ℕ) (failed : V → Bool) where
  pub gives_turn : (todo slots id m : ℕ) (v : View) (x : V) → m ≡ cond (failed x) 2 0 → v.holds ≡ true → list x ≡ v.seen → (v.fails ≡ true → failed x ≡ true)
      → Allows (Rule list failed todo) slots id (v, (0, Some x) ∷ []) 1 (λ _. m) (λ _. StepGives list failed (step slots 1 m 0 none) (v, (0, Some x) ∷ []) m)
  gives_turn todo slots id m v x word holds same told s h len at fits = (giving v (m == 2), gives, tt, give_rule list failed todo s id v h at m x word holds same told, refl)
