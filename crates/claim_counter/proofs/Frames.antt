-- A step that leaves what a group of the rule reads keeps this group.
use Rattle.std.proofs.Common.{◌≡◌, ℕ, ◌<◌, ◌≤◌, Bool, true, false, cond, List, [], set, sym, refl, ap, ◌∙◌, subst, arith, inl, inr, ⊎_elim, Option, Some, None}
use Rattle.std.specs.List.{sum_by}
use Rattle.std.proofs.lemmas.List.{append-nil}
use mathlib.Core.Option.{some}
use mathlib.Core.List.{IsPrefix}
use lib.ListN.{get_elem?}
use Rattle.atomic_table.specs.Table.{State}
use Rattle.atomic_table.proofs.Lists.{at_set, set_again}
use Rattle.campaign_core.specs.Machines.{times}
use Rattle.claim_counter.specs.declared.view.View.{View}
use Rattle.claim_counter.specs.Rules.{ClaimsRule, HistoryRule, holder, knower, Homes, Out, TurnRule, Rule}
use Rattle.claim_counter.proofs.Views.{sum_same, le_sum, each_set}

-- a step that leaves claims, shares and answers None alone
pub claims_frame : (todo n : ℕ) (views : List View) (id : ℕ) (v w : View) → get_elem? views id ≡ some v → w.todo ≡ v.todo → w.share ≡ v.share → w.nones ≡ v.nones → w.claims ≡ v.claims → ClaimsRule todo n views → ClaimsRule todo n (set views id w)
claims_frame todo n views id v w at todos shares nones claims h = record {
  claims = λ x. sum_same (λ u. times x u.claims) views id v w at (ap (times x) claims) ∙ h.claims x;
  shares = sum_same (λ u. u.share) views id v w at shares ∙ h.shares;
  over = let a = sum_same (λ u. u.nones) views id v w at nones in omega (arith, h.over);
  stops = λ p. let a = sum_same (λ u. u.nones) views id v w at nones in h.stops (omega arith);
  limit = each_set (λ u. u.nones ≤ u.share) views id w (omega (arith, h.limit id v at)) h.limit;
  spent = each_set (λ u. u.share ≡ 0 → (u.nones ≡ 0) × (u.claims ≡ [])) views id w (λ z. let a = h.spent id v at (sym shares ∙ z) in (nones ∙ a.0, claims ∙ a.1)) h.spent;
  knows = each_set (λ u. 0 < u.share → u.todo ≡ todo) views id w (λ p. todos ∙ h.knows id v at (omega arith)) h.knows;
}

pub prefix_self : {A : Type 0} (xs : List A) → IsPrefix xs xs
prefix_self xs = ([], append-nil xs)

pub holds_one : (v : View) → v.holds ≡ true → holder v ≡ 1
holds_one v e = ap (λ (b : Bool). cond b 1 0) e

pub free_none : (v : View) → v.holds ≡ false → holder v ≡ 0
free_none v e = ap (λ (b : Bool). cond b 1 0) e

pub bit_false : (b : Bool) → cond {A = ℕ} b 1 0 ≡ 0 → b ≡ false
bit_false true e = absurd (omega arith)
bit_false false e = refl

-- no view holds the turn where they sum to nothing
pub none_holds : {X : Type 0} (views : List View) → sum_by holder views ≡ 0 → (i : ℕ) (v : View) → get_elem? views i ≡ some v → v.holds ≡ true → X
none_holds views none_ i v at e = absurd (let a = le_sum holder views i v at in omega (arith, holds_one v e))

-- a step that leaves the turn, the slot and what the views know of both alone
module _ {V : Type 0} (failed : V → Bool) where
  pub turn_frame : (t : ℕ) (homes : Homes V) (views : List View) (id : ℕ) (v w : View) → get_elem? views id ≡ some v → w.share ≡ v.share → w.opened ≡ v.opened → w.holds ≡ v.holds → w.fails ≡ v.fails → TurnRule failed t homes views → TurnRule failed t homes (set views id w)
  turn_frame t homes views id v w at share opened holds fails h =
      let h1 = sum_same holder views id v w at (ap (λ (b : Bool). cond b 1 0) holds) in
      let k1 = sum_same knower views id v w at (ap (λ (b : Bool). cond b 1 0) fails) in
      ⊎_elim
      (λ f. inl (record {
        value = f.value;
        home = f.home;
        word = f.word;
        nobody = h1 ∙ f.nobody;
        told = λ e. k1 ∙ f.told e;
        all_open = each_set (λ u. u.opened ≡ true) views id w (opened ∙ f.all_open id v at) f.all_open;
      }))
      (λ r. inr (⊎_elim
      (λ o. inl (record {
        home = o.home;
        word = o.word;
        one = h1 ∙ o.one;
        told = λ e. k1 ∙ o.told e;
        holds = each_set (λ u. u.holds ≡ true → (0 < u.share) × (t ≡ cond u.fails 3 1)) views id w
            (λ e. let a = o.holds id v at (sym holds ∙ e) in let b = a.0 in (omega arith, a.1 ∙ ap (λ (b : Bool). cond b 3 1) (sym fails)))
            o.holds;
        all_open = each_set (λ u. u.opened ≡ true) views id w (opened ∙ o.all_open id v at) o.all_open;
      }))
      (λ f. inr (record {
        home = f.home;
        word = f.word;
        only = λ j u e. ⊎_elim (λ t. t.0 ∙ f.only id v at) (λ t. f.only j u t.1) (at_set views id j w u e);
        shut = each_set (λ u. u.opened ≡ false) views id w (opened ∙ f.shut id v at) f.shut;
        nobody = h1 ∙ f.nobody;
        told = k1 ∙ f.told;
      }))
      r))
      h

  -- who holds the turn shows that the slot is out
  pub out_held : (t : ℕ) (homes : Homes V) (views : List View) (id : ℕ) (v : View) → TurnRule failed t homes views → get_elem? views id ≡ some v → v.holds ≡ true → Out failed t homes views
  out_held t homes views id v turn at holds = ⊎_elim (λ f. none_holds views f.nobody id v at holds) (λ r. ⊎_elim (λ o. o) (λ f. none_holds views f.nobody id v at holds) r) turn

-- a step that leaves the history words and the posts alone; the slot may come and go
module _ {V : Type 0} (list : V → List ℕ) where
  pub history_frame : (todo : ℕ) (tail history : List ℕ) (homes now : Homes V) (views : List View) (id : ℕ) (v w : View) → get_elem? views id ≡ some v → w.posts ≡ v.posts → ((x : ℕ) → times x v.claims ≤ times x w.claims) → IsPrefix w.seen history → (w.holds ≡ true → w.seen ≡ history)
      → ((x : V) → get_elem? now 0 ≡ some (some (Some x)) → list x ≡ history) → (get_elem? now 0 ≡ some (some None) → history ≡ [])
      → HistoryRule list todo tail history homes views → HistoryRule list todo tail history now (set views id w)
  history_frame todo tail history homes now views id v w at posts claims seen held value empty h = record {
    words = h.words;
    room = h.room;
    posts = λ x. sum_same (λ u. times x u.posts) views id v w at (ap (times x) posts) ∙ h.posts x;
    own = each_set (λ u. (x : ℕ) → times x u.posts ≤ times x u.claims) views id w (λ x. let a = h.own id v at x in let b = claims x in let e = ap (times x) posts in omega arith) h.own;
    seen = each_set (λ u. IsPrefix u.seen history) views id w seen h.seen;
    value = value;
    holder = each_set (λ u. u.holds ≡ true → u.seen ≡ history) views id w held h.holder;
    empty = empty;
  }

-- the rule of a table where a step changed nothing
module _ {V : Type 0} (list : V → List ℕ) (failed : V → Bool) where
  pub same_rule : (todo : ℕ) (s : State (Option V) View) (id i m : ℕ) (v : View) → Rule list failed todo s → get_elem? s.views id ≡ some v → set s.words i m ≡ s.words → Rule list failed todo (record { words = set s.words i m; homes = s.homes; views = set s.views id v })
  same_rule todo s id i m v h at words =
      let e = set_again s.views id v at in
      subst (λ (x : List ℕ × List View). Rule list failed todo (record { words = x.0; homes = s.homes; views = x.1 })) (λ i. (sym words i, sym e i)) h
