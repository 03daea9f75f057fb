-- The steps as the calls ask for them.
use Rattle.std.proofs.Common.{◌≡◌, ℕ, ◌+◌, ◌<◌, ◌==◌, eq-eqb, Bool, true, false, cond, List, [], ◌∷◌, length, sym, ap, ◌∙◌, subst, arith, ◌⊎◌, Option, Some, None, MatchBool, length-append}
use mathlib.Core.Option.{some, none, some-injective}
use prog.Atomic.{either}
use Rattle.atomic_table.specs.Table.{Me, step, rest, Allows}
use Rattle.claim_counter.specs.declared.view.View.{View}
use Rattle.campaign_core.specs.Machines.{times}
use Rattle.claim_counter.specs.Views.{opening_view, taking, noting}
use Rattle.claim_counter.specs.Rules.{Rule}
use Rattle.claim_counter.specs.Plays.{Took, Takes, StepGives, Opens, Notes}
use Rattle.claim_counter.specs.Seats.{Seated, IsSteady, Follows, Taken, Closed}
use Rattle.claim_counter.proofs.Views.{false_true}
use Rattle.claim_counter.proofs.Takes.{takes_turn}
use Rattle.claim_counter.proofs.Gives.{gives_turn}
use Rattle.claim_counter.proofs.Opening.{opens}
use Rattle.claim_counter.proofs.Notes.{notes}
use Rattle.claim_counter.proofs.Closing.{Shown}
use lib.ListN.{get_elem?}
use Rattle.std.proofs.lemmas.Option.{same_Some}

abbrev head_value : {V : Type 0} → List (ℕ × Option V) → Option V
head_value [] = None
head_value (x ∷ xs) = x.1

module _ {V : Type 0} (list : V → List ℕ) (failed : V → Bool) where
  pub takes_me : (todo slots id old : ℕ) (me : Me (Option V) View) → me.1 ≡ [] → (old ≡ 0) ⊎ (old ≡ 2) → me.0.todo ≡ todo → me.0.opened ≡ true → me.0.holds ≡ false → 0 < me.0.share
      → Allows (Rule list failed todo) slots id me 1 (λ n. either (n == old) (old + 1) n) (Takes list failed (step slots 1 old (old + 1) none) me)
  takes_me todo slots id old me e even knows is_open free some_share =
      let P : List (ℕ × Option V) → Type 0 = λ c. Allows (Rule list failed todo) slots id (me.0, c) 1 (λ n. either (n == old) (old + 1) n) (Takes list failed (step slots 1 old (old + 1) none) (me.0, c)) in
      subst P (sym e) (takes_turn list failed todo slots id old me.0 even knows is_open free some_share)

  pub gives_me : (todo slots id m : ℕ) (me : Me (Option V) View) (v : View) (x : V) → me ≡ (v, (0, Some x) ∷ []) → m ≡ cond (failed x) 2 0 → v.holds ≡ true → list x ≡ v.seen → (v.fails ≡ true → failed x ≡ true)
      → Allows (Rule list failed todo) slots id me 1 (λ _. m) (λ _. StepGives list failed (step slots 1 m 0 none) me m)
  gives_me todo slots id m me v x e word holds same told =
      let P : Me (Option V) View → Type 0 = λ me. Allows (Rule list failed todo) slots id me 1 (λ _. m) (λ _. StepGives list failed (step slots 1 m 0 none) me m) in
      subst P (sym e) (gives_turn list failed todo slots id m v x word holds same told)

  pub notes_me : (todo slots id i d : ℕ) (me old : Me (Option V) View) → me ≡ old → old.0.holds ≡ true → 0 < times d old.0.claims → times d old.0.posts ≡ 0 → i ≡ 2 + length old.0.seen
      → Allows (Rule list failed todo) slots id me i (λ _. d + 1) (λ _. Notes (step slots i (d + 1) 0 none) me (d + 1))
  notes_me todo slots id i d me old e holds some_claim not_posted place =
      let P : Me (Option V) View → Type 0 = λ me. Allows (Rule list failed todo) slots id me i (λ _. d + 1) (λ _. Notes (step slots i (d + 1) 0 none) me (d + 1)) in
      subst P (sym e) (notes list failed todo slots id i d old.0 old.1 holds some_claim not_posted place)

  pub closed_of : (todo m : ℕ) (v : View) (xs : List (Option V)) (x : V) → Shown list failed todo v xs → get_elem? xs 0 ≡ some (Some x) → todo ≡ m → Closed list failed m v x
  closed_of todo m v xs x shown at e =
      let same : shown.value ≡ x = same_Some shown.value x (some-injective (Some shown.value) (Some x) (sym shown.home ∙ at)) in
      subst (λ (p : ℕ × V). Closed list failed p.0 v p.1) (λ i. (e i, same i)) shown.closed

  pub opens_me : (todo slots id : ℕ) (me : Me (Option V) View) → me ≡ (opening_view todo, []) → Allows (Rule list failed todo) slots id me 1 (λ n. either (n == 0) 1 n) (Opens (step slots 1 0 1 none) me)
  opens_me todo slots id me e =
      let P : Me (Option V) View → Type 0 = λ me. Allows (Rule list failed todo) slots id me 1 (λ n. either (n == 0) 1 n) (Opens (step slots 1 0 1 none) me) in
      subst P (sym e) (opens list failed todo slots id)

  -- what the exchange found in the slot is what was taken
  pub took_value : (n : ℕ) (v w : Me (Option V) View) (x : V) (r : List (ℕ × Option V)) → (t : Took list failed n v w) → w.1 ≡ (0, Some x) ∷ r → t.value ≡ x
  took_value n v w x r t e = same_Some t.value x (ap head_value (sym (ap (λ (m : Me (Option V) View). m.1) t.now) ∙ e))

  -- the exchange found the word that was expected
  pub took_of : (slots n old : ℕ) (v w : Me (Option V) View) → n ≡ old → Takes list failed (step slots 1 old (old + 1) none) v n w → Took list failed n v w
  took_of slots n old v w e t = subst (λ b. MatchBool b (Took list failed n v w) (w ≡ v)) (eq-eqb n old e) t

  pub took_place : (n : ℕ) (v w m : Me (Option V) View) (x : V) (old now : Seated) → old.view ≡ v.0 → now.table ≡ old.table → Took list failed n v w → w.1 ≡ (0, Some x) ∷ rest w.1 → now.view ≡ w.0 → Taken list failed old now x
  took_place n v w m x old now was table t out is =
      let same = took_value n v w x (rest w.1) t out in record {
        table = table;
        view = is ∙ (ap (λ (m : Me (Option V) View). m.0) t.now ∙ ap (λ (p : View × V). taking p.0 (list p.1) (failed p.1)) (λ i. (sym was i, same i)));
        follows = subst (λ (p : View × V). Follows list failed p.0 p.1) (λ i. (sym was i, same i)) t.follows;
      }

  pub slot_taken : (n : ℕ) (v w : Me (Option V) View) → Took list failed n v w → (x : Option V) × (w.1 ≡ (0, x) ∷ rest w.1)
  slot_taken n v w t =
      let out = ap (λ (m : Me (Option V) View). m.1) t.now in
      (Some t.value, out ∙ ap (λ (r : List (ℕ × Option V)). (0, Some t.value) ∷ rest r) (sym out))

pub steady_noted : {V : Type 0} (me : Me (Option V) View) (v : View) (c : List (ℕ × Option V)) (next d : ℕ) → me ≡ (noting v d, c) → v.holds ≡ true → IsSteady v c next → IsSteady me.0 me.1 (next + 1)
steady_noted {V} me v c next d e holds h =
    let P : Me (Option V) View → Type 0 = λ m. IsSteady m.0 m.1 (next + 1) in
    subst P (sym e) (record {
      free = λ f. false_true v.holds f holds;
      held = h.held;
      place = λ t. let a = h.place t in omega (arith, length-append v.seen (d ∷ []));
    })
