-- The turn is taken by the only seat.
use Rattle.std.proofs.Common.{◌^◌, ◌≡◌, ℕ, ◌+◌, ◌%◌, ◌<◌, Bool, true, false, cond, List, [], sym, ap, subst, arith, Option, Some, slice_index}
use Rattle.std.proofs.Math.Nat.{mod-eq_of_lt}
use mathlib.Core.Option.{none}
use lib.ListN.{get_elem?}
use Rattle.atomic_table.specs.Table.{Me, takes, step, Allows, stepped}
use Rattle.claim_counter.specs.declared.view.View.{View}
use Rattle.claim_counter.specs.Views.{taking}
use Rattle.claim_counter.specs.Rules.{Rule}
use Rattle.claim_counter.specs.Plays.{TakesAlone}
use Rattle.claim_counter.proofs.Takes.{turn_found, take_rule, take_follows, took_with}
use Rattle.claim_counter.proofs.Closing.{lone_free}

word_small : (b : Bool) (t : ℕ) → t ≡ cond b 2 0 → t + 1 < 2 ^ 64
word_small true t e = omega arith
word_small false t e = omega arith

module _ {V : Type 0} (list : V → List ℕ) (failed : V → Bool) where
  takes_alone : (todo slots id : ℕ) (v : View) → v.todo ≡ todo → v.opened ≡ true → v.holds ≡ false → v.share ≡ 2 ^ 32
      → Allows (Rule list failed todo) slots id (v, []) 1 (λ n. (n + 1) % 2 ^ 64) (TakesAlone list failed (step slots 1 1 0 none) (v, []))
  takes_alone todo slots id v knows is_open free all s h len at fits =
      let f = lone_free list failed todo id s v h at all is_open free in
      let n = slice_index s.words 1 in
      let small : n + 1 < 2 ^ 64 = subst (λ t. t + 1 < 2 ^ 64) (sym (turn_found list failed todo s id v h at)) (word_small (failed f.value) h.turn f.word) in
      let P : ℕ → Type 0 = λ m. Rule list failed todo (stepped s 1 m id [] (taking v (list f.value) (failed f.value)) (takes 0 (Some f.value))) in (
        taking v (list f.value) (failed f.value),
        takes 0 (Some f.value),
        ap (λ hs. get_elem? hs 0) f.home,
        subst P (sym (mod-eq_of_lt small)) (take_rule list failed todo s id v h at free (omega arith) f),
        took_with list failed n v f.value (take_follows list failed todo s id v h at knows f),
      )

  pub takes_alone_me : (todo slots id : ℕ) (me : Me (Option V) View) → me.1 ≡ [] → me.0.todo ≡ todo → me.0.opened ≡ true → me.0.holds ≡ false → me.0.share ≡ 2 ^ 32
      → Allows (Rule list failed todo) slots id me 1 (λ n. (n + 1) % 2 ^ 64) (TakesAlone list failed (step slots 1 1 0 none) me)
  takes_alone_me todo slots id me e knows is_open free all =
      let P : List (ℕ × Option V) → Type 0 = λ c. Allows (Rule list failed todo) slots id (me.0, c) 1 (λ n. (n + 1) % 2 ^ 64) (TakesAlone list failed (step slots 1 1 0 none) (me.0, c)) in
      subst P (sym e) (takes_alone todo slots id me.0 knows is_open free all)
