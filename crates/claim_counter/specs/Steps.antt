-- The table after an atomic step of each kind, by the seat with the number id and the view v.
use Rattle.std.specs.Prelude.{ℕ, ◌+◌, ◌%◌, ◌^◌, ◌==◌, ◌&&◌, Bool, cond, List, [], ◌∷◌, ◌++◌, length, slice_index, slice_set, Option, Some, None}
use Rattle.atomic_table.specs.Table.{State, stepped, keeps, takes, gives}
use Rattle.campaign_core.specs.Machines.{Machine, after}
use Rattle.campaign_core.specs.declared.event.Event.TheVariants.{Fail}
use Rattle.claim_counter.specs.declared.view.View.{View}
use Rattle.claim_counter.specs.Views.{starting_view, drawn, taking, noting, giving, less_one, with_one, joined_views, spent_view}

module _ {V : Type 0} where
  -- fetch_add on the counter
  abbrev pub after_draw : State (Option V) View → ℕ → View → State (Option V) View
  after_draw s id v = stepped s 0 ((slice_index s.words 0 + 1) % 2 ^ 64) id [] (drawn v (slice_index s.words 0)) keeps

  -- the compare_exchange that takes the first turn, with the empty slot
  abbrev pub after_open : State (Option V) View → ℕ → View → State (Option V) View
  after_open s id v = stepped s 1 1 id [] (starting_view v.todo) (takes 0 None)

  -- the compare_exchange that takes the turn, with the value x in the slot
  abbrev pub after_take : (V → List ℕ) → (V → Bool) → State (Option V) View → ℕ → View → V → State (Option V) View
  after_take list failed s id v x = stepped s 1 (slice_index s.words 1 + 1) id [] (taking v (list x) (failed x)) (takes 0 (Some x))

  -- the store of a history word, for the number d
  abbrev pub after_note : State (Option V) View → ℕ → View → ℕ → State (Option V) View
  after_note s id v d = stepped s (2 + length v.seen) (d + 1) id [] (noting v d) keeps

  -- the store that gives the turn back, with the value x
  abbrev pub after_give : (V → Bool) → State (Option V) View → ℕ → View → V → State (Option V) View
  after_give failed s id v x = stepped s 1 (cond (failed x) 2 0) id ((0, Some x) ∷ []) (giving v (failed x)) gives

  -- a load of the word i
  abbrev pub after_load : State (Option V) View → ℕ → ℕ → View → State (Option V) View
  after_load s i id v = stepped s i (slice_index s.words i) id [] v keeps

  -- a split: the new seat has the next number
  abbrev pub after_split : State (Option V) View → ℕ → View → State (Option V) View
  after_split s id v = record { words = s.words; homes = s.homes; views = slice_set s.views id (less_one v) ++ with_one v ∷ [] }

  -- a join of the seat `other` with the view w
  abbrev pub after_join : State (Option V) View → ℕ → View → ℕ → View → State (Option V) View
  after_join s id v other w = record { words = s.words; homes = s.homes; views = slice_set (slice_set s.views id (joined_views v w)) other spent_view }

-- the machine after the turn was given back: a failure where the turn was 1 and the value has failed, and else nothing
abbrev pub given_back : Machine → ℕ → ℕ → Bool → Machine
given_back m id turn failed = cond ((turn == 1) && failed) (after m (Fail id)) m
