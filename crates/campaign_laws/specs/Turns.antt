-- The turn of the shared table, between any two atomic steps.
use Rattle.std.specs.Prelude.{◌≡◌, ◌⊎◌, ℕ, ◌<◌, Bool, true, List, Option, slice_index}
use mathlib.Core.Option.{some}
use lib.ListN.{get_elem?}
use Rattle.atomic_table.specs.Table.{State}
use Rattle.claim_counter.specs.declared.view.View.{View}
use Rattle.claim_counter.specs.Rules.{Rule}

-- this seat holds the turn, wasn't joined into another, and no other seat holds it
pub record HoldsAlone (views : List View) (seat : ℕ) (view : View) : Type 0 where
  pub at : get_elem? views seat ≡ some view
  pub holds : view.holds ≡ true
  pub share : 0 < view.share
  pub alone : (i : ℕ) (v : View) → get_elem? views i ≡ some v → v.holds ≡ true → i ≡ seat

-- A TURN IS FREE, so that its word is one of the two at which it is taken, OR ONE SEAT HOLDS IT
abbrev pub TurnIsFreeOrHeld : {V : Type 0} → (V → List ℕ) → (V → Bool) → Type 0
TurnIsFreeOrHeld {V} list failed = (todo : ℕ) (s : State (Option V) View) → Rule list failed todo s
    → ((slice_index s.words 1 ≡ 0) ⊎ (slice_index s.words 1 ≡ 2)) ⊎ ((seat : ℕ) × (view : View) × HoldsAlone s.views seat view)
