-- The rule of the shared table, which holds between any two atomic steps. It is this project's own, in three groups: claims, turn and history. A step that leaves all that a group reads keeps this group.
-- The words of the table are the counter, the turn, and one history word for each number to do. Its one slot holds the shared value.
use Rattle.std.specs.Prelude.{◌^◌, ℕ, ◌≡◌, ◌+◌, ◌-◌, ◌<◌, ◌≤◌, min, Bool, true, false, cond, List, [], ◌∷◌, ◌++◌, length, map, replicate, Option, Some, None, ◌⊎◌}
use Rattle.std.specs.List.{sum_by}
use mathlib.Core.Option.{none, some}
use mathlib.Core.List.{IsPrefix}
use lib.ListN.{get_elem?}
use Rattle.atomic_table.specs.Table.{State}
use Rattle.campaign_core.specs.Machines.{times, once_below}
use Rattle.claim_counter.specs.declared.view.View.{View}

-- The claims. This group reads the counter, and what the views hold of claims, shares and answers None.
-- claims: the claims of the views are disjoint, and together they are the numbers below the lesser of counter and todo
-- shares: the shares add up to 2^32. The first view has all; a split gives one away, and a join takes it back
-- over: the counter exceeds todo by at most the number of draws that were answered None
-- stops: where some draw was answered None, the counter had reached todo
-- limit: no view was answered None more often than it has shares
-- spent: a view without a share, which a join left, has no claims and no answers None
-- knows: each other view knows how many numbers there are
pub record ClaimsRule (todo counter : ℕ) (views : List View) : Type 0 where
  pub claims : (x : ℕ) → sum_by (λ v. times x v.claims) views ≡ once_below x (min counter todo)
  pub shares : sum_by (λ v. v.share) views ≡ 2 ^ 32
  pub over : counter ≤ todo + sum_by (λ v. v.nones) views
  pub stops : 0 < sum_by (λ v. v.nones) views → todo ≤ counter
  pub limit : (i : ℕ) (v : View) → get_elem? views i ≡ some v → v.nones ≤ v.share
  pub spent : (i : ℕ) (v : View) → get_elem? views i ≡ some v → v.share ≡ 0 → (v.nones ≡ 0) × (v.claims ≡ [])
  pub knows : (i : ℕ) (v : View) → get_elem? views i ≡ some v → 0 < v.share → v.todo ≡ todo

-- 1 where the view holds the turn
abbrev pub holder : View → ℕ
holder v = cond v.holds 1 0

-- 1 where the view knows of a failure
abbrev pub knower : View → ℕ
knower v = cond v.fails 1 0

-- What is at home in the slots: nothing where a slot is out
abbrev pub Homes : Type 0 → Type 0
Homes V = List (mathlib.Core.Option.Option (Option V))

-- The turn. This group reads the turn, the slot, whether a view is open, and what the views know of the turn and of a failure.
module _ {V : Type 0} (failed : V → Bool) where
  -- The turn is free, and a value is at home.
  -- word: the turn is 2 where the value has failed, and else 0
  -- nobody: no view holds the turn
  -- told: where the value hasn't failed, no view knows of a failure
  pub record Free (turn : ℕ) (homes : Homes V) (views : List View) : Type 0 where
    pub value : V
    pub home : homes ≡ some (Some value) ∷ []
    pub word : turn ≡ cond (failed value) 2 0
    pub nobody : sum_by holder views ≡ 0
    pub told : failed value ≡ false → sum_by knower views ≡ 0
    pub all_open : (i : ℕ) (v : View) → get_elem? views i ≡ some v → v.opened ≡ true

  -- The turn is held, and the slot is out.
  -- one: exactly one view holds the turn
  -- told: where the turn is 1, no view knows of a failure
  -- holds: the holder isn't spent, and it knows of a failure exactly where the turn is 3
  pub record Out (turn : ℕ) (homes : Homes V) (views : List View) : Type 0 where
    pub home : homes ≡ none ∷ []
    pub word : (turn ≡ 1) ⊎ (turn ≡ 3)
    pub one : sum_by holder views ≡ 1
    pub told : turn ≡ 1 → sum_by knower views ≡ 0
    pub holds : (i : ℕ) (v : View) → get_elem? views i ≡ some v → v.holds ≡ true → (0 < v.share) × (turn ≡ cond v.fails 3 1)
    pub all_open : (i : ℕ) (v : View) → get_elem? views i ≡ some v → v.opened ≡ true

  -- The table was just made: its only view isn't open yet, the turn is 0, and the empty slot is at home.
  pub record Fresh (turn : ℕ) (homes : Homes V) (views : List View) : Type 0 where
    pub home : homes ≡ some None ∷ []
    pub word : turn ≡ 0
    pub only : (i : ℕ) (v : View) → get_elem? views i ≡ some v → i ≡ 0
    pub shut : (i : ℕ) (v : View) → get_elem? views i ≡ some v → v.opened ≡ false
    pub nobody : sum_by holder views ≡ 0
    pub told : sum_by knower views ≡ 0

  abbrev pub TurnRule : ℕ → Homes V → List View → Type 0
  TurnRule turn homes views = Free turn homes views ⊎ (Out turn homes views ⊎ Fresh turn homes views)

-- The history. This group reads the history words, what the views hold of posts and of what they have seen, the claims, the slot, and which view holds the turn.
-- words: there is one nonzero word for each number of the history, one more than it, and 0 in all others
-- posts: each number of the history is in the posts of one view, as often, and no other number is
-- own: a view posts numbers within its claims. With the claims' group it follows that the history has no number twice, and only numbers below the counter
-- seen: what a view has seen begins the history
-- value: the list of a value at home is the history
-- holder: the holder of the turn has seen the whole history
-- empty: where the empty slot is at home, as in the table that was just made, the history is empty
module _ {V : Type 0} (list : V → List ℕ) where
  pub record HistoryRule (todo : ℕ) (tail : List ℕ) (history : List ℕ) (homes : Homes V) (views : List View) : Type 0 where
    pub words : tail ≡ map (λ k. k + 1) history ++ replicate (todo - length history) 0
    pub room : length history ≤ todo
    pub posts : (x : ℕ) → sum_by (λ v. times x v.posts) views ≡ times x history
    pub own : (i : ℕ) (v : View) → get_elem? views i ≡ some v → (x : ℕ) → times x v.posts ≤ times x v.claims
    pub seen : (i : ℕ) (v : View) → get_elem? views i ≡ some v → IsPrefix v.seen history
    pub value : (x : V) → get_elem? homes 0 ≡ some (some (Some x)) → list x ≡ history
    pub holder : (i : ℕ) (v : View) → get_elem? views i ≡ some v → v.holds ≡ true → v.seen ≡ history
    pub empty : get_elem? homes 0 ≡ some (some None) → history ≡ []

-- The whole rule: the counter, the turn, the history words, and the three groups.
module _ {V : Type 0} (list : V → List ℕ) (failed : V → Bool) where
  pub record Rule (todo : ℕ) (s : State (Option V) View) : Type 0 where
    pub counter : ℕ
    pub turn : ℕ
    pub tail : List ℕ
    pub history : List ℕ
    pub words : s.words ≡ counter ∷ turn ∷ tail
    pub claims_rule : ClaimsRule todo counter s.views
    pub turn_rule : TurnRule failed turn s.homes s.views
    pub history_rule : HistoryRule list todo tail history s.homes s.views
