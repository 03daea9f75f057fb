-- What contracts see of a counter and of a seat.
use Rattle.std.specs.Prelude.{ℕ, ◌≡◌, ◌<◌, ◌≤◌, Bool, true, false, List, [], ◌∷◌, length, Option, None}
use mathlib.Core.List.{IsPrefix}
use Rattle.campaign_core.specs.Machines.{times, once_below}
use Rattle.claim_counter.specs.Views.{taking}
use Rattle.atomic_table.specs.Seated.{TableId}
use Rattle.claim_counter.specs.declared.view.View.{View}

-- a table, and how many numbers there are
pub record Counter : Type 0 where
  pub table : TableId
  pub todo : ℕ

-- a seat's table, and what it did and knows
pub record Seated : Type 0 where
  pub table : TableId
  pub view : View

-- the seat is of this table, and wasn't joined into another
pub record IsOf (c : Counter) (p : Seated) : Type 0 where
  pub table : p.table ≡ c.table
  pub todo : p.view.todo ≡ c.todo
  pub share : 0 < p.view.share
  pub opened : p.view.opened ≡ true

-- the slot is out with the holder of the turn alone, which knows the place of the next history word
pub record IsSteady {V : Type 0} (v : View) (c : List (ℕ × Option V)) (next : ℕ) : Type 0 where
  pub free : v.holds ≡ false → c ≡ []
  pub held : v.holds ≡ true → c ≡ (0, None) ∷ []
  pub place : v.holds ≡ true → next ≡ length v.seen

-- what the holder of the turn knows of the history, by the value behind the turn
-- later: the history goes on from what the seat had seen
-- posted: it has all posts of the seat
-- own: of the numbers that the seat drew, it has those that the seat posted
-- once: it has no number twice, and only numbers below todo
-- fails: a failure that the seat knew of is the value's
pub record Follows {V : Type 0} (list : V → List ℕ) (failed : V → Bool) (view : View) (x : V) : Type 0 where
  pub later : IsPrefix view.seen (list x)
  pub posted : (n : ℕ) → times n view.posts ≤ times n (list x)
  pub own : (n : ℕ) → 0 < times n view.claims → times n (list x) ≡ times n view.posts
  pub once : (n : ℕ) → times n (list x) ≤ once_below n view.todo
  pub fails : view.fails ≡ true → failed x ≡ true

-- the turn was taken: the value's list is the history, which the seat has now seen whole
pub record Taken {V : Type 0} (list : V → List ℕ) (failed : V → Bool) (old now : Seated) (x : V) : Type 0 where
  pub table : now.table ≡ old.table
  pub view : now.view ≡ taking old.view (list x) (failed x)
  pub follows : Follows list failed old.view x

-- what the last seat did is all that was done
-- posts: the value's list has the posts of the seat, as often, and no other number
-- once: it has no number twice, and only numbers below todo
-- claims: where a draw was answered None, the claims of the seat are all numbers below todo
-- fails: a failure that the seat knew of is the value's
pub record Closed {V : Type 0} (list : V → List ℕ) (failed : V → Bool) (todo : ℕ) (view : View) (x : V) : Type 0 where
  pub posts : (n : ℕ) → times n (list x) ≡ times n view.posts
  pub once : (n : ℕ) → times n (list x) ≤ once_below n todo
  pub claims : 0 < view.nones → (n : ℕ) → times n view.claims ≡ once_below n todo
  pub fails : view.fails ≡ true → failed x ≡ true
