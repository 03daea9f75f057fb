-- What the calls of a shared board tell their seats. A seat's view names batches by their numbers on the claim counter.
use Rattle.std.specs.Prelude.{◌≡◌, ℕ, ◌<◌, Bool, true, false, List, length, All}
use mathlib.Core.List.{IsPrefix}
use Rattle.metric_sums.specs.declared.Sums.{Sums}
use Rattle.result_file.specs.declared.Row.{Row}
use Rattle.campaign_core.specs.Machines.{times}
use Rattle.claim_counter.specs.declared.view.View.{View}
use Rattle.claim_counter.specs.Views.{with_claim, taking, noting, giving}
use Rattle.claim_counter.specs.Seats.{Follows, Closed}
use Rattle.campaign_board.specs.declared.entry.Look.{Look}
use Rattle.campaign_board.specs.declared.entry.Posted.{Posted}
use Rattle.campaign_board.specs.declared.entry.Posted.TheVariants.{Kept, Stopped}
use Rattle.campaign_board.specs.Boards.{Start, batches_of, sums_over}
use Rattle.campaign_board.specs.Missing.{batches_missing, IsMissing, claim_number, added_rows, numbers_of, batches_with}

-- the seat may find this history behind the turn, with a board that has failed or not: it goes on from what the seat had seen, has each post of the seat and of its claims no more, no number twice, and a failure that the seat knew of
abbrev pub MayFind : View → List ℕ → Bool → Type 0
MayFind view history failed = Follows {V = List ℕ} (λ h. h) (λ _. failed) view history

-- the batch has the number that was drawn, which joins the claims and wasn't among them
pub record IsDrawn (o : Start) (old now : View) (batch : ℕ) : Type 0 where
  pub due : IsMissing o batch
  pub new : times (claim_number o batch) old.claims ≡ 0
  pub view : now ≡ with_claim old (claim_number o batch)

-- the seat drew the batch and hasn't posted it
pub record MayPost (o : Start) (view : View) (batch : ℕ) : Type 0 where
  pub due : IsMissing o batch
  pub drawn : 0 < times (claim_number o batch) view.claims
  pub new : times (claim_number o batch) view.posts ≡ 0

-- The number of the batch was appended to the history that was found, and the seat has seen it so.
-- sums_are: the sums are those of the entries of the rows at the start and of all that the seat has now seen, from scratch
pub record IsPosted (o : Start) (old now : View) (batch : ℕ) (sums : Sums) : Type 0 where
  pub history : List ℕ
  pub found : MayFind old history false
  pub view : now ≡ giving (noting (taking old history false) (claim_number o batch)) false
  pub sums_are : sums ≡ sums_over o.entries (batches_with o now.seen)

-- Nothing was posted. The seat has seen the history that was found, and knows of a failure.
pub record KnowsOfFailure (old now : View) : Type 0 where
  pub history : List ℕ
  pub found : MayFind old history true
  pub view : now ≡ giving (taking old history true) true

-- what a post of this batch tells
abbrev pub TellsSeat : Start → View → View → ℕ → Posted → Type 0
TellsSeat o old now batch (Kept sums) = IsPosted o old now batch sums
TellsSeat o old now batch Stopped = KnowsOfFailure old now

-- A look tells the sums, the number and the failure of the history that was found, which the seat has then seen.
pub record IsLook (o : Start) (old now : View) (look : Look) : Type 0 where
  pub history : List ℕ
  pub found : MayFind old history look.stopped
  pub view : now ≡ giving (taking old history look.stopped) look.stopped
  pub sums_are : look.sums ≡ sums_over o.entries (batches_with o history)
  pub count_is : look.count ≡ length history

-- What the last seat did is all that was done.
-- starts: the rows at the start stand first
-- due: each row after them is of a batch to do
-- posts: a batch to do has as many of these rows as the seat has posts of it
-- closed: in numbers. The list has the posts, each once; where a draw was answered None, the claims are all numbers; a failure that the seat knew of is the board's
pub record IsClosed (o : Start) (todo : ℕ) (view : View) (rows : List Row) (failed : Bool) : Type 0 where
  pub todo_is : todo ≡ length (batches_missing o)
  pub starts : IsPrefix o.rows rows
  pub due : All (IsMissing o) (batches_of (added_rows o rows))
  pub posts : (batch : ℕ) → IsMissing o batch → times batch (batches_of (added_rows o rows)) ≡ times (claim_number o batch) view.posts
  pub closed : Closed {V = List Row} (numbers_of o) (λ _. failed) todo view rows
