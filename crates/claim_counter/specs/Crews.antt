-- What the seats of a crew meet: a first seat, which only splits and joins, and the seats that were split from it.
use Rattle.std.specs.Prelude.{◌^◌, ℕ, ◌≡◌, ◌+◌, ◌<◌, false, List, All}
use Rattle.std.specs.List.{sum_by}
use Rattle.campaign_core.specs.Machines.{times}
use Rattle.claim_counter.specs.Seats.{Counter, Seated, IsOf}

-- the shares of these seats
abbrev pub shares_of : List Seated → ℕ
shares_of seats = sum_by (λ p. p.view.share) seats

-- the seat may draw, and has posted all that it drew
pub record MayDraw (c : Counter) (p : Seated) : Type 0 where
  pub of : IsOf c p
  pub first : p.view.nones ≡ 0
  pub free : p.view.holds ≡ false
  pub all : (n : ℕ) → times n p.view.claims ≡ times n p.view.posts

-- unless the seat knows of a failure, it has posted all that it drew, and a draw was answered None
pub record IsDone (c : Counter) (p : Seated) : Type 0 where
  pub of : IsOf c p
  pub free : p.view.holds ≡ false
  pub none : p.view.fails ≡ false → 0 < p.view.nones
  pub all : p.view.fails ≡ false → (n : ℕ) → times n p.view.claims ≡ times n p.view.posts

-- the first seat and the others have all shares, and all others are ready
pub record IsCrew (c : Counter) (first : Seated) (seats : List Seated) : Type 0 where
  pub of : IsOf c first
  pub nones : first.view.nones ≡ 0
  pub all : (n : ℕ) → times n first.view.claims ≡ times n first.view.posts
  pub ready : All (λ p. MayDraw c p) seats
  pub shares : first.view.share + shares_of seats ≡ 2 ^ 32
