-- The campaign as a pure machine over events. It is this project's own model: numbers are claimed in rising order, each claim is posted at most once, and nothing is posted after a failure.
use Rattle.std.specs.Prelude.{ℕ, ◌+◌, ◌==◌, ◌&&◌, Bool, true, false, not, cond, nat_lt, List, [], ◌∷◌, ◌++◌, count_by}
use Rattle.std.specs.List.{list_any}
use Rattle.campaign_core.specs.declared.event.Event.{Event}
use Rattle.campaign_core.specs.declared.event.Event.TheVariants.{Draw, Post, Look, Fail}

-- how many numbers there are; the next number; each worker with a number that it claimed, in the order claimed; the posted numbers, in the order posted; and whether the campaign has failed
pub record Machine : Type 0 where
  pub limit : ℕ
  pub next : ℕ
  pub claims : List (ℕ × ℕ)
  pub history : List ℕ
  pub failed : Bool

-- nothing is claimed or posted
abbrev pub fresh : ℕ → Machine
fresh limit = record { limit = limit; next = 0; claims = []; history = []; failed = false }

-- this worker claimed this number
abbrev pub is_claimed : ℕ → ℕ → List (ℕ × ℕ) → Bool
is_claimed worker number claims = list_any (λ c. (c.0 == worker) && (c.1 == number)) claims

-- this number was posted
abbrev pub is_posted : ℕ → List ℕ → Bool
is_posted number history = list_any (λ x. x == number) history

-- the event may come next: a post needs a claim of this worker that nobody has posted, and a campaign that hasn't failed
abbrev pub is_lawful : Machine → Event → Bool
is_lawful m (Draw w) = true
is_lawful m (Post w n) = is_claimed w n m.claims && not (is_posted n m.history) && not m.failed
is_lawful m (Look w) = true
is_lawful m (Fail w) = true

-- the worker claims the next number
abbrev pub with_draw : Machine → ℕ → Machine
with_draw m w = record m { next = m.next + 1; claims = m.claims ++ (w, m.next) ∷ [] }

-- the machine after the event
abbrev pub after : Machine → Event → Machine
after m (Draw w) = cond (nat_lt m.next m.limit) (with_draw m w) m
after m (Post w n) = record m { history = m.history ++ n ∷ [] }
after m (Look w) = m
after m (Fail w) = record m { failed = true }

-- the machine after all events
abbrev pub after_all : Machine → List Event → Machine
after_all m [] = m
after_all m (e ∷ es) = after_all (after m e) es

-- each event was lawful when it came
abbrev pub all_lawful : Machine → List Event → Bool
all_lawful m [] = true
all_lawful m (e ∷ es) = is_lawful m e && all_lawful (after m e) es

-- how often x stands in the list
abbrev pub times : ℕ → List ℕ → ℕ
times x xs = count_by (λ y. y == x) xs

-- how often x was claimed, by whomever
abbrev pub times_claimed : ℕ → List (ℕ × ℕ) → ℕ
times_claimed x claims = count_by (λ c. c.1 == x) claims

-- how often this worker claimed x
abbrev pub times_claimed_by : ℕ → ℕ → List (ℕ × ℕ) → ℕ
times_claimed_by worker x claims = count_by (λ c. (c.0 == worker) && (c.1 == x)) claims

-- 1 where x is below n, and else 0
abbrev pub once_below : ℕ → ℕ → ℕ
once_below x n = cond (nat_lt x n) 1 0
