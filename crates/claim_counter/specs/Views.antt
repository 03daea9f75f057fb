-- What each step does to a view.
use Rattle.std.specs.Prelude.{◌^◌, ℕ, ◌+◌, ◌-◌, Bool, true, false, ◌||◌, nat_lt, cond, List, [], ◌∷◌, ◌++◌, length}
use Rattle.claim_counter.specs.declared.view.View.{View}

-- the first view: all shares, and nothing seen. It isn't open yet
abbrev pub opening_view : ℕ → View
opening_view todo = record { todo = todo; share = 2 ^ 32; nones = 0; claims = []; posts = []; seen = []; opened = false; holds = false; fails = false }

-- the first seat has taken the turn, with nothing behind it
abbrev pub starting_view : ℕ → View
starting_view todo = record { todo = todo; share = 2 ^ 32; nones = 0; claims = []; posts = []; seen = []; opened = true; holds = true; fails = false }

-- what a join leaves of the seat that was joined
abbrev pub spent_view : View
spent_view = record { todo = 0; share = 0; nones = 0; claims = []; posts = []; seen = []; opened = true; holds = false; fails = false }

-- the number n was drawn
abbrev pub with_claim : View → ℕ → View
with_claim v n = record v { claims = v.claims ++ n ∷ [] }

-- a draw was answered None
abbrev pub with_none : View → View
with_none v = record v { nones = v.nones + 1 }

-- after a draw that found the counter at n
abbrev pub drawn : View → ℕ → View
drawn v n = cond (nat_lt n v.todo) (with_claim v n) (with_none v)

-- one share is given away
abbrev pub less_one : View → View
less_one v = record v { share = v.share - 1 }

-- the new seat of a split: one share, nothing done, and the same seen
abbrev pub with_one : View → View
with_one v = record { todo = v.todo; share = 1; nones = 0; claims = []; posts = []; seen = v.seen; opened = true; holds = false; fails = false }

-- the longer of two beginnings of one history
abbrev pub longer : List ℕ → List ℕ → List ℕ
longer xs ys = cond (nat_lt (length xs) (length ys)) ys xs

-- w is joined into v. Who holds the turn has seen all there is
abbrev pub joined_views : View → View → View
joined_views v w = record { todo = v.todo; share = v.share + w.share; nones = v.nones + w.nones; claims = v.claims ++ w.claims; posts = v.posts ++ w.posts; seen = cond v.holds v.seen (longer v.seen w.seen); opened = true; holds = v.holds; fails = v.fails || w.fails }

-- the turn is taken, with this history behind it
abbrev pub taking : View → List ℕ → Bool → View
taking v history failed = record v { seen = history; holds = true; fails = failed }

-- the number d is appended to the history
abbrev pub noting : View → ℕ → View
noting v d = record v { posts = v.posts ++ d ∷ []; seen = v.seen ++ d ∷ [] }

-- the turn is given back, with a value that has failed or not
abbrev pub giving : View → Bool → View
giving v failed = record v { holds = false; fails = failed }
