-- The table shows a state of the pure machine.
use Rattle.std.specs.Prelude.{ℕ, ◌≡◌, ◌==◌, ◌-◌, ◌≤◌, min, cond, nat_lt, List, [], ◌∷◌, length, drop, map, slice_index}
use mathlib.Core.Option.{some}
use lib.ListN.{get_elem?}
use Rattle.atomic_table.specs.Table.{State}
use Rattle.campaign_core.specs.Machines.{Machine, times, times_claimed_by}
use Rattle.claim_counter.specs.declared.view.View.{View}

-- the nonzero words, each less one
abbrev pub history_of : List ℕ → List ℕ
history_of [] = []
history_of (k ∷ ks) = cond (nat_lt 0 k) ((k - 1) ∷ history_of ks) (history_of ks)

-- a worker is a seat, by its number. Its claims are those in its view, and the claims of a spent seat are none
pub record Shows {S : Type 0} (todo : ℕ) (s : State S View) (m : Machine) : Type 0 where
  pub limit : m.limit ≡ todo
  pub next : m.next ≡ min (slice_index s.words 0) todo
  pub claims : (w : ℕ) (v : View) → get_elem? s.views w ≡ some v → (x : ℕ) → times_claimed_by w x m.claims ≡ times x v.claims
  pub others : (w : ℕ) → length s.views ≤ w → (x : ℕ) → times_claimed_by w x m.claims ≡ 0
  pub history : m.history ≡ history_of (drop 2 s.words)
  pub failed : m.failed ≡ nat_lt 1 (slice_index s.words 1)

-- the claims of the worker `other` move to the worker `id`
abbrev pub moved : ℕ → ℕ → Machine → Machine
moved other id m = record m { claims = map (λ c. (cond (c.0 == other) id c.0, c.1)) m.claims }
