-- What each step tells its caller.
use Rattle.std.specs.Prelude.{ℕ, ◌≡◌, ◌==◌, ◌+◌, ◌<◌, Bool, true, List, ◌∷◌, length, Option, Some, None, MatchBool}
use Rattle.atomic_table.specs.Table.{Me, Step, rest}
use Rattle.claim_counter.specs.declared.view.View.{View}
use Rattle.campaign_core.specs.Machines.{times}
use Rattle.claim_counter.specs.Seats.{Follows}
use Rattle.claim_counter.specs.Views.{drawn, starting_view, taking, noting, giving}

-- a draw found the counter at n. Where n is below todo, the seat hadn't claimed it
abbrev pub Draws : {S : Type 0} → Step S → Me S View → ℕ → Me S View → Type 0
Draws s v n w = (w ≡ (drawn v.0 n, v.1)) × (n < v.0.todo → times n v.0.claims ≡ 0)

-- the first seat takes the turn
abbrev pub Opens : {V : Type 0} → Step (Option V) → Me (Option V) View → ℕ → Me (Option V) View → Type 0
Opens s v n w = w ≡ (starting_view v.0.todo, (0, None) ∷ v.1)

module _ {V : Type 0} (list : V → List ℕ) (failed : V → Bool) where
  -- the turn was taken, with a value behind it
  pub record Took (n : ℕ) (v w : Me (Option V) View) : Type 0 where
    pub value : V
    pub now : w ≡ (taking v.0 (list value) (failed value), (0, Some value) ∷ v.1)
    pub follows : Follows list failed v.0 value

  -- where the word isn't the expected one, nothing changes
  abbrev pub Takes : Step (Option V) → Me (Option V) View → ℕ → Me (Option V) View → Type 0
  Takes s v n w = MatchBool (n == s.first) (Took n v w) (w ≡ v)

  -- a seat with all shares takes the turn, whatever its word is: nobody else can hold it
  abbrev pub TakesAlone : Step (Option V) → Me (Option V) View → ℕ → Me (Option V) View → Type 0
  TakesAlone s v n w = Took n v w

  -- the value in the seat's slot is what comes home
  abbrev pub StepGives : Step (Option V) → Me (Option V) View → ℕ → Me (Option V) View → Type 0
  StepGives s v n w = w ≡ (giving v.0 (n == 2), rest v.1)

-- a number that was drawn and not posted has a place in the history
abbrev pub Learns : {S : Type 0} → Step S → Me S View → ℕ → Me S View → Type 0
Learns s v n w = (w ≡ v) × (v.0.holds ≡ true → (d : ℕ) → 0 < times d v.0.claims → times d v.0.posts ≡ 0 → (length v.0.seen < v.0.todo) × (d < v.0.todo))

-- the word that is stored is one more than the number d
abbrev pub Notes : {S : Type 0} → Step S → Me S View → ℕ → Me S View → Type 0
Notes s v n w = (d : ℕ) → n ≡ d + 1 → w ≡ (noting v.0 d, v.1)
