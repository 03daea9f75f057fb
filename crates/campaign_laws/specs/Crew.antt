-- A crew: the workers of a campaign as a machine without threads, by the atomic steps of `campaign_workers`. It is this project's own
-- model. A worker draws up to four batches, posts each under the turn, in the order drawn, and so on until a draw has given none; it
-- then looks once, and ends. It ends at once where a post is stopped. To wait for a turn that another has is no step. A batch is meant
-- by its number among those to do.
use Rattle.std.specs.Prelude.{◌≡◌, ◌⊎◌, ℕ, ◌==◌, Bool, true, false, cond, nat_lt, MatchBool, List, [], ◌∷◌, ◌++◌, length, replicate, slice_index_or, slice_set, Option, None, Some}
use Rattle.campaign_core.specs.declared.event.Event.{Event}
use Rattle.campaign_core.specs.declared.event.Event.TheVariants.{Draw, Post, Look, Fail}
use Rattle.campaign_core.specs.Machines.{Machine, fresh, after_all}

-- Where a worker stands. The flag: a draw has given none.
-- Drawing: it draws, and has drawn these batches in this round
-- Waiting: it wants the turn, to post the first of these batches, or to look where none is left
-- Holding: it has the turn, for the same
-- Posted: it has the turn still, and has posted; these are left
pub data Stand : Type 0 where
  Drawing : List ℕ → Stand
  Waiting : List ℕ → Bool → Stand
  Holding : List ℕ → Bool → Stand
  Posted : List ℕ → Bool → Stand
  Ended : Stand

-- the campaign, which has the number of batches, the next one to draw, and whether it failed; who has the turn; where each worker stands
pub record Crew : Type 0 where
  pub campaign : Machine
  pub turn : Option ℕ
  pub stands : List Stand

-- One atomic step: whose it is, the event that it is or none, who has the turn then, and where the worker stands then.
pub record CrewStep : Type 0 where
  pub worker : ℕ
  pub events : List Event
  pub turn : Option ℕ
  pub stand : Stand

abbrev pub crew_step : ℕ → List Event → Option ℕ → Stand → CrewStep
crew_step w events turn stand = record { worker = w; events = events; turn = turn; stand = stand }

-- four batches are a round, which the worker goes on to post
abbrev pub with_drawn : List ℕ → Stand
with_drawn drawn = cond (length drawn == 4) (Waiting drawn false) (Drawing drawn)

-- behind a post: the next one, the last look, or the next round
abbrev pub behind_post : List ℕ → Bool → Stand
behind_post [] false = Drawing []
behind_post owed last = Waiting owed last

-- The steps that a worker may take where it stands. A post is stopped where the campaign has failed, or its own append fails.
abbrev pub IsCrewStep : Crew → ℕ → Stand → CrewStep → Type 0
IsCrewStep c w (Drawing drawn) s = s ≡ crew_step w (Draw w ∷ []) c.turn (cond (nat_lt c.campaign.next c.campaign.limit) (with_drawn (drawn ++ c.campaign.next ∷ [])) (Waiting drawn true))
IsCrewStep c w (Waiting owed last) s = (c.turn ≡ None) × (s ≡ crew_step w (Look w ∷ []) (Some w) (Holding owed last))
IsCrewStep c w (Holding [] last) s = s ≡ crew_step w [] None Ended
IsCrewStep c w (Holding (batch ∷ owed) last) s = MatchBool c.campaign.failed (s ≡ crew_step w [] None Ended)
    ((s ≡ crew_step w (Post w batch ∷ []) c.turn (Posted owed last)) ⊎ (s ≡ crew_step w (Fail w ∷ []) None Ended))
IsCrewStep c w (Posted owed last) s = s ≡ crew_step w [] None (behind_post owed last)
IsCrewStep c w Ended s = ⊥

-- where a worker stands; one that isn't there has ended
abbrev pub stand_of : Crew → ℕ → Stand
stand_of c w = slice_index_or c.stands w Ended

abbrev pub MayTake : Crew → CrewStep → Type 0
MayTake c s = IsCrewStep c s.worker (stand_of c s.worker) s

abbrev pub after_step : Crew → CrewStep → Crew
after_step c s = record { campaign = after_all c.campaign s.events; turn = s.turn; stands = slice_set c.stands s.worker s.stand }

-- these steps lead from one crew to another: each was one that its worker might take when it came
abbrev pub Leads : Crew → List CrewStep → Crew → Type 0
Leads c [] d = c ≡ d
Leads c (s ∷ ss) d = MayTake c s × Leads (after_step c s) ss d

-- so many workers begin: nothing is drawn, and the turn is free
abbrev pub fresh_crew : ℕ → ℕ → Crew
fresh_crew batches workers = record { campaign = fresh batches; turn = None; stands = replicate workers (Drawing []) }
