-- Some worker can always go on, no campaign goes on for ever, and the steps of a crew are the events of a campaign.
use Rattle.std.specs.Prelude.{◌≡◌, ◌≢◌, ◌↔◌, ℕ, ◌+◌, ◌*◌, ◌<◌, ◌≤◌, Bool, true, false, List, length, flat_map, Some}
use Rattle.campaign_core.specs.declared.event.Event.{Event}
use Rattle.campaign_core.specs.Machines.{fresh, after_all, all_lawful, times, once_below}
use Rattle.campaign_laws.specs.Crew.{Crew, Stand, Holding, Posted, Ended, CrewStep, stand_of, MayTake, Leads, fresh_crew}

-- who stands with the turn, to post, to look or to give it back
abbrev pub has_turn : Stand → Bool
has_turn (Holding owed last) = true
has_turn (Posted owed last) = true
has_turn _ = false

-- some: unless each worker has ended, some worker may take a step
-- turn: who stands with the turn has it, and nobody else
-- holder: who has the turn may take a step, so who wants the turn waits for one that can go on
pub record CanGoOn (c : Crew) : Type 0 where
  pub some : (w : ℕ) → stand_of c w ≢ Ended → (s : CrewStep) × MayTake c s
  pub turn : (w : ℕ) → (has_turn (stand_of c w) ≡ true) ↔ (c.turn ≡ Some w)
  pub holder : (w : ℕ) → c.turn ≡ Some w → (s : CrewStep) × (s.worker ≡ w) × MayTake c s

-- SOME WORKER CAN GO ON, whatever steps were taken
abbrev pub SomeCanGoOn : Type 0
SomeCanGoOn = (batches workers : ℕ) (steps : List CrewStep) (c : Crew) → Leads (fresh_crew batches workers) steps c → CanGoOn c

-- NO CAMPAIGN GOES ON FOR EVER: a draw, and a look, a post and a return of the turn for each batch; and for each worker the draw that
-- gives none, and the last look with its return of the turn
abbrev pub StepsAreFew : Type 0
StepsAreFew = (batches workers : ℕ) (steps : List CrewStep) (c : Crew) → Leads (fresh_crew batches workers) steps c → length steps ≤ 4 * batches + 3 * workers

-- the events of these steps, in their order
abbrev pub events_of : List CrewStep → List Event
events_of steps = flat_map (λ s. s.events) steps

-- lawful: each event was lawful when it came
-- campaign: and the crew has the machine that they make
pub record AreLawful (batches : ℕ) (steps : List CrewStep) (c : Crew) : Type 0 where
  pub lawful : all_lawful (fresh batches) (events_of steps) ≡ true
  pub campaign : c.campaign ≡ after_all (fresh batches) (events_of steps)

-- THE STEPS OF A CREW ARE THE EVENTS OF A CAMPAIGN
abbrev pub StepsAreLawful : Type 0
StepsAreLawful = (batches workers : ℕ) (steps : List CrewStep) (c : Crew) → Leads (fresh_crew batches workers) steps c → AreLawful batches steps c

-- ended: each worker has ended
-- posted: unless the campaign has failed, each batch was posted, once
-- all: and it took as many steps as there may be
pub record IsAllDone (batches workers : ℕ) (steps : List CrewStep) (c : Crew) : Type 0 where
  pub ended : (w : ℕ) → stand_of c w ≡ Ended
  pub posted : c.campaign.failed ≡ false → (batch : ℕ) → times batch c.campaign.history ≡ once_below batch batches
  pub all : c.campaign.failed ≡ false → length steps ≡ 4 * batches + 3 * workers

-- WHERE NOBODY CAN GO ON ALL IS DONE, or the campaign has failed
abbrev pub AllIsDone : Type 0
AllIsDone = (batches workers : ℕ) → 0 < workers → (steps : List CrewStep) (c : Crew) → Leads (fresh_crew batches workers) steps c
    → ((s : CrewStep) → MayTake c s → ⊥) → IsAllDone batches workers steps c
