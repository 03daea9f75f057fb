-- A window over the cycles of a run, in 64 lanes at once: where each lane differs, and where an alarm is raised in it.
-- Source: the fault tolerant time interval of ISO 26262-1:2018.
use Rattle.std.specs.Prelude.{◌≡◌, ℕ, suc, ◌+◌, ◌-◌, ◌%◌, ◌<◌, ◌≤◌, Bool, not, ◌&&◌, List, [], length, min, map, slice_index, slice_index_or}
use Rattle.fm_base.specs.Lists.{some_below}
use Rattle.fm_base.specs.Planes.{bit}
use Rattle.alarm_points.specs.declared.Points.{Points}
use Rattle.alarm_points.specs.Interval.{goes_unalarmed, interval_of}

-- what is seen in one cycle: the plane of the lanes that differ, and of those in which an alarm is raised
pub record Pair : Type 0 where
  pub differs : ℕ
  pub raised : ℕ

-- the interval, and what is kept of the cycles so far
pub record Watch : Type 0 where
  pub ftti : ℕ
  -- the lanes that differ in each of the last cycles, as many as the interval has and one more, in a ring
  pub recent : List ℕ
  -- the place in the ring of the next cycle
  pub place : ℕ
  -- the number of cycles so far, counted up to the interval
  pub count : ℕ
  pub differed : ℕ
  pub raised : ℕ
  -- the lanes in which an interval went by without an alarm
  pub settled : ℕ

-- the pair of a cycle
abbrev pub pair_at : List Pair → ℕ → Pair
pair_at pairs t = slice_index_or pairs t (record { differs = 0; raised = 0 })

-- a lane differs in a cycle
abbrev pub differs_in : List Pair → ℕ → ℕ → Bool
differs_in pairs lane t = bit (pair_at pairs t).differs lane

-- an alarm is raised in a lane in a cycle
abbrev pub raised_in : List Pair → ℕ → ℕ → Bool
raised_in pairs lane t = bit (pair_at pairs t).raised lane

-- after these pairs a lane goes unalarmed for this interval
abbrev pub lane_goes_unalarmed : ℕ → List Pair → ℕ → Bool
lane_goes_unalarmed ftti pairs lane = goes_unalarmed ftti (length pairs) (differs_in pairs lane) (raised_in pairs lane)

-- there is a cycle t that differs, t + ftti is among the cycles, and no alarm is raised at any cycle from 0 to t + ftti
unfoldable pub is_settled : ℕ → ℕ → (ℕ → Bool) → (ℕ → Bool) → Bool
is_settled ftti cycles differs raised = some_below (cycles - ftti) (λ t. differs t && not (some_below (suc (t + ftti)) raised))

-- since the start the window has seen these pairs, one after the other
pub record IsAfterPairs (pairs : List Pair) (w : Watch) : Type 0 where
  pub place : w.place ≡ length pairs % (w.ftti + 1)
  pub count : w.count ≡ min (length pairs) w.ftti
  pub recent : (t : ℕ) → t < length pairs → length pairs ≤ t + w.ftti → slice_index w.recent (t % (w.ftti + 1)) ≡ (pair_at pairs t).differs
  pub differed : (k : ℕ) → k < 64 → bit w.differed k ≡ some_below (length pairs) (differs_in pairs k)
  pub raised : (k : ℕ) → k < 64 → bit w.raised k ≡ some_below (length pairs) (raised_in pairs k)
  pub settled : (k : ℕ) → k < 64 → bit w.settled k ≡ is_settled w.ftti (length pairs) (differs_in pairs k) (raised_in pairs k)

-- what each window keeps
pub record IsWatch (w : Watch) : Type 0 where
  pub recent : length w.recent ≡ w.ftti + 1
  pub place : w.place ≤ w.ftti
  pub count : w.count ≤ w.ftti

-- ---- a window for each goal

-- the interval of the settings, and the goals' windows
pub record Watches : Type 0 where
  pub ftti : ℕ
  pub windows : List Watch

-- what stands for a window behind the last
abbrev pub no_watch : Watch
no_watch = record { ftti = 0; recent = []; place = 0; count = 0; differed = 0; raised = 0; settled = 0 }

-- the window of a goal
abbrev pub window_at : Watches → ℕ → Watch
window_at ws goal = slice_index_or ws.windows goal no_watch

-- the intervals of the windows
abbrev pub intervals : Watches → List ℕ
intervals ws = map (λ w. w.ftti) ws.windows

-- the windows were made for these points: each has the interval of its goal
abbrev pub AreMadeFor : Points → Watches → Type 0
AreMadeFor points ws = intervals ws ≡ map (interval_of ws.ftti) points.goals

-- the windows stay those of the same intervals
pub record KeepsIntervals (old new : Watches) : Type 0 where
  pub ftti : new.ftti ≡ old.ftti
  pub intervals : intervals new ≡ intervals old
