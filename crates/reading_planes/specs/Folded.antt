-- What a run shows of a fault, and danger and notice by it.
use Rattle.std.specs.Prelude.{◌≡◌, ℕ, ◌<◌, ◌^◌, ◌&&◌, ◌||◌, Bool, false, List, length, map, [], ◌∷◌, Option, None, is_some, slice_index_or}
use Rattle.std.specs.List.{list_any}
use Rattle.circuit.specs.declared.parts.NetId.{NetId}
use Rattle.workload.specs.Runs.{is_test}
use Rattle.alarm_points.specs.Interval.{interval_of}
use Rattle.alarm_points.specs.declared.Points.{Points}
use Rattle.campaign_plan.specs.declared.Outcome.{Outcome}
use Rattle.classifier.specs.Planes.{outcome_at}
use Rattle.first_cycles.specs.FirstCycles.{comes_late, earliest}
use Rattle.first_cycles.specs.Shown.{Shown}
use Rattle.reading_planes.specs.Readings.{ftti_by, points_by}
use Rattle.reading_planes.specs.declared.reading.Reading.{Reading}
use Rattle.reading_planes.specs.declared.reading.Reading.TheVariants.{Bare, BareGoal, Goal, Interval, Only, Whole, Without}
use Rattle.testbench.specs.Points.{alarm_at, goal_at}

-- what a run has shown of one fault: of each goal the first difference, of each alarm point the first alarm and whether it gives notice, the
-- earliest alarm, and whether any alarm point gives notice
pub record FaultCycles : Type 0 where
  pub differences : List (Option ℕ)
  pub alarms : List (Option ℕ)
  pub notices : List Bool
  pub first : Option ℕ
  pub noticed : Bool

-- they were made for these points
pub record AreCyclesFor (points : Points) (cycles : FaultCycles) : Type 0 where
  pub differences : length cycles.differences ≡ length points.goals
  pub alarms : length cycles.alarms ≡ length points.alarm
  pub notices : length cycles.notices ≡ length points.alarm

-- an alarm point gives notice: it is raised, or silenced in a test
abbrev pub gives_notice : Shown → NetId → Bool
gives_notice s net = is_some (s.alarm net) || (is_test s.kind && s.is_silenced net)

-- they are those that a run shows
pub record AreCyclesOf (points : Points) (s : Shown) (cycles : FaultCycles) : Type 0 where
  pub difference : (g : ℕ) → g < length points.goals → slice_index_or cycles.differences g None ≡ s.difference (goal_at points.goals g)
  pub alarm : (a : ℕ) → a < length points.alarm → slice_index_or cycles.alarms a None ≡ s.alarm (alarm_at points.alarm a)
  pub notice : (a : ℕ) → a < length points.alarm → slice_index_or cycles.notices a false ≡ gives_notice s (alarm_at points.alarm a)
  pub first : cycles.first ≡ earliest (map s.alarm points.alarm)
  pub noticed : cycles.noticed ≡ list_any (gives_notice s) points.alarm

-- the first difference of some goal comes late, by the earliest alarm
abbrev pub is_late : Points → ℕ → Shown → Bool
is_late points ftti s = list_any (λ goal. comes_late (interval_of ftti goal) (s.difference goal) (earliest (map s.alarm points.alarm))) points.goals

-- late by a reading, and noticed by it
abbrev pub late_by : Points → ℕ → Reading → Shown → Bool
late_by points ftti reading s = is_late (points_by points reading) (ftti_by ftti reading) s

abbrev pub noticed_by : Points → Reading → Shown → Bool
noticed_by points reading s = list_any (gives_notice s) (points_by points reading).alarm

-- both planes are words of 64 bits
abbrev pub AreWords : Outcome → Type 0
AreWords outcome = (outcome.danger < 2 ^ 64) × (outcome.noticed < 2 ^ 64)

-- a reading by its number
abbrev pub reading_at : List Reading → ℕ → Reading
reading_at readings r = slice_index_or readings r Whole

-- the planes of a word by a reading
abbrev pub planes_at : List (List Outcome) → ℕ → ℕ → Outcome
planes_at planes word r = outcome_at (slice_index_or planes word []) r

-- the first differences of the goals of a reading
abbrev pub differences_by : List (Option ℕ) → Reading → List (Option ℕ)
differences_by differences Whole = differences
differences_by differences (Goal g) = slice_index_or differences g None ∷ []
differences_by differences (Without a) = differences
differences_by differences (Only a) = differences
differences_by differences (Interval cycles) = differences
differences_by differences Bare = differences
differences_by differences (BareGoal g) = slice_index_or differences g None ∷ []

-- all of the planes are of these readings
abbrev pub ArePlanesFor : List Reading → List (List Outcome) → Type 0
ArePlanesFor readings planes = (word : ℕ) → word < length planes → length (slice_index_or planes word []) ≡ length readings
