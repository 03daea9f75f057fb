-- The readings of a plan, as code has them: goals and alarm points by their numbers.
use Rattle.std.specs.Prelude.{◌≡◌, ℕ, ◌<◌, Bool, true, not, ◌==◌, List, [], ◌∷◌, ◌++◌, length, map, flat_map, filter, nat_lt, if◌then◌else◌, Option, Some, None, codes, decimal}
use Rattle.std.specs.List.{All}
use Rattle.circuit.specs.declared.parts.NetId.{NetId}
use Rattle.circuit.specs.Names.{net_name}
use Rattle.fm_base.specs.Lists.{below}
use Rattle.fm_base.specs.Names.{Bytes}
use Rattle.alarm_points.specs.declared.Points.{Points}
use Rattle.campaign_plan.specs.Analysis.{Analysis}
use Rattle.readings.specs.Breakdown.{Reading as PlanReading, goal_word, readings, with_alarms, with_goals}
use Rattle.reading_planes.specs.declared.reading.Reading.{Reading}
use Rattle.reading_planes.specs.declared.reading.Reading.TheVariants.{Whole, Goal, Without, Only, Interval, Bare, BareGoal}
use Rattle.testbench.specs.Points.{alarm_at, goal_at}

-- another net than this one, if there is one
abbrev pub is_other : NetId → Option NetId → Bool
is_other net None = true
is_other net (Some out) = not (net.0 == out.0)

-- the alarm points but for one
abbrev pub others : Option NetId → List NetId → List NetId
others out nets = filter (λ net. is_other net out) nets

-- THE POINTS of a reading: those of the plan, or one goal alone, or without an alarm point, or that one alone, or without any
abbrev pub points_by : Points → Reading → Points
points_by points Whole = points
points_by points (Goal g) = record points { goals = goal_at points.goals g ∷ [] }
points_by points (Without a) = record points { alarm = others (Some (alarm_at points.alarm a)) points.alarm }
points_by points (Only a) = record points { alarm = alarm_at points.alarm a ∷ [] }
points_by points (Interval cycles) = points
points_by points Bare = record points { alarm = [] }
points_by points (BareGoal g) = record points { goals = goal_at points.goals g ∷ []; alarm = [] }

-- its interval for goals without one of their own: that of the settings, or its own
abbrev pub ftti_by : ℕ → Reading → ℕ
ftti_by ftti Whole = ftti
ftti_by ftti (Goal g) = ftti
ftti_by ftti (Without a) = ftti
ftti_by ftti (Only a) = ftti
ftti_by ftti (Interval cycles) = cycles
ftti_by ftti Bare = ftti
ftti_by ftti (BareGoal g) = ftti

-- its plan
abbrev pub plan_by : Analysis → Reading → Analysis
plan_by p reading = record p { points = points_by p.points reading; settings = record p.settings { ftti = ftti_by p.settings.ftti reading } }

-- its words in the text
abbrev pub words_by : Analysis → Reading → List Bytes
words_by p Whole = codes "all" ∷ []
words_by p (Goal g) = codes "goal" ∷ goal_word (goal_at p.points.goals g) ∷ []
words_by p (Without a) = codes "without" ∷ net_name p.circuit (alarm_at p.points.alarm a).0 ∷ []
words_by p (Only a) = codes "only" ∷ net_name p.circuit (alarm_at p.points.alarm a).0 ∷ []
words_by p (Interval cycles) = codes "ftti" ∷ decimal cycles ∷ []
words_by p Bare = codes "bare" ∷ []
words_by p (BareGoal g) = codes "bare" ∷ []

-- the reading of the plan that it stands for
abbrev pub reading_by : Analysis → Reading → PlanReading
reading_by p reading = record { words = words_by p reading; plan = plan_by p reading }

-- there are such a goal and such an alarm point
abbrev pub IsReadingOf : Points → Reading → Type 0
IsReadingOf points Whole = Unit {0}
IsReadingOf points (Goal g) = g < length points.goals
IsReadingOf points (Without a) = a < length points.alarm
IsReadingOf points (Only a) = a < length points.alarm
IsReadingOf points (Interval cycles) = Unit {0}
IsReadingOf points Bare = Unit {0}
IsReadingOf points (BareGoal g) = g < length points.goals

abbrev pub AreReadingsOf : Points → List Reading → Type 0
AreReadingsOf points readings = All (IsReadingOf points) readings

-- all of them, in the order of `readings`
abbrev pub reading_list : Points → List ℕ → List Reading
reading_list points intervals =
    Whole ∷ map (λ g. Goal g) (below (length points.goals)) ++ map (λ a. Without a) (below (length points.alarm))
    ++ map (λ a. Only a) (below (length points.alarm)) ++ map (λ cycles. Interval cycles) intervals

-- the readings of coverage: the plan itself and without any alarm point; and where there are several goals, so of each goal alone
abbrev pub pair_of : ℕ → List Reading
pair_of g = Goal g ∷ BareGoal g ∷ []

abbrev pub coverage_list : Points → List Reading
coverage_list points = Whole ∷ Bare ∷ flat_map pair_of (below (if nat_lt 1 (length points.goals) then length points.goals else 0))

-- THE LIST is of readings of the points
abbrev pub ListIsSound : Type 0
ListIsSound = (points : Points) (intervals : List ℕ) → AreReadingsOf points (reading_list points intervals)

-- and so is that of coverage
abbrev pub PairsAreSound : Type 0
PairsAreSound = (points : Points) → AreReadingsOf points (coverage_list points)

-- its plans are the plan, one goal alone, and these without alarms
pub record ArePlansOf (p : Analysis) (g : ℕ) : Type 0 where
  pub whole : plan_by p Whole ≡ p
  pub bare : plan_by p Bare ≡ with_alarms p []
  pub goal : plan_by p (Goal g) ≡ with_goals p (goal_at p.points.goals g ∷ [])
  pub bare_goal : plan_by p (BareGoal g) ≡ with_alarms (with_goals p (goal_at p.points.goals g ∷ [])) []

abbrev pub PairsGivePlans : Type 0
PairsGivePlans = (p : Analysis) (g : ℕ) → ArePlansOf p g

-- and they are the readings of a plan, with their words, in order
abbrev pub ListGivesReadings : Type 0
ListGivesReadings = (p : Analysis) (intervals : List ℕ) → map (reading_by p) (reading_list p.points intervals) ≡ readings p intervals
