-- What was seen of a run.
use Rattle.std.specs.List.{list_any}
use Rattle.std.specs.Prelude.{◌≡◌, ℕ, ◌<◌, ◌≤◌, ◌⊎◌, ◌&&◌, ◌||◌, Bool, true, false, List, [], length, Option, slice_index_or}
use Rattle.circuit.specs.declared.parts.Fault.{Fault}
use Rattle.circuit.specs.Circuit.{Circuit}
use Rattle.workload.specs.declared.run.Kind.{Kind}
use Rattle.workload.specs.declared.run.Kind.TheVariants.{Mission, Test}
use Rattle.workload.specs.declared.run.Run.{Run}
use Rattle.workload.specs.Runs.{cycles_of, is_test}
use Rattle.alarm_points.specs.declared.Goal.{Goal}
use Rattle.alarm_points.specs.declared.Points.{Points}
use Rattle.alarm_points.specs.FourWatches.{windows_at}
use Rattle.alarm_points.specs.Interval.{interval_of}
use Rattle.alarm_points.specs.Watch.{AreMadeFor, IsAfterPairs, KeepsIntervals, Pair, Watch, Watches, differs_in, is_settled, raised_in, window_at}
use Rattle.fm_base.specs.Lists.{some_below}
use Rattle.fm_base.specs.Planes.{bit}
use Rattle.campaign_plan.specs.Danger.{differs, is_raised, is_silenced}
use Rattle.testbench.specs.Load.{Load, in_lane, lane_faults}
use Rattle.testbench.specs.Points.{goal_at}
use Rattle.classifier.specs.OutOfReach.{decided_at}
use Rattle.classifier.specs.declared.decided.Decided.{Decided}

-- noticed in the first n cycles of a run: an alarm is raised, or the run is of kind `test` and an alarm is silenced
abbrev pub is_noticed_by : Circuit → Points → List Fault → Run → ℕ → Bool
is_noticed_by c points x run n = some_below n (is_raised c points x run) || (is_test run.kind && some_below n (is_silenced c points x run))

-- an interval of some goal has gone by without an alarm in the first n cycles of a run
abbrev pub is_settled_by : Circuit → Points → ℕ → List Fault → Run → ℕ → Bool
is_settled_by c points ftti x run n = list_any (λ goal. is_settled (interval_of ftti goal) n (differs c goal x run) (is_raised c points x run)) points.goals

-- after the first n cycles of a run nothing more of it decides: the lane is noticed in them; or its notice was known before the run, and its
-- danger is settled in them
abbrev pub has_left : Circuit → Points → ℕ → Bool → List Fault → Run → ℕ → Bool
has_left c points ftti known x run n = is_noticed_by c points x run n || (known && is_settled_by c points ftti x run n)

-- the pair of cycle t shows where a point of the goal differs with these faults, and where an alarm is raised
pub record IsShown (c : Circuit) (points : Points) (run : Run) (x : List Fault) (goal : Goal) (pairs : List Pair) (k t : ℕ) : Type 0 where
  pub differ : differs_in pairs k t ≡ differs c goal x run t
  pub raise : raised_in pairs k t ≡ is_raised c points x run t

-- the window has seen the first n cycles of the run, of each lane those before which it hasn't left; `known` are the lanes whose notice was
-- known before the run
pub record HasSeen (c : Circuit) (points : Points) (ftti : ℕ) (run : Run) (faults : ℕ → List Fault) (known : ℕ) (goal : Goal) (n : ℕ) (w : Watch) : Type 0 where
  pub pairs : List Pair
  pub count : length pairs ≡ n
  pub after : IsAfterPairs pairs w
  pub shown : (k t : ℕ) → k < 64 → t < n → has_left c points ftti (bit known k) (faults k) run t ≡ false → IsShown c points run (faults k) goal pairs k t

-- so has each goal's window
abbrev pub HaveGoalsSeen : Circuit → Points → ℕ → Run → (ℕ → List Fault) → ℕ → ℕ → Watches → Type 0
HaveGoalsSeen c points ftti run faults known n windows =
    (g : ℕ) → g < length points.goals → HasSeen c points ftti run faults known (goal_at points.goals g) n (window_at windows g)

-- each goal's window has seen the first n cycles of the run. `left` are lanes that have left it in them: of those whose notice wasn't known
-- before the run, the noticed ones
pub record HaveSeen (c : Circuit) (points : Points) (run : Run) (faults : ℕ → List Fault) (known n : ℕ) (windows : Watches) (left : ℕ) : Type 0 where
  pub made : AreMadeFor points windows
  pub seen : HaveGoalsSeen c points windows.ftti run faults known n windows
  pub noticed_is : (k : ℕ) → k < 64 → bit known k ≡ false → bit left k ≡ is_noticed_by c points (faults k) run n
  pub stays : (k : ℕ) → k < 64 → has_left c points windows.ftti (bit known k) (faults k) run n ≡ false → bit left k ≡ false

-- with these faults no point differs in this cycle
pub record IsStill (c : Circuit) (points : Points) (run : Run) (x : List Fault) (t : ℕ) : Type 0 where
  pub differ : (g : ℕ) → g < length points.goals → differs c (goal_at points.goals g) x run t ≡ false
  pub raise : is_raised c points x run t ≡ false
  pub silence : is_silenced c points x run t ≡ false

-- the run has been seen, up to a cycle from which on no point differs in any lane that hasn't left
pub record HaveSeenRun (c : Circuit) (points : Points) (run : Run) (faults : ℕ → List Fault) (known : ℕ) (windows : Watches) (left : ℕ) : Type 0 where
  pub n : ℕ
  pub within : n ≤ cycles_of run
  pub seen : HaveSeen c points run faults known n windows left
  pub still : (k t : ℕ) → k < 64 → has_left c points windows.ftti (bit known k) (faults k) run n ≡ false → n ≤ t → t < cycles_of run → IsStill c points run (faults k) t

-- after n cycles the faults of each lane that hasn't left are in force in it
pub record AreFollowed (c : Circuit) (points : Points) (ftti : ℕ) (run : Run) (faults : ℕ → List Fault) (known n : ℕ) (in_force : ℕ → List Fault) : Type 0 where
  pub follow : (k : ℕ) → k < 64 → has_left c points ftti (bit known k) (faults k) run n ≡ false → in_force k ≡ faults k

-- a word has seen the first n cycles of the run, and the faults of each lane that hasn't left are in force
pub record IsWatched (c : Circuit) (points : Points) (run : Run) (faults : ℕ → List Fault) (known n : ℕ) (in_force : ℕ → List Fault) (windows : Watches) (left : ℕ) : Type 0 where
  pub seen : HaveSeen c points run faults known n windows left
  pub followed : AreFollowed c points windows.ftti run faults known n in_force

-- the lanes that have left, in a word
abbrev pub left_at : List ℕ → ℕ → ℕ
left_at left word = slice_index_or left word 0

-- the lanes whose notice is known before the run, in a word
abbrev pub known_at : List Decided → ℕ → ℕ
known_at decided word = (decided_at decided word).notice

-- the first n cycles have been seen in each word, where these faults are followed
abbrev pub HaveAllSeen : Circuit → Points → Run → List (List (Option Fault)) → List Decided → ℕ → List Watches → List ℕ → Type 0
HaveAllSeen c points run faults decided n windows left =
    (word : ℕ) → word < length windows → HaveSeen c points run (in_lane faults word) (known_at decided word) n (windows_at windows word) (left_at left word)

-- the run has been seen in each word
abbrev pub HaveAllSeenRun : Circuit → Points → Run → List (List (Option Fault)) → List Decided → List Watches → List ℕ → Type 0
HaveAllSeenRun c points run faults decided windows left =
    (word : ℕ) → word < length windows → HaveSeenRun c points run (in_lane faults word) (known_at decided word) (windows_at windows word) (left_at left word)

-- nothing that a run of this kind shows of the lane decides: its notice is decided before, and before a mission its danger too
abbrev pub is_decided : Kind → Decided → ℕ → Bool
is_decided Mission decided k = bit decided.danger k && bit decided.notice k
is_decided Test decided k = bit decided.notice k

-- a lane begins a run with the faults that it was loaded with, or where it is decided with none
abbrev pub Begins : Kind → Decided → ℕ → List Fault → List Fault → Type 0
Begins kind decided k loaded x = (x ≡ loaded) ⊎ ((is_decided kind decided k ≡ true) × (x ≡ []))

-- so do the lanes of each word
abbrev pub AllBegin : Kind → ℕ → Load → List Decided → List (List (Option Fault)) → Type 0
AllBegin kind words load decided faults =
    (word k : ℕ) → word < words → k < 64 → Begins kind (decided_at decided word) k (lane_faults load word k) (in_lane faults word k)

-- a run of lanes that were so loaded has been seen in each word
pub record HasBeenRun (c : Circuit) (points : Points) (run : Run) (words : ℕ) (load : Load) (decided : List Decided) (windows : List Watches) (left : List ℕ) : Type 0 where
  pub faults : List (List (Option Fault))
  pub begin : AllBegin run.kind words load decided faults
  pub seen : HaveAllSeenRun c points run faults decided windows left

-- the windows of each word keep their intervals
abbrev pub AllKeepIntervals : List Watches → List Watches → Type 0
AllKeepIntervals old new = (word : ℕ) → KeepsIntervals (windows_at old word) (windows_at new word)

-- ---- a step

-- the lane is dropped: it had left, or its windows show that it leaves now
abbrev pub is_dropped : ℕ → Watches → ℕ → ℕ → Bool
is_dropped known windows left k = bit left k || (bit known k && some_below (length windows.windows) (λ g. bit (window_at windows g).settled k))
