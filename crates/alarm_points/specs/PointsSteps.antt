-- Shapes of private steps of the reader of a points file, under each of its two headers; no public clause cites them.
use Rattle.std.specs.Prelude.{ℕ, Bool, true, false, not, ◌&&◌, ◌||◌, ◌==◌, List, [], ◌∷◌, length, Option, Some, None, Result, Ok, Err, filter, map, find, unwrap_or, is_none, if◌then◌else◌, nat_le, bytes_eq, codes}
use Rattle.std.specs.List.{list_any}
use Rattle.std.specs.Option.{option_map_or}
use Rattle.circuit.specs.declared.parts.NetId.{NetId}
use Rattle.circuit.specs.Circuit.{Circuit}
use Rattle.circuit.specs.Names.{net_named}
use Rattle.alarm_points.specs.declared.Goal.{Goal}
use Rattle.alarm_points.specs.declared.Points.{Points}
use Rattle.alarm_points.specs.declared.header.Header.{Header}
use Rattle.alarm_points.specs.declared.header.Header.TheVariants.{OneGoal, NamedGoals}
use Rattle.alarm_points.specs.declared.PointsKind.{PointsKind}
use Rattle.alarm_points.specs.declared.PointsKind.TheVariants.{BadCsv, BadKind, UnknownNet, Twice, TooLarge, NoObserve, BadGoal, BadInterval}
use Rattle.csv_rows.specs.declared.FaultyRow.{FaultyRow}
use Rattle.fm_base.specs.Firsts.{given, first_answer}
use Rattle.fm_base.specs.Lists.{firsts}
use Rattle.fm_base.specs.Names.{Bytes, Name, is_one_of, distinct, is_label}
use Rattle.csv_rows.specs.Rows.{Fields, field, is_row, first_faulty_row}
use Rattle.alarm_points.specs.PointsFile.{interval_read}

-- ---- what a row says under each of the two headers

-- the header that a row is, if it is one
abbrev pub header_of : Fields → Option Header
header_of row =
    if is_row (codes "kind" ∷ codes "net" ∷ []) row then Some OneGoal
    else if is_row (codes "goal" ∷ codes "ftti" ∷ codes "kind" ∷ codes "net" ∷ []) row then Some NamedGoals
    else None

-- the number of fields of each row
abbrev pub width_of : Header → ℕ
width_of OneGoal = 2
width_of NamedGoals = 4

-- the name of the goal that a row gives
abbrev pub goal_in : Header → Fields → Name
goal_in OneGoal row = []
goal_in NamedGoals row = field row 0

-- the interval that it gives
abbrev pub interval_in : Header → Fields → Bytes
interval_in OneGoal row = codes "-"
interval_in NamedGoals row = field row 1

-- its kind
abbrev pub kind_in : Header → Fields → Bytes
kind_in OneGoal row = field row 0
kind_in NamedGoals row = field row 2

-- the name of its net
abbrev pub net_in : Header → Fields → Name
net_in OneGoal row = field row 1
net_in NamedGoals row = field row 3

-- a dash stands for none
abbrev pub is_dash_field : Bytes → Bool
is_dash_field text = bytes_eq text (codes "-")

-- the row names an observation point
abbrev pub is_observe : Header → Fields → Bool
is_observe h row = bytes_eq (kind_in h row) (codes "observe")

-- the row names an alarm point
abbrev pub is_alarm : Header → Fields → Bool
is_alarm h row = bytes_eq (kind_in h row) (codes "alarm")

-- two rows name one goal
abbrev pub same_goal_under : Header → Fields → Fields → Bool
same_goal_under h a b = bytes_eq (goal_in h a) (goal_in h b)

-- two rows have one goal, one kind and one net
abbrev pub same_point : Header → Fields → Fields → Bool
same_point h a b = same_goal_under h a b && bytes_eq (kind_in h a) (kind_in h b) && bytes_eq (net_in h a) (net_in h b)

-- ---- intervals and goals

-- the rows that observe
abbrev pub observing_under : Header → List Fields → List Fields
observing_under h rows = filter (is_observe h) rows

-- the names of the goals, in order of first row
abbrev pub goals_named : Header → List Fields → List Name
goals_named h rows = distinct (map (goal_in h) (observing_under h rows))

-- a new goal, where there are four
abbrev pub is_fifth : List Name → Name → Bool
is_fifth goals goal = nat_le 4 (length goals) && not (is_one_of goals goal)

-- the goal of an `observe` row is malformed or would be the fifth after these, or that of an `alarm` row isn't a dash
abbrev pub is_bad_goal : Header → List Name → Fields → Bool
is_bad_goal OneGoal goals row = false
is_bad_goal NamedGoals goals row =
    if is_observe NamedGoals row then not (is_label (goal_in NamedGoals row)) || is_fifth goals (goal_in NamedGoals row)
    else not (is_dash_field (goal_in NamedGoals row))

-- the interval is that of the goal's first row
abbrev pub keeps_interval : Header → List Fields → Fields → Bool
keeps_interval h before row =
    option_map_or (λ first. bytes_eq (interval_in h first) (interval_in h row)) (find (same_goal_under h row) (observing_under h before)) true

-- the interval of an `observe` row is malformed or differs from that of the goal's first row, or that of an `alarm` row isn't a dash
abbrev pub is_bad_interval : Header → List Fields → Fields → Bool
is_bad_interval OneGoal before row = false
is_bad_interval NamedGoals before row =
    if is_observe NamedGoals row then is_none (interval_read (interval_in NamedGoals row)) || not (keeps_interval NamedGoals before row)
    else not (is_dash_field (interval_in NamedGoals row))

-- ---- the first fault

-- a row's checks, in the order of the kinds
unfoldable pub row_fault_under : Circuit → Header → List Fields → Fields → Option PointsKind
row_fault_under c h before row = first_answer (
    given (not (length row == width_of h)) BadCsv
    ∷ given (not (is_observe h row || is_alarm h row)) BadKind
    ∷ given (is_none (net_named c (net_in h row))) UnknownNet
    ∷ given (list_any (same_point h row) before) Twice
    ∷ given (nat_le 1024 (length before)) TooLarge
    ∷ given (is_bad_goal h (goals_named h before) row) BadGoal
    ∷ given (is_bad_interval h before row) BadInterval
    ∷ [])

-- ---- the points

-- the net that a row names
abbrev pub point_of : Circuit → Header → Fields → NetId
point_of c h row = record { 0 = unwrap_or (net_named c (net_in h row)) 0 }

-- the goal whose first row this is
abbrev pub goal_from : Circuit → Header → List Fields → Fields → Goal
goal_from c h rows first = record {
  name = goal_in h first;
  ftti = unwrap_or (interval_read (interval_in h first)) None;
  observe = map (point_of c h) (filter (same_goal_under h first) (observing_under h rows));
}

-- the points of rows that have no fault: goals in order of first row, points in order of rows
abbrev pub points_listed : Circuit → Header → List Fields → Points
points_listed c h rows = record {
  goals = map (goal_from c h rows) (firsts (same_goal_under h) (observing_under h rows));
  alarm = map (point_of c h) (filter (is_alarm h) rows);
}

-- a refusal at a row
abbrev pub points_refusal : {X : Type 0} → ℕ × PointsKind → Result X (FaultyRow PointsKind)
points_refusal found = Err (record { row = found.0; kind = found.1 })

-- the first faulty row's fault, or else that no row observes, or else the points
abbrev pub points_unless : Option (ℕ × PointsKind) → Bool → Points → Result Points (FaultyRow PointsKind)
points_unless (Some found) observes points = points_refusal found
points_unless None false points = points_refusal (1, NoObserve)
points_unless None true points = Ok points

-- the points under a header
abbrev pub points_under : Option Header → Circuit → List Fields → Result Points (FaultyRow PointsKind)
points_under None c rows = points_refusal (1, BadCsv)
points_under (Some h) c rows = points_unless (first_faulty_row (row_fault_under c h) rows) (list_any (is_observe h) rows) (points_listed c h rows)

-- the points of a file's rows, the first of which is the header
unfoldable pub points_of_rows : Circuit → List Fields → Result Points (FaultyRow PointsKind)
points_of_rows c [] = points_refusal (1, BadCsv)
points_of_rows c (header ∷ rows) = points_under (header_of header) c rows
