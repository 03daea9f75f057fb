-- What the reader of a points file keeps of the rows that it has read.
use Rattle.std.specs.Prelude.{◌≡◌, ◌≤◌, ◌^◌, Bool, not, ◌&&◌, ◌||◌, ◌==◌, List, [], ◌∷◌, ◌++◌, length, Option, Some, Result, Ok, Err, position, is_none, if◌then◌else◌, nat_le, bytes_eq}
use Rattle.std.specs.List.{list_any}
use Rattle.circuit.specs.Circuit.{Circuit}
use Rattle.fm_base.specs.declared.refusal.Refusal.{Refusal}
use Rattle.fm_base.specs.Answers.{Gives}
use Rattle.fm_base.specs.Firsts.{given, first_answer, first_after, first_fault, numbered_fault}
use Rattle.fm_base.specs.Names.{Bytes, Name, is_one_of}
use Rattle.fm_base.specs.Index.{with_name}
use Rattle.csv_rows.specs.Rows.{Fields, rows_of}
use Rattle.csv_rows.specs.declared.FaultyRow.{FaultyRow}
use Rattle.alarm_points.specs.declared.PointsKind.{PointsKind}
use Rattle.alarm_points.specs.declared.PointsKind.TheVariants.{BadCsv, BadKind, UnknownNet, Twice, TooLarge, BadGoal, BadInterval}
use Rattle.alarm_points.specs.declared.header.Header.{Header}
use Rattle.alarm_points.specs.declared.listed.Listed.{Listed}
use Rattle.alarm_points.specs.PointsSteps.{goal_in, goals_named, header_of, is_alarm, is_bad_goal, is_bad_interval, is_observe, net_in, points_of_rows, row_fault_under, same_point, width_of}

-- the first of a row's checks that fails
abbrev pub first_of : Bool → Bool → Bool → Bool → Bool → Bool → Bool → Option PointsKind
first_of width kind net twice many goal interval = first_answer (
    given width BadCsv ∷ given kind BadKind ∷ given net UnknownNet ∷ given twice Twice ∷ given many TooLarge ∷ given goal BadGoal ∷ given interval BadInterval ∷ [])

-- the fault of a row by what was kept of the rows before it
abbrev pub fault_by : Listed → Fields → Option PointsKind
fault_by l row =
    first_of (not (length row == width_of l.header)) (not (is_observe l.header row || is_alarm l.header row))
    (is_none (position (bytes_eq (net_in l.header row)) l.nets)) (list_any (same_point l.header row) l.rows) (nat_le 1024 (length l.rows))
    (is_bad_goal l.header l.goals row) (is_bad_interval l.header l.rows row)

-- the goals with the goal of one row more
abbrev pub goals_with : Header → List Name → Fields → List Name
goals_with h goals row = if is_observe h row then with_name goals (goal_in h row) else goals

-- the row is the first that observes for its goal
abbrev pub begins_goal : Header → List Name → Fields → Bool
begins_goal h goals row = is_observe h row && not (is_one_of goals (goal_in h row))

-- what a row adds
pub record IsAdded (old new : Listed) (row : Fields) : Type 0 where
  pub header : new.header ≡ old.header
  pub nets : new.nets ≡ old.nets
  pub goals : new.goals ≡ goals_with old.header old.goals row
  pub rows : new.rows ≡ old.rows ++ row ∷ []

-- these rows were read, under this header
pub record Lists (c : Circuit) (h : Header) (rows : List Fields) (l : Listed) : Type 0 where
  pub header : l.header ≡ h
  pub nets : l.nets ≡ c.names
  pub few_nets : length l.nets ≤ 2 ^ 18
  pub goals : l.goals ≡ goals_named h rows
  pub rows_are : l.rows ≡ rows

-- a reader between two rows: none of the rows before has a fault
pub record IsHalfway (c : Circuit) (bytes : Bytes) (l : Listed) (left : List Fields) : Type 0 where
  pub first : Fields
  pub h : Header
  pub before : List Fields
  pub heads : header_of first ≡ Some h
  pub listed : Lists c h before l
  pub few : length before ≤ 1024
  pub whole : rows_of bytes ≡ first ∷ (before ++ left)
  pub faultless : first_fault (row_fault_under c h) (before ++ left) ≡ first_after (numbered_fault (row_fault_under c h)) before left

-- the first row is the header; or the file is refused for it
abbrev pub IsHeaderRead : (rows left : List Fields) → Result Header (Refusal (FaultyRow PointsKind)) → Type 0
IsHeaderRead rows left (Ok h) = (first : Fields) × (rows ≡ first ∷ left) × (header_of first ≡ Some h)
IsHeaderRead rows left (Err refusal) = (c : Circuit) → Gives (points_of_rows c rows) (Err refusal)

-- all rows were read, and none has a fault; or the file is refused for one that has
abbrev pub AreListed : Circuit → Bytes → Listed → Result (Unit {0}) (Refusal (FaultyRow PointsKind)) → Type 0
AreListed c bytes l (Ok done) = IsHalfway c bytes l []
AreListed c bytes l (Err refusal) = Gives (points_of_rows c (rows_of bytes)) (Err refusal)
