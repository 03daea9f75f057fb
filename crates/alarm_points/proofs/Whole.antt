-- From the rows of a points file to its answer.
use Rattle.std.proofs.Common.{◌≡◌, ◌∙◌, ℕ, ◌+◌, ◌<◌, ◌≤◌, ◌^◌, Bool, true, false, not, List, [], ◌∷◌, ◌++◌, length, sym, refl, ap, subst, arith, append_assoc, length-append}
use Rattle.std.specs.Prelude.{Option, Some, None, Result, Ok, Err, option_map, position, is_none, nat_le, bytes_eq, ◌==◌, ◌||◌}
use Rattle.std.specs.List.{list_any}
use Rattle.std.proofs.lemmas.List.{append-nil}
use Rattle.circuit.specs.Circuit.{Circuit}
use Rattle.csv_rows.specs.Rows.{Fields, rows_of}
use Rattle.fm_base.specs.declared.refusal.Refusal.{Refusal}
use Rattle.fm_base.specs.Answers.{Gives}
use Rattle.fm_base.specs.Firsts.{first_after, first_fault, numbered_fault}
use Rattle.fm_base.specs.Names.{Bytes, Name}
use Rattle.fm_base.proofs.OnePass.{first_fault-later, first_fault-here}
use Rattle.alarm_points.specs.declared.Points.{Points}
use Rattle.csv_rows.specs.declared.FaultyRow.{FaultyRow}
use Rattle.alarm_points.specs.declared.PointsKind.{PointsKind}
use Rattle.alarm_points.specs.declared.PointsKind.TheVariants.{BadCsv}
use Rattle.alarm_points.specs.declared.header.Header.{Header}
use Rattle.alarm_points.specs.declared.listed.Listed.{Listed}
use Rattle.alarm_points.specs.Listed.{IsAdded, IsHalfway, IsHeaderRead, Lists, fault_by, first_of, goals_with}
use Rattle.alarm_points.specs.PointsSteps.{goals_named, header_of, is_alarm, is_bad_goal, is_bad_interval, is_observe, net_in, points_listed, points_of_rows, points_under, points_unless, row_fault_under, same_point, width_of}
use Rattle.alarm_points.proofs.Listing.{goals_step}

-- ---- one row

row_fault-is : (c : Circuit) (h : Header) (before : List Fields) (row : Fields) → row_fault_under c h before row
    ≡ first_of (not (length row == width_of h)) (not (is_observe h row || is_alarm h row)) (is_none (position (bytes_eq (net_in h row)) c.names))
    (list_any (same_point h row) before) (nat_le 1024 (length before)) (is_bad_goal h (goals_named h before) row) (is_bad_interval h before row)
unfolding row_fault_under
row_fault-is c h before row = refl

-- the fault by what was kept is that of the rows before
pub fault_by-is : (c : Circuit) (h : Header) (before : List Fields) (l : Listed) (row : Fields) → Lists c h before l → fault_by l row ≡ row_fault_under c h before row
fault_by-is c h before l row w =
    (λ t. first_of (not (length row == width_of (w.header t))) (not (is_observe (w.header t) row || is_alarm (w.header t) row))
    (is_none (position (bytes_eq (net_in (w.header t) row)) (w.nets t))) (list_any (same_point (w.header t) row) (w.rows_are t))
    (nat_le 1024 (length (w.rows_are t))) (is_bad_goal (w.header t) (w.goals t) row) (is_bad_interval (w.header t) (w.rows_are t) row))
    ∙ sym (row_fault-is c h before row)

-- a row without a fault passes each test
pub record Passes (c : Circuit) (h : Header) (before : List Fields) (row : Fields) : Type 0 where
  pub kind : (is_observe h row || is_alarm h row) ≡ true
  pub net : is_none (position (bytes_eq (net_in h row)) c.names) ≡ false
  pub new : list_any (same_point h row) before ≡ false
  pub few : nat_le 1024 (length before) ≡ false
  pub goal : is_bad_goal h (goals_named h before) row ≡ false

first_of-none : (width kind net twice many goal interval : Bool) → first_of width (not kind) net twice many goal interval ≡ None
    → (kind ≡ true) × (net ≡ false) × (twice ≡ false) × (many ≡ false) × (goal ≡ false)
first_of-none true kind net twice many goal interval e = absurd (cc)
first_of-none false false net twice many goal interval e = absurd (cc)
first_of-none false true true twice many goal interval e = absurd (cc)
first_of-none false true false true many goal interval e = absurd (cc)
first_of-none false true false false true goal interval e = absurd (cc)
first_of-none false true false false false true interval e = absurd (cc)
first_of-none false true false false false false interval e = (refl, refl, refl, refl, refl)

pub row_passes : (c : Circuit) (h : Header) (before : List Fields) (row : Fields) → row_fault_under c h before row ≡ None → Passes c h before row
row_passes c h before row e =
    let p = first_of-none _ _ _ _ _ _ _ (sym (row_fault-is c h before row) ∙ e) in
    record { kind = p.0; net = p.1; new = p.2; few = p.3; goal = p.4 }

-- a further row has room
pub few_step : (n : ℕ) → nat_le 1024 n ≡ false → n < 1024
few_step n h = grind arith

-- ---- the loop

lists_step : (c : Circuit) (h : Header) (before : List Fields) (l l2 : Listed) (row : Fields) → Lists c h before l → IsAdded l l2 row → Lists c h (before ++ row ∷ []) l2
lists_step c h before l l2 row w a = record {
  header = a.header ∙ w.header;
  nets = a.nets ∙ w.nets;
  few_nets = let P : List Name → Type 0 = λ nets. length nets ≤ 2 ^ 18 in subst P (sym a.nets) w.few_nets;
  goals = a.goals ∙ (λ t. goals_with (w.header t) (w.goals t) row) ∙ goals_step h before row;
  rows_are = a.rows ∙ ap (λ (rows : List Fields). rows ++ row ∷ []) w.rows_are;
}

-- a row without a fault
pub halfway_step : (c : Circuit) (bytes : Bytes) (l l2 : Listed) (row : Fields) (old left : List Fields) → IsHalfway c bytes l old → old ≡ row ∷ left
    → fault_by l row ≡ None → IsAdded l l2 row → IsHalfway c bytes l2 left
halfway_step c bytes l l2 row old left w e none added =
    let again : (w.before ++ row ∷ []) ++ left ≡ w.before ++ old = append_assoc w.before (row ∷ []) left ∙ ap (λ more. w.before ++ more) (sym e) in
    let good : row_fault_under c w.h w.before row ≡ None = sym (fault_by-is c w.h w.before l row w.listed) ∙ none in
    let passes = row_passes c w.h w.before row good in
    let short : length w.before < 1024 = few_step (length w.before) passes.few in
    record {
      first = w.first;
      h = w.h;
      before = w.before ++ row ∷ [];
      heads = w.heads;
      listed = lists_step c w.h w.before l l2 row w.listed added;
      few = omega (arith, length-append w.before (row ∷ []), short);
      whole = w.whole ∙ ap (λ rows. w.first ∷ rows) (sym again);
      faultless = ap (first_fault (row_fault_under c w.h)) again ∙ w.faultless ∙ ap (first_after (numbered_fault (row_fault_under c w.h)) w.before) e
          ∙ first_fault-later (row_fault_under c w.h) w.before row left good;
    }

-- ---- the answers

pub no_rows : (c : Circuit) (rows : List Fields) → rows ≡ [] → points_of_rows c rows ≡ Err (record { row = 1; kind = BadCsv })
unfolding points_of_rows
no_rows c rows e = ap (points_of_rows c) e

headed : (c : Circuit) (bytes : Bytes) (first : Fields) (left : List Fields) (found : Option Header) → rows_of bytes ≡ first ∷ left → header_of first ≡ found
    → points_of_rows c (rows_of bytes) ≡ points_under found c left
unfolding points_of_rows
headed c bytes first left found e f = ap (points_of_rows c) e ∙ ap (λ o. points_under o c left) f

pub no_header : (c : Circuit) (rows : List Fields) (first : Fields) (left : List Fields) → rows ≡ first ∷ left → header_of first ≡ None
    → points_of_rows c rows ≡ Err (record { row = 1; kind = BadCsv })
unfolding points_of_rows
no_header c rows first left e f = ap (points_of_rows c) e ∙ ap (λ o. points_under o c left) f

-- below the header
pub begun : (c : Circuit) (bytes : Bytes) (h : Header) (l : Listed) (rows left : List Fields) → rows ≡ rows_of bytes → IsHeaderRead rows left (Ok h)
    → Lists c h [] l → IsHalfway c bytes l left
begun c bytes h l rows left e w listed = record {
  first = w.0;
  h = h;
  before = [];
  heads = w.2;
  listed = listed;
  few = grind arith;
  whole = sym e ∙ w.1;
  faultless = refl;
}

answer_is : (c : Circuit) (bytes : Bytes) (l : Listed) (left : List Fields) (w : IsHalfway c bytes l left) (found : Option (ℕ × PointsKind))
    → first_after (numbered_fault (row_fault_under c w.h)) w.before left ≡ found
    → points_of_rows c (rows_of bytes) ≡ points_unless (option_map (λ f. (f.0 + 1, f.1)) found) (list_any (is_observe w.h) (w.before ++ left)) (points_listed c w.h (w.before ++ left))
answer_is c bytes l left w found e =
    headed c bytes w.first (w.before ++ left) (Some w.h) w.whole w.heads
    ∙ ap (λ (o : Option (ℕ × PointsKind)). points_unless (option_map (λ f. (f.0 + 1, f.1)) o) (list_any (is_observe w.h) (w.before ++ left)) (points_listed c w.h (w.before ++ left)))
    (w.faultless ∙ e)

-- a row with a fault
pub row_refused : (c : Circuit) (bytes : Bytes) (l : Listed) (row : Fields) (old left : List Fields) (kind : PointsKind) → IsHalfway c bytes l old → old ≡ row ∷ left
    → fault_by l row ≡ Some kind → points_of_rows c (rows_of bytes) ≡ Err (record { row = length l.rows + 2; kind = kind })
row_refused c bytes l row old left kind w e fault =
    let bad : row_fault_under c w.h w.before row ≡ Some kind = sym (fault_by-is c w.h w.before l row w.listed) ∙ fault in
    let number : length w.before + 1 + 1 ≡ length l.rows + 2 = omega (arith, ap length w.listed.rows_are) in
    answer_is c bytes l old w (Some (length w.before + 1, kind))
    (ap (first_after (numbered_fault (row_fault_under c w.h)) w.before) e ∙ first_fault-here (row_fault_under c w.h) w.before row left kind bad)
    ∙ ap (λ n. Err (record { row = n; kind = kind })) number

none_after : (c : Circuit) (h : Header) (before : List Fields) → first_after (numbered_fault (row_fault_under c h)) before [] ≡ None
unfolding first_after
none_after c h before = refl

-- no further row
pub gives_points : (c : Circuit) (bytes : Bytes) (l : Listed) (left : List Fields) → IsHalfway c bytes l left → left ≡ []
    → points_of_rows c (rows_of bytes) ≡ points_unless None (list_any (is_observe l.header) l.rows) (points_listed c l.header l.rows)
gives_points c bytes l left w e =
    let rows : w.before ++ left ≡ l.rows = ap (λ more. w.before ++ more) e ∙ append-nil w.before ∙ sym w.listed.rows_are in
    answer_is c bytes l left w None (ap (first_after (numbered_fault (row_fault_under c w.h)) w.before) e ∙ none_after c w.h w.before)
    ∙ (λ t. points_unless None (list_any (is_observe (sym w.listed.header t)) (rows t)) (points_listed c (sym w.listed.header t) (rows t)))

-- ---- a refusal that is passed on

pub passed_on : (expected : Result Points (FaultyRow PointsKind)) (e : Refusal (FaultyRow PointsKind)) (result : Result Points (Refusal (FaultyRow PointsKind))) → Gives {T = Points} expected (Err e)
    → result ≡ Err e → Gives expected result
passed_on expected e result w same = subst (Gives expected) (sym same) w

pub header_refused : (c : Circuit) (bytes : Bytes) (rows left : List Fields) (e : Refusal (FaultyRow PointsKind)) (result : Result Points (Refusal (FaultyRow PointsKind)))
    → rows ≡ rows_of bytes → IsHeaderRead rows left (Err e) → result ≡ Err e → Gives (points_of_rows c (rows_of bytes)) result
header_refused c bytes rows left e result is w same =
    passed_on (points_of_rows c (rows_of bytes)) e result (subst (λ (r : List Fields). Gives {T = Points} (points_of_rows c r) (Err e)) is (w c)) same

-- ---- the rows that are kept

pub room : (l l2 : Listed) (row : Fields) → fault_by l row ≡ None → IsAdded l l2 row → length l2.rows ≤ 1024
room l l2 row none added =
    let p = first_of-none _ _ _ _ _ _ _ none in
    let short : length l.rows < 1024 = few_step (length l.rows) p.3 in
    omega (arith, ap length added.rows, length-append l.rows (row ∷ []), short)
