-- What a file means, said by its rows under each of the two headers: a row under the short one stands for one with the two fields that it lacks.
use Rattle.std.proofs.Common.{◌≡◌, ◌∙◌, ℕ, ◌+◌, Bool, true, false, cond, not, ◌&&◌, ◌||◌, List, [], ◌∷◌, ◌++◌, length, map, filter, find, refl, ap, sym, subst, arith}
use Rattle.std.specs.Prelude.{Option, Some, None, Result, bytes_eq, codes, is_none, nat_le, option_map, unwrap_or, ◌==◌, if◌then◌else◌}
use Rattle.std.specs.List.{list_any}
use Rattle.std.specs.Option.{option_map_or, option_or}
use Rattle.std.proofs.lemmas.List.{length-map, map-append}
use Rattle.std.proofs.lemmas.Simd.{map-map}
use Rattle.circuit.specs.Circuit.{Circuit}
use Rattle.circuit.specs.Names.{net_named}
use Rattle.circuit.specs.declared.parts.NetId.{NetId}
use Rattle.csv_rows.specs.Rows.{Fields, field, first_faulty_row, has_word, same_field, is_row, rows_of, unless_faulty}
use Rattle.fm_base.specs.Answers.{Gives}
use Rattle.fm_base.specs.Firsts.{first_after, first_answer, given, numbered_fault}
use Rattle.fm_base.specs.Lists.{firsts}
use Rattle.fm_base.specs.Names.{Bytes, distinct, is_label, is_one_of}
use Rattle.fm_base.specs.declared.refusal.Refusal.{Refusal}
use Rattle.fm_base.proofs.Distinct.{bytes_eq-sym, distinct-found}
use Rattle.fm_base.proofs.Finding.{list_any-map}
use Rattle.alarm_points.specs.declared.Goal.{Goal}
use Rattle.alarm_points.specs.declared.Points.{Points}
use Rattle.csv_rows.specs.declared.FaultyRow.{FaultyRow}
use Rattle.alarm_points.specs.declared.PointsKind.{PointsKind}
use Rattle.alarm_points.specs.declared.PointsKind.TheVariants.{BadCsv, BadKind, UnknownNet, Twice, TooLarge, NoObserve, BadGoal, BadInterval}
use Rattle.alarm_points.specs.declared.header.Header.TheVariants.{OneGoal, NamedGoals}
use Rattle.alarm_points.specs.PointsFile.{interval_read, points_of, row_fault}
use Rattle.alarm_points.specs.PointsSteps.{goal_from, is_fifth, is_alarm, is_observe, observing_under, point_of, points_listed, points_of_rows, points_under, points_unless, row_fault_under, same_goal_under}
use Rattle.alarm_points.proofs.Mapped.{filter-map, firsts-map}

-- a row of the short form, with the fields that it lacks
abbrev long : Fields → Fields
long row = [] ∷ codes "-" ∷ row

-- the rows that observe
abbrev observing : List Fields → List Fields
observing rows = filter (has_word (codes "observe") 2) rows

-- the points of rows that have no fault
abbrev points_from : Circuit → List Fields → Points
points_from c rows =
    let nets : List Fields → List NetId = map (λ row. record { 0 = unwrap_or (net_named c (field row 3)) 0 }) in
    let goal : Fields → Goal = λ first. record {
      name = field first 0;
      ftti = unwrap_or (interval_read (field first 1)) None;
      observe = nets (filter (same_field 0 first) (observing rows));
    } in
    record { goals = map goal (firsts (same_field 0) (observing rows)); alarm = nets (filter (has_word (codes "alarm") 2) rows) }

-- ---- under the header that names goals

-- a row would be of a fifth goal: its name is none of the four
fifth_named : (rows : List Fields) (row : Fields)
    → (nat_le 4 (length (firsts (same_field 0) rows)) && not (list_any (same_field 0 row) rows)) ≡ is_fifth (distinct (map (λ other. field other 0) rows)) (field row 0)
fifth_named rows row =
    let name : Fields → Bytes = λ other. field other 0 in
    let count : length (firsts (same_field 0) rows) ≡ length (distinct (map name rows)) =
    sym (length-map (firsts (same_field 0) rows) name) ∙ ap (λ (names : List Bytes). length names) (firsts-map name bytes_eq rows) in
    let there : list_any (same_field 0 row) rows ≡ is_one_of (distinct (map name rows)) (field row 0) =
    sym (list_any-map (bytes_eq (field row 0)) name rows) ∙ sym (distinct-found (map name rows) (field row 0)) in
    λ i. nat_le 4 (count i) && not (there i)

-- the interval of a goal's first row is that of the row
agrees_named : (row : Fields) (o : Option Fields)
    → option_map_or (same_field 1 row) o true ≡ option_map_or (λ first. bytes_eq (field first 1) (field row 1)) o true
agrees_named row None = refl
agrees_named row (Some first) = bytes_eq-sym (field row 1) (field first 1)

named_fault : (c : Circuit) → row_fault c true ≡ row_fault_under c NamedGoals
unfolding row_fault row_fault_under
named_fault c = λ i before row.
    let observes = has_word (codes "observe") 2 row in
    first_answer (given (not (length row == 4)) BadCsv
    ∷ given (not (observes || has_word (codes "alarm") 2 row)) BadKind
    ∷ given (is_none (net_named c (field row 3))) UnknownNet
    ∷ given (list_any (λ other. same_field 0 row other && same_field 2 row other && same_field 3 row other) before) Twice
    ∷ given (nat_le 1024 (length before)) TooLarge
    ∷ given (if observes then not (is_label (field row 0)) || fifth_named (observing before) row i else not (has_word (codes "-") 0 row)) BadGoal
    ∷ given (if observes then is_none (interval_read (field row 1)) || not (agrees_named row (find (same_field 0 row) (observing before)) i)
    else not (has_word (codes "-") 1 row)) BadInterval ∷ [])

named_points : (c : Circuit) (rows : List Fields) → points_from c rows ≡ points_listed c NamedGoals rows
named_points c rows = refl

-- ---- under the short header

-- all intervals are dashes
no_other : (p q : Fields → Bool) (rows : List Fields)
    → option_map_or (λ first. bytes_eq (codes "-") (field first 1)) (find p (filter q (map long rows))) true ≡ true
no_other p q [] = refl
no_other p q (row ∷ rows) = by_cases (q (long row)) (p (long row)) refl refl (no_other p q rows)
  where
    by_cases : (a b : Bool) → q (long row) ≡ a → p (long row) ≡ b
        → option_map_or (λ first. bytes_eq (codes "-") (field first 1)) (find p (filter q (map long rows))) true ≡ true
        → option_map_or (λ first. bytes_eq (codes "-") (field first 1)) (find p (cond (q (long row)) (long row ∷ filter q (map long rows)) (filter q (map long rows)))) true ≡ true
    by_cases true true e f more = rw (e, f) refl
    by_cases true false e f more = rw (e, f) more
    by_cases false b e f more = rw e more

good_interval : (observes agrees : Bool) → agrees ≡ true → (if observes then false || not agrees else false) ≡ false
good_interval true agrees e = ap not e
good_interval false agrees e = refl

two_more : (row : Fields) → (length (long row) == 4) ≡ (length row == 2)
two_more row = grind arith

short_row : (c : Circuit) (before : List Fields) (row : Fields) → row_fault c false (map long before) (long row) ≡ row_fault_under c OneGoal before row
unfolding row_fault row_fault_under
short_row c before row =
    let width = two_more row in
    let there = list_any-map (λ other. same_field 0 (long row) other && same_field 2 (long row) other && same_field 3 (long row) other) long before in
    let count : length (map long before) ≡ length before = length-map before long in
    let interval = good_interval (is_observe OneGoal row) _ (no_other (same_field 0 (long row)) (has_word (codes "observe") 2) before) in
    λ i. first_answer (
    given (not (width i)) BadCsv
    ∷ given (not (is_observe OneGoal row || is_alarm OneGoal row)) BadKind
    ∷ given (is_none (net_named c (field row 1))) UnknownNet
    ∷ given (there i) Twice
    ∷ given (nat_le 1024 (count i)) TooLarge
    ∷ given false BadGoal
    ∷ given (interval i) BadInterval
    ∷ [])

short_after : (c : Circuit) (before rows : List Fields) → first_after (numbered_fault (row_fault c false)) (map long before) (map long rows)
    ≡ first_after (numbered_fault (row_fault_under c OneGoal)) before rows
unfolding first_after
short_after c before [] = refl
short_after c before (row ∷ rows) =
    let count : length (map long before) ≡ length before = length-map before long in
    let more = ap (λ (b : List Fields). first_after (numbered_fault (row_fault c false)) b (map long rows)) (sym (map-append long before (row ∷ [])))
    ∙ short_after c (before ++ row ∷ []) rows in
    λ i. option_or (option_map (λ kind. (count i + 1, kind)) (short_row c before row i)) (more i)

-- the points of the images are those of the rows
module _ (c : Circuit) (rows : List Fields) where
  abbrev net : Fields → NetId
  net row = record { 0 = unwrap_or (net_named c (field row 3)) 0 }

  observing-long : observing (map long rows) ≡ map long (observing_under OneGoal rows)
  observing-long = sym (filter-map long (has_word (codes "observe") 2) rows)

  nets-long : (test : Fields → Bool) (some : List Fields) → map net (filter test (map long some)) ≡ map (point_of c OneGoal) (filter (λ row. test (long row)) some)
  nets-long test some = ap (map net) (sym (filter-map long test some)) ∙ map-map net long (filter (λ row. test (long row)) some)

  abbrev goal : Fields → Goal
  goal first = record {
    name = field first 0;
    ftti = unwrap_or (interval_read (field first 1)) None;
    observe = map net (filter (same_field 0 first) (observing (map long rows)));
  }

  goal-long : (first : Fields) → goal (long first) ≡ goal_from c OneGoal rows first
  goal-long first =
      let observe = ap (λ (some : List Fields). map net (filter (same_field 0 (long first)) some)) observing-long ∙ nets-long (same_field 0 (long first)) (observing_under OneGoal rows) in
      λ i. record { name = []; ftti = None; observe = observe i }

  short_points : points_from c (map long rows) ≡ points_listed c OneGoal rows
  short_points =
      let goals = ap (λ (some : List Fields). map goal (firsts (same_field 0) some)) observing-long
      ∙ ap (map goal) (sym (firsts-map long (same_field 0) (observing_under OneGoal rows)))
      ∙ map-map goal long (firsts (same_goal_under OneGoal) (observing_under OneGoal rows))
      ∙ (λ i. map (λ first. goal-long first i) (firsts (same_goal_under OneGoal) (observing_under OneGoal rows))) in
      let alarm = nets-long (has_word (codes "alarm") 2) rows in
      λ i. record { goals = goals i; alarm = alarm i }

-- ---- the answer

answers : (found : Option (ℕ × PointsKind)) (observes : Bool) (points : Points)
    → unless_faulty (found ∷ given (not observes) (1, NoObserve) ∷ []) points
    ≡ points_unless found observes points
answers (Some fault) observes points = refl
answers None false points = refl
answers None true points = refl

abbrev answer : Circuit → List Fields → (is_short is_long : Bool) → Result Points (FaultyRow PointsKind)
answer c below is_short is_long =
    let rows = if is_short then map long below else below in
    unless_faulty (given (not (is_short || is_long)) (1, BadCsv)
    ∷ first_faulty_row (row_fault c (not is_short)) rows
    ∷ given (not (list_any (has_word (codes "observe") 2) rows)) (1, NoObserve)
    ∷ []) (points_from c rows)

answer-is : (c : Circuit) (rows : List Fields) (is_short is_long : Bool)
    → answer c rows is_short is_long ≡ points_under (if is_short then Some OneGoal else if is_long then Some NamedGoals else None) c rows
answer-is c rows true is_long =
    answers (first_faulty_row (row_fault c false) (map long rows)) (list_any (has_word (codes "observe") 2) (map long rows)) (points_from c (map long rows))
    ∙ (λ i. points_unless (option_map (λ found. (found.0 + 1, found.1)) (short_after c [] rows i)) (list_any-map (has_word (codes "observe") 2) long rows i) (short_points c rows i))
answer-is c rows false true =
    answers (first_faulty_row (row_fault c true) rows) (list_any (has_word (codes "observe") 2) rows) (points_from c rows)
    ∙ (λ i. points_unless (first_faulty_row (named_fault c i) rows) (list_any (is_observe NamedGoals) rows) (points_listed c NamedGoals rows))
answer-is c rows false false = refl

read_rows : (c : Circuit) (bytes : Bytes) (rows : List Fields) → rows_of bytes ≡ rows → points_of c bytes ≡ points_of_rows c rows
unfolding points_of points_of_rows
read_rows c bytes [] e = rw e refl
read_rows c bytes (header ∷ rows) e =
    rw e (answer-is c rows (is_row (codes "kind" ∷ codes "net" ∷ []) header) (is_row (codes "goal" ∷ codes "ftti" ∷ codes "kind" ∷ codes "net" ∷ []) header))

pub file_is : (c : Circuit) (bytes : Bytes) → points_of c bytes ≡ points_of_rows c (rows_of bytes)
file_is c bytes = read_rows c bytes (rows_of bytes) refl

pub gives_file : (c : Circuit) (bytes : Bytes) (result : Result Points (Refusal (FaultyRow PointsKind))) → Gives (points_of_rows c (rows_of bytes)) result → Gives (points_of c bytes) result
gives_file c bytes result = let given : Result Points (FaultyRow PointsKind) → Type 0 = λ expected. Gives expected result in subst given (sym (file_is c bytes))
