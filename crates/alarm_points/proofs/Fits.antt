-- Points that were read are points for their netlist.
use Rattle.std.proofs.Common.{◌≡◌, ◌∙◌, ◌⊎◌, inl, inr, ℕ, zero, suc, ◌+◌, ◌<◌, ◌≤◌, Bool, true, false, cond, not, List, [], ◌∷◌, ◌++◌, length, take, map, get_or, filter, sym, refl, ap, subst, arith, append_assoc, length-append}
use Rattle.std.specs.Prelude.{All, AllPairs, Option, Some, None, Result, Ok, Err, IfOk, IfSome, option_map, is_none, nat_le, bytes_eq, codes, unwrap_or, sum_by, slice_get, ◌&&◌, ◌||◌, if◌then◌else◌}
use Rattle.std.specs.List.{list_any}
use Rattle.std.proofs.lemmas.Bool.{cases_lt}
use Rattle.std.proofs.lemmas.List.{append-nil, get_or-take, length-map, length-take-le}
use Rattle.std.proofs.lemmas.List.Concat.{length-flat_map}
use Rattle.std.proofs.lemmas.List.Elements.{All-filter, All-map, filter_passes}
use Rattle.std.proofs.lemmas.List.Folds.{list_any_at}
use Rattle.std.proofs.lemmas.List.Kept.{AllPairs-filter}
use Rattle.std.proofs.lemmas.List.Quantifiers.{position-Some}
use Rattle.std.proofs.lemmas.List.Sums.{sum_by-cons}
use Rattle.std.proofs.lemmas.Option.{slice_get-map, slice_get-get_or, slice_get_within}
use Rattle.std.proofs.lemmas.Simd.{map-map}
use Rattle.std.proofs.Math.Seq.{take-length, take-suc}
use Rattle.circuit.specs.Circuit.{Circuit}
use Rattle.circuit.specs.Names.{net_named}
use Rattle.circuit.specs.Sound.{AreApart, IsNet, IsNetlist}
use Rattle.circuit.specs.declared.parts.NetId.{NetId}
use Rattle.csv_rows.specs.Rows.{Fields, rows_of}
use Rattle.fm_base.specs.Plain.{plain_number}
use Rattle.fm_base.proofs.PlainNumbers.{plain_number-some}
use Rattle.fm_base.specs.Answers.{Gives}
use Rattle.fm_base.specs.Firsts.{first_after, first_fault, numbered_fault}
use Rattle.fm_base.specs.Lists.{firsts}
use Rattle.fm_base.specs.Names.{Bytes, Name, distinct, has_repeat, is_label, is_one_of}
use Rattle.fm_base.specs.Index.{with_name}
use Rattle.fm_base.proofs.Distinct.{distinct-apart, is_same, same_name, distinct-nil}
use Rattle.fm_base.proofs.Tests.{both_true, clash, false_of, not_not, or_false}
use Rattle.fm_base.specs.declared.refusal.Refusal.{Refusal}
use Rattle.alarm_points.specs.declared.Goal.{Goal}
use Rattle.alarm_points.specs.declared.Points.{Points}
use Rattle.csv_rows.specs.declared.FaultyRow.{FaultyRow}
use Rattle.alarm_points.specs.declared.PointsKind.{PointsKind}
use Rattle.alarm_points.specs.declared.header.Header.{Header}
use Rattle.alarm_points.specs.declared.header.Header.TheVariants.{OneGoal, NamedGoals}
use Rattle.alarm_points.specs.Listed.{goals_with}
use Rattle.alarm_points.specs.PointsFile.{interval_read, observed, points_of}
use Rattle.alarm_points.specs.PointsSteps.{goal_from, goal_in, goals_named, header_of, interval_in, is_alarm, is_bad_goal, is_dash_field, is_observe, kind_in, net_in, observing_under, point_of, points_listed, points_of_rows, points_under, points_unless, row_fault_under, same_goal_under, same_point}
use Rattle.alarm_points.specs.PointsKept.{ArePointsFor, IsGoalFor}
use Rattle.alarm_points.proofs.Listing.{goals_step}
use Rattle.alarm_points.proofs.FileRows.{file_is}
use Rattle.alarm_points.proofs.Mapped.{firsts-map}
use Rattle.alarm_points.proofs.Whole.{Passes, few_step, row_passes}

-- ---- rows without a fault

-- each row passes after those before it
pass_after : (c : Circuit) (h : Header) (before rows : List Fields) → first_after (numbered_fault (row_fault_under c h)) before rows ≡ None
    → (i : ℕ) (d : Fields) → i < length rows → row_fault_under c h (before ++ take i rows) (get_or rows i d) ≡ None
unfolding first_after
pass_after c h before [] e i d lt = absurd (omega arith)
pass_after c h before (row ∷ rows) e i d lt = by_cases (row_fault_under c h before row) refl (λ f. pass_after c h (before ++ row ∷ []) rows f) i lt
  where
    by_cases : (o : Option PointsKind) → row_fault_under c h before row ≡ o
        → (first_after (numbered_fault (row_fault_under c h)) (before ++ row ∷ []) rows ≡ None
        → (i : ℕ) (d : Fields) → i < length rows → row_fault_under c h ((before ++ row ∷ []) ++ take i rows) (get_or rows i d) ≡ None)
        → (i : ℕ) → i < length (row ∷ rows) → row_fault_under c h (before ++ take i (row ∷ rows)) (get_or (row ∷ rows) i d) ≡ None
    by_cases (Some kind) f more i lt = absurd (cc (rw f at e))
    by_cases None f more zero lt = ap (λ (rs : List Fields). row_fault_under c h rs row) (append-nil before) ∙ f
    by_cases None f more (suc i) lt =
        ap (λ (rs : List Fields). row_fault_under c h rs (get_or rows i d)) (sym (append_assoc before (row ∷ []) (take i rows)))
        ∙ more (rw f at e) i d (omega arith)

abbrev AllPass : Circuit → Header → List Fields → Type 0
AllPass c h rows = (i : ℕ) (d : Fields) → i < length rows → Passes c h (take i rows) (get_or rows i d)

all_pass : (c : Circuit) (h : Header) (rows : List Fields) → first_fault (row_fault_under c h) rows ≡ None → AllPass c h rows
all_pass c h rows e i d lt = row_passes c h (take i rows) (get_or rows i d) (pass_after c h [] rows e i d lt)

-- the row's net is there
abbrev IsKnown : Circuit → Header → Fields → Type 0
IsKnown c h row = is_none (net_named c (net_in h row)) ≡ false

known : (c : Circuit) (h : Header) (rows : List Fields) → AllPass c h rows → All (IsKnown c h) rows
known c h rows pass i d lt = (pass i d lt).net

-- the net of a row, with its name
named : (c : Circuit) (h : Header) (row : Fields) → IsKnown c h row
    → ((point_of c h row).0 < length c.names) × (net_in h row ≡ get_or c.names (point_of c h row).0 [])
named c h row e = by_cases (net_named c (net_in h row)) refl
  where
    by_cases : (o : Option ℕ) → net_named c (net_in h row) ≡ o → (unwrap_or o 0 < length c.names) × (net_in h row ≡ get_or c.names (unwrap_or o 0) [])
    by_cases None f = absurd (cc (rw f at e))
    by_cases (Some n) f =
        let at = position-Some (bytes_eq (net_in h row)) c.names n [] f in
        (at.0, same_name (net_in h row) (get_or c.names n []) at.1)

is_net : (c : Circuit) (h : Header) (row : Fields) → IsNetlist c → IsKnown c h row → IsNet c (point_of c h row)
is_net c h row sound e = omega (arith, (named c h row e).0, sound.named)

are_nets : (c : Circuit) (h : Header) (rows : List Fields) → IsNetlist c → All (IsKnown c h) rows → All (IsNet c) (map (point_of c h) rows)
are_nets c h rows sound all = All-map (IsNet c) (point_of c h) rows (λ i d lt. is_net c h (get_or rows i d) sound (all i d lt))

-- no row is the point of an earlier one
abbrev AreNew : Header → List Fields → Type 0
AreNew h rows = AllPairs (λ (a b : Fields). same_point h b a ≡ false) rows

new : (c : Circuit) (h : Header) (rows : List Fields) → AllPass c h rows → AreNew h rows
new c h rows pass i j d before lt =
    false_of (same_point h (get_or rows j d) (get_or rows i d)) (λ e.
    let there : get_or (take j rows) i d ≡ get_or rows i d = get_or-take j rows i d before in
    let short : i < length (take j rows) = omega (arith, length-take-le j rows (omega (arith, lt)), before) in
    let same : same_point h (get_or rows j d) (get_or (take j rows) i d) ≡ true = ap (same_point h (get_or rows j d)) there ∙ e in
    clash (list_any (same_point h (get_or rows j d)) (take j rows)) (list_any_at (same_point h (get_or rows j d)) (take j rows) i d short same) (pass j d lt).new)

-- ---- points of one goal and of one kind are distinct

module _ (c : Circuit) (h : Header) (kind goal : Bytes) where
  pub record IsOf (row : Fields) : Type 0 where
    pub known : IsKnown c h row
    pub kind_is : kind_in h row ≡ kind
    pub goal_is : goal_in h row ≡ goal

  equal : (x y : Bytes) → x ≡ y → bytes_eq x y ≡ true
  equal x y e = ap (λ z. bytes_eq z y) e ∙ is_same y

  one_point : (a b : Fields) → IsOf a → IsOf b → point_of c h a ≡ point_of c h b → same_point h b a ≡ true
  one_point a b p q e =
      let net : net_in h b ≡ net_in h a = (named c h b q.known).1 ∙ ap (λ (n : NetId). get_or c.names n.0 []) (sym e) ∙ sym (named c h a p.known).1 in
      both_true (same_goal_under h b a && bytes_eq (kind_in h b) (kind_in h a)) (bytes_eq (net_in h b) (net_in h a))
      (both_true (same_goal_under h b a) (bytes_eq (kind_in h b) (kind_in h a)) (equal (goal_in h b) (goal_in h a) (q.goal_is ∙ sym p.goal_is))
      (equal (kind_in h b) (kind_in h a) (q.kind_is ∙ sym p.kind_is)))
      (equal (net_in h b) (net_in h a) net)

  point_at : (rows : List Fields) (i : ℕ) (x : NetId) → slice_get (map (point_of c h) rows) i ≡ Some x → (i < length rows) × (point_of c h (get_or rows i []) ≡ x)
  point_at rows i x e =
      let lt : i < length rows = omega (arith, slice_get_within (map (point_of c h) rows) i x e, length-map rows (point_of c h)) in
      let there : slice_get (map (point_of c h) rows) i ≡ Some (point_of c h (get_or rows i [])) =
      slice_get-map (point_of c h) rows i ∙ ap (option_map (point_of c h)) (slice_get-get_or rows i [] lt) in
      (lt, cc)

  earlier : (rows : List Fields) → All IsOf rows → AreNew h rows → (i j : ℕ) → i < j → j < length rows
      → point_of c h (get_or rows i []) ≡ point_of c h (get_or rows j []) → ⊥
  earlier rows all fresh i j lt within e =
      clash (same_point h (get_or rows j []) (get_or rows i [])) (one_point (get_or rows i []) (get_or rows j []) (all i [] (omega (arith, lt, within))) (all j [] within) e)
      (fresh i j [] lt within)

  pub points_apart : (rows : List Fields) → All IsOf rows → AreNew h rows → AreApart (map (point_of c h) rows)
  points_apart rows all fresh i j x ei ej =
      let p = point_at rows i x ei in
      let q = point_at rows j x ej in
      elim (cases_lt i j) [
        | inl lt ↦ absurd (earlier rows all fresh i j lt q.0 (p.1 ∙ sym q.1))
        | inr ge ↦ elim (cases_lt j i) [ inl lt ↦ absurd (earlier rows all fresh j i lt p.0 (q.1 ∙ sym p.1)) | inr le ↦ omega (arith, ge, le) ]
      ]

-- ---- goals

goal_names : (c : Circuit) (h : Header) (rows : List Fields) → map (λ (goal : Goal). goal.name) (points_listed c h rows).goals ≡ goals_named h rows
goal_names c h rows = map-map (λ (goal : Goal). goal.name) (goal_from c h rows) (firsts (same_goal_under h) (observing_under h rows)) ∙ firsts-map (goal_in h) bytes_eq (observing_under h rows)

interval_fits : (text : Bytes) → IfSome (unwrap_or (interval_read text) None) (λ cycles. cycles ≤ 4096)
interval_fits text = by_cases (is_dash_field text) (plain_number 4096 text) refl
  where
    by_cases : (dash : Bool) (o : Option ℕ) → plain_number 4096 text ≡ o
        → IfSome (unwrap_or (if dash then Some None else option_map (λ cycles. Some cycles) o) None) (λ cycles. cycles ≤ 4096)
    by_cases true o e = tt
    by_cases false None e = tt
    by_cases false (Some n) e = (plain_number-some 4096 n text e).1

goal_fits : (c : Circuit) (h : Header) (rows : List Fields) (first : Fields) → IsNetlist c → All (IsKnown c h) rows → AreNew h rows → IsGoalFor c (goal_from c h rows first)
goal_fits c h rows first sound all fresh =
    let own : List Fields = filter (same_goal_under h first) (observing_under h rows) in
    let all_own : All (IsKnown c h) own = All-filter (same_goal_under h first) (IsKnown c h) (observing_under h rows) (All-filter (is_observe h) (IsKnown c h) rows all) in
    let observe : All (λ row. is_observe h row ≡ true) own =
    All-filter (same_goal_under h first) (λ row. is_observe h row ≡ true) (observing_under h rows) (filter_passes (is_observe h) rows) in
    let goal : All (λ row. same_goal_under h first row ≡ true) own = filter_passes (same_goal_under h first) (observing_under h rows) in
    let fresh_own : AreNew h own =
    AllPairs-filter (λ (a b : Fields). same_point h b a ≡ false) (same_goal_under h first) (observing_under h rows) (AllPairs-filter (λ (a b : Fields). same_point h b a ≡ false) (is_observe h) rows fresh) in
    record {
      nets = are_nets c h own sound all_own;
      once = points_apart c h (codes "observe") (goal_in h first) own
          (λ i d lt. record { known = all_own i d lt; kind_is = same_name _ _ (observe i d lt); goal_is = sym (same_name _ _ (goal i d lt)) }) fresh_own;
      interval = interval_fits (interval_in h first);
    }

-- ---- at most four goals

none_or_one : (rows : List Fields) → (distinct (map (λ row. []) rows) ≡ []) ⊎ (distinct (map (λ row. []) rows) ≡ [] ∷ [])
unfolding firsts
none_or_one [] = inl refl
none_or_one (row ∷ rows) = elim (none_or_one rows) [
  | inl e ↦ inr (ap (λ (names : List Name). [] ∷ filter (λ name. not (bytes_eq name [])) names) e)
  | inr e ↦ inr (ap (λ (names : List Name). [] ∷ filter (λ name. not (bytes_eq name [])) names) e)
]

named_more : (names : List Name) (name : Name) (label known : Bool) → length names ≤ 4 → is_one_of names name ≡ known
    → (not label || (nat_le 4 (length names) && not known)) ≡ false → length (with_name names name) ≤ 4
named_more names name false known few ek e = absurd (cc)
named_more names name true true few ek e = rw ek few
named_more names name true false few ek e =
    let short : nat_le 4 (length names) ≡ false = sym (and_true (nat_le 4 (length names))) ∙ e in
    let lt : length names < 4 = few_step (length names) short in
    rw ek (omega (arith, length-append names (name ∷ []), lt))
  where
    and_true : (b : Bool) → (b && true) ≡ b
    and_true true = refl
    and_true false = refl

    few_step : (n : ℕ) → nat_le 4 n ≡ false → n < 4
    few_step n h = grind arith

goals_more : (names : List Name) (row : Fields) (o : Bool) → length names ≤ 4 → is_observe NamedGoals row ≡ o → is_bad_goal NamedGoals names row ≡ false
    → length (goals_with NamedGoals names row) ≤ 4
goals_more names row false few eo e = rw eo few
goals_more names row true few eo e =
    rw eo (named_more names (goal_in NamedGoals row) (is_label (goal_in NamedGoals row)) (is_one_of names (goal_in NamedGoals row)) few refl (rw eo at e))

named_few : (c : Circuit) (rows : List Fields) → AllPass c NamedGoals rows → (i : ℕ) → i ≤ length rows → length (goals_named NamedGoals (take i rows)) ≤ 4
named_few c rows pass zero le = let none : length (goals_named NamedGoals []) ≡ 0 = ap length distinct-nil in omega (arith, none)
named_few c rows pass (suc i) le =
    let lt : i < length rows = omega (arith, le) in
    let row : Fields = get_or rows i [] in
    let step : goals_named NamedGoals (take (suc i) rows) ≡ goals_with NamedGoals (goals_named NamedGoals (take i rows)) row =
    ap (goals_named NamedGoals) (take-suc rows i [] lt) ∙ sym (goals_step NamedGoals (take i rows) row) in
    let more : length (goals_with NamedGoals (goals_named NamedGoals (take i rows)) row) ≤ 4 =
    goals_more (goals_named NamedGoals (take i rows)) row (is_observe NamedGoals row) (named_few c rows pass i (omega (arith, lt))) refl (pass i [] lt).goal in
    omega (arith, ap length step, more)

few_goals : (c : Circuit) (h : Header) (rows : List Fields) → AllPass c h rows → length (goals_named h rows) ≤ 4
few_goals c OneGoal rows pass = elim (none_or_one (observing_under OneGoal rows)) [ inl e ↦ omega (arith, ap length e) | inr e ↦ omega (arith, ap length e) ]
few_goals c NamedGoals rows pass =
    let all : take (length rows) rows ≡ rows = take-length rows in
    omega (arith, named_few c rows pass (length rows) (omega arith), ap (λ (rs : List Fields). length (goals_named NamedGoals rs)) all)

-- ---- at most 1,024 points

few_rows : (c : Circuit) (h : Header) (rows : List Fields) → AllPass c h rows → length rows ≤ 1024
few_rows c h [] pass = omega arith
few_rows c h (row ∷ rows) pass =
    let last = pass (length rows) [] (omega arith) in
    let count : length (take (length rows) (row ∷ rows)) ≡ length rows = length-take-le (length rows) (row ∷ rows) (omega arith) in
    let short : length (take (length rows) (row ∷ rows)) < 1024 = few_step (length (take (length rows) (row ∷ rows))) last.few in
    omega (arith, count, short)

-- a row is of one kind
one_kind : (h : Header) (row : Fields) → is_observe h row ≡ true → is_alarm h row ≡ false
one_kind h row e = ap (λ kind. bytes_eq kind (codes "alarm")) (same_name (kind_in h row) (codes "observe") e)

kinds_counted : (h : Header) (rows : List Fields) → length (observing_under h rows) + length (filter (is_alarm h) rows) ≤ length rows
kinds_counted h [] = omega arith
kinds_counted h (row ∷ rows) = by_cases (is_observe h row) (is_alarm h row) refl refl (kinds_counted h rows)
  where
    by_cases : (o a : Bool) → is_observe h row ≡ o → is_alarm h row ≡ a → length (observing_under h rows) + length (filter (is_alarm h) rows) ≤ length rows
        → length (cond o (row ∷ observing_under h rows) (observing_under h rows)) + length (cond a (row ∷ filter (is_alarm h) rows) (filter (is_alarm h) rows)) ≤ length (row ∷ rows)
    by_cases true true eo ea more = absurd (clash (is_alarm h row) ea (one_kind h row eo))
    by_cases true false eo ea more = omega (arith, more)
    by_cases false true eo ea more = omega (arith, more)
    by_cases false false eo ea more = omega (arith, more)

module _ (h : Header) where
  -- the rows of a goal, over all goals
  abbrev counted : List Fields → List Fields → ℕ
  counted begins rows = sum_by (λ first. length (filter (same_goal_under h first) rows)) begins

  not_of : (begins : List Fields) (first row : Fields) → goal_in h first ≡ goal_in h row → is_one_of (map (goal_in h) begins) (goal_in h first) ≡ false
      → length (filter (λ other. same_goal_under h other row) begins) ≡ 0
  not_of [] first row e f = refl
  not_of (other ∷ begins) first row e f =
      let parts = or_false (bytes_eq (goal_in h first) (goal_in h other)) (is_one_of (map (goal_in h) begins) (goal_in h first)) f in
      let differs : same_goal_under h other row ≡ false = false_of (same_goal_under h other row) (λ s.
      clash (bytes_eq (goal_in h first) (goal_in h other)) (ap (λ g. bytes_eq g (goal_in h other)) (e ∙ sym (same_name (goal_in h other) (goal_in h row) s)) ∙ is_same (goal_in h other)) parts.0) in
      ap (λ (b : Bool). length (cond b (other ∷ filter (λ x. same_goal_under h x row) begins) (filter (λ x. same_goal_under h x row) begins))) differs ∙ not_of begins first row e parts.1

  -- a row is of one goal
  one_goal : (begins : List Fields) (row : Fields) → has_repeat (map (goal_in h) begins) ≡ false → length (filter (λ first. same_goal_under h first row) begins) ≤ 1
  one_goal [] row e = omega arith
  one_goal (first ∷ begins) row e =
      let parts = or_false (is_one_of (map (goal_in h) begins) (goal_in h first)) (has_repeat (map (goal_in h) begins)) e in
      by_cases (same_goal_under h first row) refl parts.0 (one_goal begins row parts.1)
    where
      by_cases : (b : Bool) → same_goal_under h first row ≡ b → is_one_of (map (goal_in h) begins) (goal_in h first) ≡ false
          → length (filter (λ x. same_goal_under h x row) begins) ≤ 1 → length (cond b (first ∷ filter (λ x. same_goal_under h x row) begins) (filter (λ x. same_goal_under h x row) begins)) ≤ 1
      by_cases true s none more = omega (arith, not_of begins first row (same_name (goal_in h first) (goal_in h row) s) none)
      by_cases false s none more = more

  counted_none : (begins : List Fields) → counted begins [] ≡ 0
  counted_none [] = refl
  counted_none (first ∷ begins) = omega (arith, sum_by-cons (λ (x : Fields). length (filter (same_goal_under h x) [])) first begins, counted_none begins)

  counted_more : (begins rows : List Fields) (row : Fields) → counted begins (row ∷ rows) ≡ length (filter (λ first. same_goal_under h first row) begins) + counted begins rows
  counted_more [] rows row = refl
  counted_more (first ∷ begins) rows row = by_cases (same_goal_under h first row) refl (counted_more begins rows row)
    where
      by_cases : (b : Bool) → same_goal_under h first row ≡ b → counted begins (row ∷ rows) ≡ length (filter (λ x. same_goal_under h x row) begins) + counted begins rows
          → counted (first ∷ begins) (row ∷ rows) ≡ length (cond b (first ∷ filter (λ x. same_goal_under h x row) begins) (filter (λ x. same_goal_under h x row) begins)) + counted (first ∷ begins) rows
      by_cases true s more =
          let own : length (filter (same_goal_under h first) (row ∷ rows)) ≡ suc (length (filter (same_goal_under h first) rows)) =
          ap (λ (b : Bool). length (cond b (row ∷ filter (same_goal_under h first) rows) (filter (same_goal_under h first) rows))) s in
          omega (arith, own, more, sum_by-cons (λ (x : Fields). length (filter (same_goal_under h x) (row ∷ rows))) first begins, sum_by-cons (λ (x : Fields). length (filter (same_goal_under h x) rows)) first begins)
      by_cases false s more =
          let own : length (filter (same_goal_under h first) (row ∷ rows)) ≡ length (filter (same_goal_under h first) rows) =
          ap (λ (b : Bool). length (cond b (row ∷ filter (same_goal_under h first) rows) (filter (same_goal_under h first) rows))) s in
          omega (arith, own, more, sum_by-cons (λ (x : Fields). length (filter (same_goal_under h x) (row ∷ rows))) first begins, sum_by-cons (λ (x : Fields). length (filter (same_goal_under h x) rows)) first begins)

  counted_once : (begins rows : List Fields) → has_repeat (map (goal_in h) begins) ≡ false → counted begins rows ≤ length rows
  counted_once begins [] e = omega (arith, counted_none begins)
  counted_once begins (row ∷ rows) e = omega (arith, counted_more begins rows row, one_goal begins row e, counted_once begins rows e)

  all_observed : (c : Circuit) (rows begins : List Fields) → sum_by (λ (goal : Goal). length goal.observe) (map (goal_from c h rows) begins) ≡ counted begins (observing_under h rows)
  all_observed c rows [] = refl
  all_observed c rows (first ∷ begins) =
      omega (
        arith,
        all_observed c rows begins,
        length-map (filter (same_goal_under h first) (observing_under h rows)) (point_of c h),
        sum_by-cons (λ (goal : Goal). length goal.observe) (goal_from c h rows first) (map (goal_from c h rows) begins),
        sum_by-cons (λ (x : Fields). length (filter (same_goal_under h x) (observing_under h rows))) first begins,
      )

few_points : (c : Circuit) (h : Header) (rows : List Fields) → AllPass c h rows
    → length (observed (points_listed c h rows)) + length (points_listed c h rows).alarm ≤ 1024
few_points c h rows pass =
    let begins : List Fields = firsts (same_goal_under h) (observing_under h rows) in
    let once : has_repeat (map (goal_in h) begins) ≡ false = ap has_repeat (firsts-map (goal_in h) bytes_eq (observing_under h rows)) ∙ distinct-apart (map (goal_in h) (observing_under h rows)) in
    omega (
      arith,
      length-flat_map (λ (goal : Goal). goal.observe) (points_listed c h rows).goals,
      all_observed h c rows begins,
      counted_once h begins (observing_under h rows) once,
      length-map (filter (is_alarm h) rows) (point_of c h),
      kinds_counted h rows,
      few_rows c h rows pass,
    )

-- ---- alarms

-- the goal of each alarm
abbrev alarm_goal : Header → Name
alarm_goal OneGoal = []
alarm_goal NamedGoals = codes "-"

goal_of_alarm : (h : Header) (goals : List Name) (row : Fields) → is_bad_goal h goals row ≡ false → is_alarm h row ≡ true → goal_in h row ≡ alarm_goal h
goal_of_alarm OneGoal goals row e a = refl
goal_of_alarm NamedGoals goals row e a =
    let other : is_observe NamedGoals row ≡ false = false_of (is_observe NamedGoals row) (λ o. clash (is_alarm NamedGoals row) a (one_kind NamedGoals row o)) in
    same_name (goal_in NamedGoals row) (codes "-") (not_not (is_dash_field (goal_in NamedGoals row)) (rw other at e))

alarm_once : (c : Circuit) (h : Header) (rows : List Fields) → AllPass c h rows → AreApart (map (point_of c h) (filter (is_alarm h) rows))
alarm_once c h rows pass =
    let own : List Fields = filter (is_alarm h) rows in
    let alarms : All (λ row. is_alarm h row ≡ true) own = filter_passes (is_alarm h) rows in
    let nets : All (IsKnown c h) own = All-filter (is_alarm h) (IsKnown c h) rows (known c h rows pass) in
    let goals : All (λ row. is_alarm h row ≡ true → goal_in h row ≡ alarm_goal h) own =
    All-filter (is_alarm h) (λ row. is_alarm h row ≡ true → goal_in h row ≡ alarm_goal h) rows (λ i d lt. goal_of_alarm h (goals_named h (take i rows)) (get_or rows i d) (pass i d lt).goal) in
    points_apart c h (codes "alarm") (alarm_goal h) own
    (λ i d lt. record { known = nets i d lt; kind_is = same_name _ _ (alarms i d lt); goal_is = goals i d lt (alarms i d lt) })
    (AllPairs-filter (λ (a b : Fields). same_point h b a ≡ false) (is_alarm h) rows (new c h rows pass))

points_fit : (c : Circuit) (h : Header) (rows : List Fields) → IsNetlist c → AllPass c h rows → ArePointsFor c (points_listed c h rows)
points_fit c h rows sound pass = record {
  goals = All-map (IsGoalFor c) (goal_from c h rows) (firsts (same_goal_under h) (observing_under h rows))
      (λ i d lt. goal_fits c h rows (get_or (firsts (same_goal_under h) (observing_under h rows)) i d) sound (known c h rows pass) (new c h rows pass));
  names = ap has_repeat (goal_names c h rows) ∙ distinct-apart (map (goal_in h) (observing_under h rows));
  few_goals = omega (arith, length-map (points_listed c h rows).goals (λ (goal : Goal). goal.name), ap length (goal_names c h rows), few_goals c h rows pass);
  alarm = are_nets c h (filter (is_alarm h) rows) sound (All-filter (is_alarm h) (IsKnown c h) rows (known c h rows pass));
  alarm_once = alarm_once c h rows pass;
  few = few_points c h rows pass;
}

-- ---- the answer

unless_fit : (c : Circuit) (h : Header) (rows : List Fields) (found : Option (ℕ × PointsKind)) (observes : Bool) (points : Points) → IsNetlist c
    → first_fault (row_fault_under c h) rows ≡ found
    → points_unless (option_map (λ f. (f.0 + 1, f.1)) found) observes (points_listed c h rows) ≡ Ok points → ArePointsFor c points
unless_fit c h rows (Some found) observes points sound e f = absurd (cc)
unless_fit c h rows None false points sound e f = absurd (cc)
unless_fit c h rows None true points sound e f =
    let is : points_listed c h rows ≡ points = cc in subst (ArePointsFor c) is (points_fit c h rows sound (all_pass c h rows e))

under_fit : (c : Circuit) (o : Option Header) (rows : List Fields) (points : Points) → IsNetlist c → points_under o c rows ≡ Ok points → ArePointsFor c points
under_fit c None rows points sound e = absurd (cc)
under_fit c (Some h) rows points sound e = unless_fit c h rows (first_fault (row_fault_under c h) rows) (list_any (is_observe h) rows) points sound refl e

rows_fit : (c : Circuit) (rows : List Fields) (points : Points) → IsNetlist c → points_of_rows c rows ≡ Ok points → ArePointsFor c points
unfolding points_of_rows
rows_fit c [] points sound e = absurd (cc)
rows_fit c (first ∷ rows) points sound e = under_fit c (header_of first) rows points sound e

pub answer_fits : (c : Circuit) (bytes : Bytes) (result : Result Points (Refusal (FaultyRow PointsKind))) → IsNetlist c → Gives (points_of c bytes) result
    → IfOk result (ArePointsFor c)
answer_fits c bytes (Ok points) sound e = rows_fit c (rows_of bytes) points sound (sym (file_is c bytes) ∙ e)
answer_fits c bytes (Err refusal) sound e = tt
