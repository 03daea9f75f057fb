-- The names of the nets, and what one row more lists.
use Rattle.std.proofs.Common.{◌≡◌, ◌∙◌, ℕ, ◌+◌, ◌<◌, Bool, true, false, cond, not, List, [], ◌∷◌, ◌++◌, length, take, map, get_or, length-take, sym, refl, ap, arith}
use Rattle.std.specs.Prelude.{Some, bytes_eq, if◌then◌else◌, ◌&&◌}
use Rattle.std.specs.List.{list_any}
use Rattle.std.proofs.lemmas.List.{append-nil, get_or-take, map-append, take_more}
use Rattle.std.proofs.lemmas.List.Elements.{filter-append}
use Rattle.std.proofs.lemmas.Option.{slice_get-get_or}
use Rattle.std.proofs.lemmas.List.Folds.{list_any_none}
use Rattle.circuit.specs.Sound.{AreApart}
use Rattle.csv_rows.specs.Rows.{Fields}
use Rattle.fm_base.specs.Lists.{firsts}
use Rattle.fm_base.specs.Names.{Name, distinct, is_one_of}
use Rattle.fm_base.proofs.Distinct.{distinct-found, distinct-snoc, firsts-snoc, same_name}
use Rattle.fm_base.proofs.Tests.{false_of}
use Rattle.fm_base.specs.Index.{with_name}
use Rattle.fm_base.proofs.NameFacts.{with_new}
use Rattle.alarm_points.specs.declared.header.Header.{Header}
use Rattle.alarm_points.specs.Listed.{begins_goal, goals_with}
use Rattle.alarm_points.specs.PointsSteps.{goal_in, goals_named, is_observe, observing_under, same_goal_under}
use Rattle.fm_base.proofs.Finding.{list_any-map}

-- ---- the names of the nets

-- a name that stands once is new
is_new : (names : List Name) (i : ℕ) → AreApart names → i < length names → is_one_of (take i names) (get_or names i []) ≡ false
is_new names i apart lt = list_any_none (bytes_eq (get_or names i [])) (take i names) (λ k d below.
    let short : k < i = omega (arith, length-take i names, below) in
    let within : k < length names = omega (arith, short, lt) in
    let same : get_or (take i names) k d ≡ get_or names k d = get_or-take i names k d short in
    false_of (bytes_eq (get_or names i []) (get_or (take i names) k d)) (λ e.
    let is : get_or names i [] ≡ get_or names k d = same_name (get_or names i []) (get_or (take i names) k d) e ∙ same in
    let one : i ≡ k = apart i k (get_or names i []) (slice_get-get_or names i [] lt) (slice_get-get_or names k d within ∙ ap Some (sym is)) in
    omega (arith, one, short)))

-- one name more
pub names_step : (names : List Name) (i : ℕ) → AreApart names → i < length names → with_name (take i names) (get_or names i []) ≡ take (i + 1) names
names_step names i apart lt = with_new (take i names) (get_or names i []) (is_new names i apart lt) ∙ sym (take_more names i [] lt)

-- ---- goals

observing_more : (h : Header) (rows : List Fields) (row : Fields) (b : Bool) → is_observe h row ≡ b
    → observing_under h (rows ++ row ∷ []) ≡ observing_under h rows ++ (if b then row ∷ [] else [])
observing_more h rows row b e = filter-append (is_observe h) rows (row ∷ []) ∙ ap (λ (v : Bool). observing_under h rows ++ (if v then row ∷ [] else [])) e

-- a row is of a goal before where its goal is named before
named_before : (h : Header) (rows : List Fields) (row : Fields) → list_any (same_goal_under h row) (observing_under h rows) ≡ is_one_of (goals_named h rows) (goal_in h row)
named_before h rows row =
    sym (list_any-map (bytes_eq (goal_in h row)) (goal_in h) (observing_under h rows)) ∙ sym (distinct-found (map (goal_in h) (observing_under h rows)) (goal_in h row))

-- the goals with one row more
pub goals_step : (h : Header) (rows : List Fields) (row : Fields) → goals_with h (goals_named h rows) row ≡ goals_named h (rows ++ row ∷ [])
goals_step h rows row = by_cases (is_observe h row) refl
  where
    by_cases : (b : Bool) → is_observe h row ≡ b
        → (if b then with_name (goals_named h rows) (goal_in h row) else goals_named h rows) ≡ goals_named h (rows ++ row ∷ [])
    by_cases false e = sym (ap (λ (xs : List Fields). distinct (map (goal_in h) xs)) (observing_more h rows row false e ∙ append-nil (observing_under h rows)))
    by_cases true e =
        rw (
          observing_more h rows row true e,
          map-append (goal_in h) (observing_under h rows) (row ∷ []),
          distinct-snoc (map (goal_in h) (observing_under h rows)) (goal_in h row),
          distinct-found (map (goal_in h) (observing_under h rows)) (goal_in h row),
        ) refl

-- the first rows of the goals with one row more
pub firsts_step : (h : Header) (rows : List Fields) (row : Fields) (b : Bool) → begins_goal h (goals_named h rows) row ≡ b
    → firsts (same_goal_under h) (observing_under h (rows ++ row ∷ [])) ≡ (if b then firsts (same_goal_under h) (observing_under h rows) ++ row ∷ [] else firsts (same_goal_under h) (observing_under h rows))
firsts_step h rows row b begins = by_cases (is_observe h row) (is_one_of (goals_named h rows) (goal_in h row)) refl refl begins
  where
    by_cases : (o known : Bool) → is_observe h row ≡ o → is_one_of (goals_named h rows) (goal_in h row) ≡ known → (o && not known) ≡ b
        → firsts (same_goal_under h) (observing_under h (rows ++ row ∷ [])) ≡ (if b then firsts (same_goal_under h) (observing_under h rows) ++ row ∷ [] else firsts (same_goal_under h) (observing_under h rows))
    by_cases false known eo ek eb =
        rw (sym eb) (ap (firsts (same_goal_under h)) (observing_more h rows row false eo ∙ append-nil (observing_under h rows)))
    by_cases true known eo ek eb =
        rw (sym eb) (ap (firsts (same_goal_under h)) (observing_more h rows row true eo) ∙ firsts-snoc (same_goal_under h) (observing_under h rows) row
        ∙ ap (λ (k : Bool). cond k (firsts (same_goal_under h) (observing_under h rows)) (firsts (same_goal_under h) (observing_under h rows) ++ row ∷ [])) (named_before h rows row ∙ ek)
        ∙ turned known (firsts (same_goal_under h) (observing_under h rows)) (firsts (same_goal_under h) (observing_under h rows) ++ row ∷ []))
      where
        turned : (k : Bool) (xs ys : List Fields) → cond k xs ys ≡ (if not k then ys else xs)
        turned true xs ys = refl
        turned false xs ys = refl

pub firsts_none : (h : Header) → firsts (same_goal_under h) [] ≡ []
unfolding firsts
firsts_none h = refl
