-- The least interval that would do, by what the runs show.
use Rattle.std.proofs.Common.{◌≡◌, ℕ, ◌+◌, ◌-◌, ◌<◌, ◌≤◌, max, Bool, true, false, not, ◌&&◌, ◌||◌, List, [], ◌∷◌, map, find, Option, Some, None, refl, ap, sym, ◌∙◌, arith}
use Rattle.std.specs.Prelude.{nat_le, nat_lt, if◌then◌else◌}
use Rattle.std.specs.List.{list_any}
use Rattle.std.proofs.lemmas.Bool.{le-leb, le-ltb, leb-false, leb-true, lt-leb, lt-ltb}
use Rattle.circuit.specs.declared.parts.Fault.{Fault}
use Rattle.circuit.specs.Circuit.{Circuit}
use Rattle.fm_base.specs.Lists.{below}
use Rattle.fm_base.proofs.Finding.{list_any-map}
use Rattle.fm_base.proofs.Tests.{and_both, both_true, or_true}
use Rattle.workload.specs.declared.run.Run.{Run}
use Rattle.workload.specs.Runs.{is_mission}
use Rattle.alarm_points.specs.declared.Goal.{Goal}
use Rattle.alarm_points.specs.declared.Points.{Points}
use Rattle.alarm_points.specs.Interval.{interval_of}
use Rattle.alarm_points.proofs.Settled.{same_test}
use Rattle.campaign_plan.specs.Danger.{is_dangerous}
use Rattle.first_cycles.specs.FirstCycles.{comes_late, earliest, first_alarm, first_difference, first_below}
use Rattle.readings.specs.Latencies.{latencies_with, least_interval, without_intervals}
use Rattle.readings.specs.Laws.{IntervalIsShown, TableIsShown}
use Rattle.first_cycles.specs.Shown.{if_at_most, interval_by, interval_in, longer, longest, needed, shown_in, shown_of}
use Rattle.first_cycles.proofs.Dangers.{danger_shown, run_danger}
use Rattle.first_cycles.proofs.Firsts.{IsFirstOf, first_found}

-- an interval is at least as long as one that may not be there
abbrev does : ℕ → Option ℕ → Bool
does ftti None = false
does ftti (Some n) = nat_le n ftti

always : (n : ℕ) → nat_le 0 n ≡ true
always n = le-leb 0 n (omega arith)

late_needed : (ftti : ℕ) (a b : Option ℕ) → comes_late ftti a b ≡ not (does ftti (needed a b))
late_needed ftti None b = sym (ap not (always ftti))
late_needed ftti (Some t) None = refl
late_needed ftti (Some t) (Some u) = by_cases (nat_le (u - t) ftti) refl
  where
    by_cases : (b : Bool) → nat_le (u - t) ftti ≡ b → nat_lt (t + ftti) u ≡ not (nat_le (u - t) ftti)
    by_cases true e = let le : u - t ≤ ftti = leb-true (u - t) ftti e in le-ltb (t + ftti) u (omega (arith, le)) ∙ sym (ap not e)
    by_cases false e = let lt : ftti < u - t = leb-false (u - t) ftti e in lt-ltb (t + ftti) u (omega (arith, lt)) ∙ sym (ap not e)

-- the greater of two does where both do
max_does : (m n ftti : ℕ) → nat_le (max m n) ftti ≡ (nat_le m ftti && nat_le n ftti)
max_does m n ftti = same_test (nat_le (max m n) ftti) (nat_le m ftti && nat_le n ftti)
    (λ is.
    let le : max m n ≤ ftti = leb-true (max m n) ftti is in
    both_true (nat_le m ftti) (nat_le n ftti) (le-leb m ftti (omega (arith, le))) (le-leb n ftti (omega (arith, le))))
    (λ both.
    let parts = and_both (nat_le m ftti) (nat_le n ftti) both in
    let first : m ≤ ftti = leb-true m ftti parts.0 in
    let second : n ≤ ftti = leb-true n ftti parts.1 in
    le-leb (max m n) ftti (omega (arith, first, second)))

not_both : (a b : Bool) → not (a && b) ≡ (not a || not b)
not_both true b = refl
not_both false b = refl

longer_does : (ftti : ℕ) (m n : Option ℕ) → not (does ftti (longer m n)) ≡ (not (does ftti m) || not (does ftti n))
longer_does ftti None n = refl
longer_does ftti (Some m) None = sym (or_true (not (nat_le m ftti)))
longer_does ftti (Some m) (Some n) = ap not (max_does m n ftti) ∙ not_both (nat_le m ftti) (nat_le n ftti)

-- the greatest of all does where each does
longest_does : {X : Type 0} (ftti : ℕ) (f : X → Option ℕ) (xs : List X) → not (does ftti (longest (map f xs))) ≡ list_any (λ x. not (does ftti (f x))) xs
longest_does ftti f [] = ap not (always ftti)
longest_does ftti f (x ∷ xs) = longer_does ftti (f x) (longest (map f xs)) ∙ ap (λ b. not (does ftti (f x)) || b) (longest_does ftti f xs)

none_any : {X : Type 0} (xs : List X) → list_any (λ x. false) xs ≡ false
none_any [] = refl
none_any (x ∷ xs) = none_any xs

not_not_is : (b : Bool) → not (not b) ≡ b
not_not_is true = refl
not_not_is false = refl

module _ (c : Circuit) (points : Points) (x : List Fault) (ftti : ℕ) where
  -- a goal is late in a run, with its own interval or else this one
  abbrev goal_late : Run → Goal → Bool
  goal_late run goal = is_mission run.kind && comes_late (interval_of ftti goal) (first_difference c x run goal) (earliest (map (first_alarm c x run) points.alarm))

  abbrev goal_needs : Run → Goal → Option ℕ
  goal_needs run goal = needed (first_difference c x run goal) (earliest (map (first_alarm c x run) points.alarm))

  by_kind : (run : Run) (mission : Bool)
      → list_any (λ goal. mission && comes_late ftti (first_difference c x run goal) (earliest (map (first_alarm c x run) points.alarm))) points.goals
      ≡ not (does ftti (if mission then longest (map (goal_needs run) points.goals) else Some 0))
  by_kind run true =
      (λ i. list_any (λ goal. late_needed ftti (first_difference c x run goal) (earliest (map (first_alarm c x run) points.alarm)) i) points.goals)
      ∙ sym (longest_does ftti (goal_needs run) points.goals)
  by_kind run false = none_any points.goals ∙ sym (ap not (always ftti))

  -- a run is late with an interval that doesn't do in it
  in_run : (run : Run) → run_danger (without_intervals points) ftti (shown_in c x run) ≡ not (does ftti (interval_in points (shown_in c x run)))
  in_run run = list_any-map (goal_late run) (λ (goal : Goal). record goal { ftti = None }) points.goals ∙ by_kind run (is_mission run.kind)

  -- DANGER with an interval for all goals: that interval doesn't do
  pub danger_needs : (runs : List Run)
      → is_dangerous c (without_intervals points) ftti runs x ≡ not (does ftti (interval_by points (map (shown_in c x) runs)))
  danger_needs runs =
      danger_shown c (without_intervals points) ftti runs x
      ∙ list_any-map (run_danger (without_intervals points) ftti) (shown_in c x) runs
      ∙ (λ i. list_any (λ run. in_run run i) runs)
      ∙ sym (list_any-map (λ s. not (does ftti (interval_in points s))) (shown_in c x) runs)
      ∙ sym (longest_does ftti (interval_in points) (map (shown_in c x) runs))

-- the first number that does
first_that_does : (o : Option ℕ) → first_below 4097 (λ ftti. does ftti o) ≡ if_at_most 4096 o
first_that_does o = first_found 4097 (λ ftti. does ftti o) (if_at_most 4096 o) (is_first o)
  where
    by_cases : (n : ℕ) (b : Bool) → nat_le n 4096 ≡ b → IsFirstOf 4097 (λ ftti. nat_le n ftti) (if b then Some n else None)
    by_cases n true e = let le : n ≤ 4096 = leb-true n 4096 e in record {
      within = omega (arith, le);
      passes = le-leb n n (omega arith);
      before = λ u lt. lt-leb n u lt;
    }
    by_cases n false e = let lt : 4096 < n = leb-false n 4096 e in λ u less. lt-leb n u (omega (arith, lt, less))

    is_first : (o : Option ℕ) → IsFirstOf 4097 (λ ftti. does ftti o) (if_at_most 4096 o)
    is_first None = λ u lt. refl
    is_first (Some n) = by_cases n (nat_le n 4096) refl

-- THE LEAST INTERVAL
pub interval_shown : IntervalIsShown
unfolding least_interval
interval_shown p f =
    (λ i. find (λ ftti. (ap not (danger_needs p.circuit p.points (f ∷ []) ftti p.runs) ∙ not_not_is (does ftti (interval_by p.points (shown_of p f)))) i) (below 4097))
    ∙ first_that_does (interval_by p.points (shown_of p f))

-- and the table
pub table_shown : TableIsShown
table_shown p = ap (λ interval. latencies_with interval p) (λ i f. interval_shown p f i)
