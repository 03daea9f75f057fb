-- What a fault has of the goals of a reading, and what it is where none differs.
use Rattle.std.proofs.Common.{◌≡◌, ℕ, zero, suc, ◌<◌, Bool, true, false, not, ◌&&◌, ◌||◌, List, [], ◌∷◌, length, get_or, Option, Some, None, refl, ap, sym, ◌∙◌, arith}
use Rattle.std.specs.Prelude.{◌==◌}
use Rattle.std.proofs.Math.Bool.{and-false}
use Rattle.std.proofs.lemmas.Bool.{eqb-true}
use Rattle.std.proofs.lemmas.List.Folds.{list_any_at, list_any_none}
use Rattle.circuit.specs.declared.parts.NetId.{NetId}
use Rattle.fm_base.proofs.Tests.{clash, false_of, not_not}
use Rattle.std.specs.List.{list_any}
use Rattle.alarm_points.specs.Interval.{interval_of}
use Rattle.alarm_points.specs.declared.Goal.{Goal}
use Rattle.alarm_points.specs.declared.Points.{Points}
use Rattle.first_cycles.specs.FirstCycles.{comes_late}
use Rattle.first_cycles.specs.Shown.{Shown}
use Rattle.reading_planes.specs.Folded.{AreCyclesOf, FaultCycles, differences_by, gives_notice, late_by, noticed_by}
use Rattle.reading_planes.specs.Readings.{IsReadingOf, is_other, others, points_by}
use Rattle.reading_planes.proofs.Lists.{any_kept, any_others}
use Rattle.reading_planes.specs.declared.reading.Reading.{Reading}
use Rattle.reading_planes.specs.declared.reading.Reading.TheVariants.{Bare, BareGoal, Goal as GoalAlone, Interval, Only, Whole, Without}
use Rattle.testbench.specs.Points.{alarm_at, goal_at}

-- those of the goals of a reading
pub differences_are : (points : Points) (s : Shown) (cycles : FaultCycles) (reading : Reading) → IsReadingOf points reading → AreCyclesOf points s cycles
    → (g : ℕ) → g < length (points_by points reading).goals → get_or (differences_by cycles.differences reading) g None ≡ s.difference (goal_at (points_by points reading).goals g)
differences_are points s cycles Whole is of = of.difference
differences_are points s cycles (GoalAlone h) is of = λ g lt. one g lt
  where
    one : (g : ℕ) → g < 1 → get_or (get_or cycles.differences h None ∷ []) g None ≡ s.difference (goal_at (goal_at points.goals h ∷ []) g)
    one zero lt = of.difference h is
    one (suc g) lt = absurd (omega (arith, lt))
differences_are points s cycles (Without a) is of = of.difference
differences_are points s cycles (Only a) is of = of.difference
differences_are points s cycles (Interval own) is of = of.difference
differences_are points s cycles Bare is of = of.difference
differences_are points s cycles (BareGoal h) is of = λ g lt. one g lt
  where
    one : (g : ℕ) → g < 1 → get_or (get_or cycles.differences h None ∷ []) g None ≡ s.difference (goal_at (goal_at points.goals h ∷ []) g)
    one zero lt = of.difference h is
    one (suc g) lt = absurd (omega (arith, lt))

-- none is late where no goal differs
none_late : (ftti : ℕ) (s : Shown) (alarm : Option ℕ) (goals : List Goal) → ((g : ℕ) → g < length goals → s.difference (goal_at goals g) ≡ None)
    → list_any (λ goal. comes_late (interval_of ftti goal) (s.difference goal) alarm) goals ≡ false
none_late ftti s alarm [] none = refl
none_late ftti s alarm (goal ∷ goals) none =
    let first : 0 < suc (length goals) = omega arith in
    ap (λ d. comes_late (interval_of ftti goal) d alarm || list_any (λ other. comes_late (interval_of ftti other) (s.difference other) alarm) goals) (none 0 first)
    ∙ none_late ftti s alarm goals (λ g lt. let more : suc g < suc (length goals) = omega (arith, lt) in none (suc g) more)

pub late_by_none : (points : Points) (ftti : ℕ) (s : Shown) (reading : Reading) → IsReadingOf points reading → ((g : ℕ) → g < length points.goals → s.difference (goal_at points.goals g) ≡ None)
    → late_by points ftti reading s ≡ false
late_by_none points ftti s Whole is none = none_late ftti s _ points.goals none
late_by_none points ftti s (GoalAlone h) is none = none_late ftti s _ (goal_at points.goals h ∷ []) one
  where
    one : (g : ℕ) → g < 1 → s.difference (goal_at (goal_at points.goals h ∷ []) g) ≡ None
    one zero lt = none h is
    one (suc g) lt = absurd (omega (arith, lt))
late_by_none points ftti s (Without a) is none = none_late ftti s _ points.goals none
late_by_none points ftti s (Only a) is none = none_late ftti s _ points.goals none
late_by_none points ftti s (Interval own) is none = none_late own s _ points.goals none
late_by_none points ftti s Bare is none = none_late ftti s None points.goals none
late_by_none points ftti s (BareGoal h) is none = none_late ftti s None (goal_at points.goals h ∷ []) one
  where
    one : (g : ℕ) → g < 1 → s.difference (goal_at (goal_at points.goals h ∷ []) g) ≡ None
    one zero lt = none h is
    one (suc g) lt = absurd (omega (arith, lt))

-- ---- what is noticed

-- among the others none passes where none of all does
none_kept : (gives : NetId → Bool) (out : Option NetId) (nets : List NetId) → list_any gives nets ≡ false → list_any gives (others out nets) ≡ false
none_kept gives out nets none =
    any_others (λ net. is_other net out) gives nets
    ∙ list_any_none (λ net. is_other net out && gives net) nets
    (λ i d lt. ap (λ b. is_other (get_or nets i d) out && b) (false_of (gives (get_or nets i d)) (λ is. clash (list_any gives nets) (list_any_at gives nets i d lt is) none))
    ∙ and-false (is_other (get_or nets i d) out))

pub noticed_by_none : (points : Points) (s : Shown) (reading : Reading) → IsReadingOf points reading → list_any (gives_notice s) points.alarm ≡ false → noticed_by points reading s ≡ false
noticed_by_none points s Whole is none = none
noticed_by_none points s (GoalAlone h) is none = none
noticed_by_none points s (Without a) is none = none_kept (gives_notice s) (Some (alarm_at points.alarm a)) points.alarm none
noticed_by_none points s (Only a) is none =
    ap (λ b. b || false) (false_of (gives_notice s (alarm_at points.alarm a)) (λ given. clash (list_any (gives_notice s) points.alarm) (list_any_at (gives_notice s) points.alarm a (alarm_at [] 0) is given) none))
noticed_by_none points s (Interval own) is none = none
noticed_by_none points s Bare is none = refl
noticed_by_none points s (BareGoal h) is none = refl

same_net : (a b : NetId) → (a.0 == b.0) ≡ true → a ≡ b
same_net a b e = ap (λ (n : ℕ). let own : NetId = record { 0 = n } in own) (eqb-true a.0 b.0 e)

-- one more, which gives no notice if it is the one that is left out
notice_by : (b gives all rest : Bool) → all ≡ rest → (b ≡ false → gives ≡ false) → (gives || all) ≡ ((b && gives) || rest)
notice_by true gives all rest same none = ap (λ a. gives || a) same
notice_by false gives all rest same none = ap (λ a. a || all) (none refl) ∙ same

-- without an alarm point that gives no notice, as many are noticed
pub kept_without : (gives : NetId → Bool) (out : NetId) (nets : List NetId) → gives out ≡ false → list_any gives nets ≡ list_any gives (others (Some out) nets)
kept_without gives out [] none = refl
kept_without gives out (net ∷ nets) none =
    notice_by (not (net.0 == out.0)) (gives net) (list_any gives nets) (list_any gives (others (Some out) nets)) (kept_without gives out nets none)
    (λ is. ap gives (same_net net out (not_not (net.0 == out.0) is)) ∙ none)
    ∙ sym (any_kept (not (net.0 == out.0)) gives net (others (Some out) nets))
