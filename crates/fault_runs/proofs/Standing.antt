-- What faults have shown, cycle by cycle.
use Rattle.std.proofs.Common.{◌≡◌, ℕ, ◌+◌, ◌-◌, ◌*◌, ◌≤◌, List, take, inl, inr, refl, ap, sym, subst, ◌∙◌, arith}
use Rattle.std.proofs.Math.Nat.{add-mul}
use Rattle.circuit.specs.declared.parts.Fault.{Fault}
use Rattle.circuit.specs.Circuit.{Circuit}
use Rattle.workload.specs.declared.run.Run.{Run}
use Rattle.workload.specs.Runs.{cycles_of}
use Rattle.alarm_points.specs.declared.Points.{Points}
use Rattle.campaign_plan.specs.Danger.{differs}
use Rattle.first_cycles.specs.FirstCycles.{first_with, is_raised_at}
use Rattle.first_cycles.specs.Shown.{is_silenced_at}
use Rattle.fault_runs.specs.Records.{IsSameRecord, RunShown}
use Rattle.fault_runs.specs.Shown.{HasShown, SeesCycle}
use Rattle.fault_runs.specs.Followed.{IsFollowed, MayLeave}
use Rattle.fault_runs.specs.Stretch.{Stands}
use Rattle.golden_difference.specs.Beside.{IsStateOf}
use Rattle.place_set.specs.Places.{Places}
use Rattle.fault_runs.proofs.FirstMore.{first_more}
use Rattle.testbench.specs.Points.{alarm_at, goal_at}

pub same_self : (r : RunShown) → IsSameRecord r r
same_self r = record { difference = λ g. refl; alarm = λ a. refl; silence = λ a. refl }

pub same_then : (a b c : RunShown) → IsSameRecord a b → IsSameRecord b c → IsSameRecord a c
same_then a b c one two = record {
  difference = λ g. two.difference g ∙ one.difference g;
  alarm = λ m. two.alarm m ∙ one.alarm m;
  silence = λ m. two.silence m ∙ one.silence m;
}

module _ (c : Circuit) (points : Points) (run : Run) (x : List Fault) where
  pub shown_same : (n : ℕ) (old new : RunShown) → IsSameRecord old new → HasShown c points run x n old → HasShown c points run x n new
  shown_same n old new same has = record {
    difference = λ g lt. same.difference g ∙ has.difference g lt;
    alarm = λ a lt. same.alarm a ∙ has.alarm a lt;
    silence = λ a lt. same.silence a ∙ has.silence a lt;
  }

  -- one cycle more
  pub shown_more : (t : ℕ) (old new : RunShown) → HasShown c points run x t old → SeesCycle c points run x t old new → HasShown c points run x (t + 1) new
  shown_more t old new has sees = record {
    difference = λ g lt.
        sees.difference g lt ∙ ap (λ first. first_with first (differs c (goal_at points.goals g) x run t) t) (has.difference g lt)
        ∙ first_more t (differs c (goal_at points.goals g) x run);
    alarm = λ a lt.
        sees.alarm a lt ∙ ap (λ first. first_with first (is_raised_at c x run (alarm_at points.alarm a) t) t) (has.alarm a lt)
        ∙ first_more t (is_raised_at c x run (alarm_at points.alarm a));
    silence = λ a lt.
        sees.silence a lt ∙ ap (λ first. first_with first (is_silenced_at c x run (alarm_at points.alarm a) t) t) (has.silence a lt)
        ∙ first_more t (is_silenced_at c x run (alarm_at points.alarm a));
  }

-- the steps of one cycle more
pub cost_more : (start before now from t tables : ℕ) → from ≤ t → before ≤ start + (t - from) * tables → now ≤ before + tables → now ≤ start + (t + 1 - from) * tables
cost_more start before now from t tables le b n =
    let next : t + 1 - from ≡ (t - from) + 1 = omega (arith, le) in
    let split : ((t - from) + 1) * tables ≡ (t - from) * tables + 1 * tables = add-mul (t - from) 1 tables in
    let one : 1 * tables ≡ tables = omega arith in
    let whole : (t + 1 - from) * tables ≡ (t - from) * tables + tables = ap (λ m. m * tables) next ∙ split ∙ ap (λ m. (t - from) * tables + m) one in
    omega (arith, b, n, whole)

module _ (c : Circuit) (points : Points) (run : Run) (x : List Fault) where
  -- what is left as it was stands as before
  pub stands_same : (t : ℕ) (s p : Places) (r q : RunShown) → p ≡ s → IsSameRecord r q → Stands c points run x t s r → Stands c points run x t p q
  stands_same t s p r q same_state same_record stands = record {
    latches = subst (λ (m : Places). IsStateOf c x (take t run.vectors) m) (sym same_state) stands.latches;
    shown = shown_same c points run x t r q same_record stands.shown;
  }

  pub followed_same : (may_leave : MayLeave) (r q : RunShown) → IsSameRecord r q → IsFollowed c points run x may_leave r → IsFollowed c points run x may_leave q
  followed_same may_leave r q same so =
      record {
        n = so.n;
        within = so.within;
        shown = shown_same c points run x so.n r q same so.shown;
        enough = elim so.enough [ inl whole ↦ inl (shown_same c points run x (cycles_of run) r q same whole) | inr go ↦ inr go ];
      }
