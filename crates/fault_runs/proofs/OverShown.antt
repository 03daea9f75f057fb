-- Once nothing more comes of faults, the cycles so far show what the whole run does.
use Rattle.std.proofs.Common.{◌≡◌, ℕ, ◌<◌, ◌≤◌, ◌⊎◌, Bool, false, not, List, [], inl, inr, length, take, drop, get_or, ap, sym, ◌∙◌, arith}
use Rattle.std.proofs.lemmas.List.{length-take-le, take-append-drop}
use Rattle.std.proofs.lemmas.List.Folds.{list_any_none}
use Rattle.circuit.specs.declared.parts.Fault.{Fault}
use Rattle.circuit.specs.declared.parts.NetId.{NetId}
use Rattle.circuit.specs.Circuit.{Circuit}
use Rattle.circuit.specs.Sound.{IsNet}
use Rattle.workload.specs.declared.run.Run.{Run}
use Rattle.workload.specs.Runs.{cycles_of}
use Rattle.alarm_points.specs.declared.Points.{Points}
use Rattle.alarm_points.specs.PointsKept.{ArePointsFor}
use Rattle.campaign_plan.specs.Danger.{differs, golden, with_faults}
use Rattle.fm_base.specs.Lists.{same_bit}
use Rattle.golden_difference.specs.Beside.{trace_differs}
use Rattle.golden_difference.proofs.Exclusive.{same_of_none}
use Rattle.golden_difference.proofs.Over.{is_over_after}
use Rattle.first_cycles.specs.FirstCycles.{is_raised_at}
use Rattle.first_cycles.specs.Shown.{is_silenced_at}
use Rattle.place_set.specs.Places.{Places}
use Rattle.fault_runs.specs.Followed.{IsFollowed, MayLeave}
use Rattle.fault_runs.specs.Over.{AreOver}
use Rattle.fault_runs.specs.Records.{RunShown}
use Rattle.fault_runs.specs.Shown.{HasShown}
use Rattle.fault_runs.specs.Stretch.{Stands}
use Rattle.fault_runs.proofs.FirstStays.{first_still}
use Rattle.fault_runs.proofs.SameValues.{not_raised, not_silenced, same_bits}
use Rattle.testbench.specs.Points.{alarm_at, goal_at}

-- cycles in which no net differs show nothing more
module _ (c : Circuit) (points : Points) (run : Run) (x : List Fault) (t n : ℕ) (r : RunShown) (le : t ≤ n)
    (none_differs : (u net : ℕ) → t ≤ u → u < n → net < length c.drivers → trace_differs c x run.vectors u net ≡ false) where
  same_value : (u : ℕ) (net : NetId) → t ≤ u → u < n → IsNet c net → with_faults c x run u net ≡ golden c run u net
  same_value u net from late inside = same_of_none (with_faults c x run u net) (golden c run u net) (none_differs u net.0 from late inside)

  pub quiet_shown : ArePointsFor c points → HasShown c points run x t r → HasShown c points run x n r
  quiet_shown fit shown = record {
    difference = λ g lt.
        shown.difference g lt
        ∙ first_still t n (differs c (goal_at points.goals g) x run) le
        (λ u from late.
        let nets : List NetId = (goal_at points.goals g).observe in
        list_any_none (λ net. not (same_bit (with_faults c x run u net) (golden c run u net))) nets
        (λ i d less. same_bits (with_faults c x run u (get_or nets i d)) (golden c run u (get_or nets i d))
        (same_value u (get_or nets i d) from late ((fit.goals g (goal_at [] 0) lt).nets i d less))));
    alarm = λ a lt.
        shown.alarm a lt
        ∙ first_still t n (is_raised_at c x run (alarm_at points.alarm a)) le
        (λ u from late. not_raised (with_faults c x run u (alarm_at points.alarm a)) (golden c run u (alarm_at points.alarm a))
        (same_value u (alarm_at points.alarm a) from late (fit.alarm a (alarm_at [] 0) lt)));
    silence = λ a lt.
        shown.silence a lt
        ∙ first_still t n (is_silenced_at c x run (alarm_at points.alarm a)) le
        (λ u from late. not_silenced (with_faults c x run u (alarm_at points.alarm a)) (golden c run u (alarm_at points.alarm a))
        (same_value u (alarm_at points.alarm a) from late (fit.alarm a (alarm_at [] 0) lt)));
  }

-- once nothing more comes of faults no net differs any more
module _ (c : Circuit) (points : Points) (run : Run) (x : List Fault) (t : ℕ) (state : Places) (r : RunShown)
    (le : t ≤ cycles_of run) (over : AreOver x t state) (stands : Stands c points run x t state r) where
  none_differs : (u net : ℕ) → t ≤ u → u < cycles_of run → net < length c.drivers → trace_differs c x run.vectors u net ≡ false
  none_differs u net from late within =
      let vectors : List (List Bool) = take t run.vectors in
      let size : length vectors ≡ t = length-take-le t run.vectors le in
      sym (ap (λ (vs : List (List Bool)). trace_differs c x vs u net) (take-append-drop t run.vectors))
      ∙ is_over_after c x vectors (cycles_of run)
      (λ l lt. sym (stands.latches l lt) ∙ over.latches l)
      (λ v begun end. over.idle v (omega (arith, begun, size)))
      (drop t run.vectors) u net (omega (arith, from, size)) late within

  pub over_shown : ArePointsFor c points → HasShown c points run x (cycles_of run) r
  over_shown fit = quiet_shown c points run x t (cycles_of run) r le none_differs fit stands.shown

-- FAULTS THAT LEAVE were followed: nothing more comes of them, or they may leave
pub let_go : (c : Circuit) (points : Points) (run : Run) (x : List Fault) (may_leave : MayLeave) (t : ℕ) (state : Places) (r : RunShown) → ArePointsFor c points
    → t ≤ cycles_of run → Stands c points run x t state r → AreOver x t state ⊎ may_leave t r → IsFollowed c points run x may_leave r
let_go c points run x may_leave t state r fit le stands leaves = record {
  n = t;
  within = le;
  shown = stands.shown;
  enough = elim leaves [
    | inl over ↦ inl (over_shown c points run x t state r le over stands fit)
    | inr may ↦ inr (record { then = r; shown = stands.shown; leaves = may })
  ];
}
