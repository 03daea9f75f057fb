-- Faults that were followed until they had shown all that they can have all that counts of the run.
use Rattle.std.proofs.Common.{◌≡◌, ℕ, ◌≤◌, true, false, not, List, get_or, inl, inr, is_some, ap, sym, ◌∙◌}
use Rattle.std.specs.List.{All, list_any}
use Rattle.std.proofs.lemmas.Bool.{true≢false}
use Rattle.std.proofs.lemmas.List.Folds.{list_any_none}
use Rattle.circuit.specs.declared.parts.Fault.{Fault}
use Rattle.circuit.specs.declared.parts.NetId.{NetId}
use Rattle.circuit.specs.Circuit.{Circuit}
use Rattle.workload.specs.declared.run.Kind.{Kind}
use Rattle.workload.specs.declared.run.Kind.TheVariants.{Mission, Test}
use Rattle.workload.specs.declared.run.Run.{Run}
use Rattle.workload.specs.Runs.{cycles_of, is_mission, is_test}
use Rattle.alarm_points.specs.declared.Points.{Points}
use Rattle.campaign_plan.specs.Danger.{differs, golden, with_faults}
use Rattle.fm_base.specs.Lists.{same_bit}
use Rattle.first_cycles.specs.FirstCycles.{is_raised_at}
use Rattle.first_cycles.specs.Shown.{is_silenced_at, shown_in}
use Rattle.first_cycles.proofs.Notices.{some_first}
use Rattle.fault_runs.specs.Followed.{IsFollowed}
use Rattle.fault_runs.specs.Records.{RunShown}
use Rattle.fault_runs.specs.Shown.{HasShown}
use Rattle.fault_runs.specs.Whole.{HasShownRun, HaveShownAll, NeverChange}
use Rattle.fault_runs.proofs.FirstStays.{first_closed}
use Rattle.fault_runs.proofs.SameValues.{not_raised, same_bits}
use Rattle.testbench.specs.Points.{alarm_at, goal_at}

-- no run is both
not_both : (kind : Kind) → is_mission kind ≡ true → is_test kind ≡ true → ⊥
not_both Mission mission test = true≢false (sym test)
not_both Test mission test = true≢false (sym mission)

module _ (c : Circuit) (points : Points) (run : Run) (x : List Fault) where
  -- nets that never change show no difference
  no_difference : (nets : List NetId) → All (NeverChange c x) nets → (t : ℕ)
      → list_any (λ net. not (same_bit (with_faults c x run t net) (golden c run t net))) nets ≡ false
  no_difference nets never t =
      list_any_none (λ net. not (same_bit (with_faults c x run t net) (golden c run t net))) nets
      (λ i d lt. same_bits (with_faults c x run t (get_or nets i d)) (golden c run t (get_or nets i d)) (never i d lt run t))

  let_go : (n : ℕ) (then r : RunShown) → n ≤ cycles_of run → is_mission run.kind ≡ true → HasShown c points run x n then → HasShown c points run x n r
      → HaveShownAll c points x then → HasShownRun points (shown_in c x run) r
  let_go n then r le mission was shown all = record {
    difference = λ g lt.
        shown.difference g lt
        ∙ first_closed n (cycles_of run) (differs c (goal_at points.goals g) x run) le
        (elim (all.goals g lt) [
          | inl is ↦ inl (ap is_some (sym (was.difference g lt)) ∙ is)
          | inr never ↦ inr (no_difference (goal_at points.goals g).observe never)
        ]);
    alarm = λ a lt.
        shown.alarm a lt
        ∙ first_closed n (cycles_of run) (is_raised_at c x run (alarm_at points.alarm a)) le
        (elim (all.alarms a lt) [
          | inl is ↦ inl (ap is_some (sym (was.alarm a lt)) ∙ is)
          | inr never ↦ inr (λ t. not_raised (with_faults c x run t (alarm_at points.alarm a)) (golden c run t (alarm_at points.alarm a)) (never run t))
        ]);
    silenced = λ test a lt. absurd (not_both run.kind mission test);
  }

  -- WHAT COUNTS of the run
  pub followed_whole : (r : RunShown) → IsFollowed c points run x (λ n then. (is_mission run.kind ≡ true) × HaveShownAll c points x then) r
      → HasShownRun points (shown_in c x run) r
  followed_whole r followed = elim followed.enough [
    | inl whole ↦ record {
      difference = whole.difference;
      alarm = whole.alarm;
      silenced = λ test a lt. ap is_some (whole.silence a lt) ∙ sym (some_first (cycles_of run) (is_silenced_at c x run (alarm_at points.alarm a)));
    }
    | inr go ↦ let_go followed.n go.then r followed.within go.leaves.0 go.shown followed.shown go.leaves.1
  ]
