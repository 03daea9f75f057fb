-- Where no net differs, no point does.
use Rattle.std.proofs.Common.{◌≡◌, ℕ, ◌<◌, ◌&&◌, Bool, true, false, not, List, [], length, get_or, refl, ap, sym, ◌∙◌}
use Rattle.std.specs.List.{All}
use Rattle.std.proofs.lemmas.List.Folds.{list_any_none}
use Rattle.circuit.specs.declared.parts.Fault.{Fault}
use Rattle.circuit.specs.declared.parts.NetId.{NetId}
use Rattle.circuit.specs.Circuit.{Circuit}
use Rattle.circuit.specs.Sound.{IsNet}
use Rattle.workload.specs.declared.run.Run.{Run}
use Rattle.alarm_points.specs.declared.Points.{Points}
use Rattle.alarm_points.specs.PointsKept.{ArePointsFor}
use Rattle.campaign_plan.specs.Danger.{golden, with_faults}
use Rattle.fm_base.specs.Lists.{same_bit}
use Rattle.golden_difference.specs.Beside.{trace_differs}
use Rattle.golden_difference.proofs.Exclusive.{same_of_none}
use Rattle.classifier.specs.Seen.{IsStill}
use Rattle.testbench.specs.Points.{goal_at}

pub same_bits : (v g : Bool) → v ≡ g → not (same_bit v g) ≡ false
same_bits true g e = ap not (sym e)
same_bits false g e = ap (λ b. not (not b)) (sym e)

pub not_raised : (v g : Bool) → v ≡ g → (v && not g) ≡ false
not_raised true g e = ap not (sym e)
not_raised false g e = refl

pub not_silenced : (v g : Bool) → v ≡ g → (not v && g) ≡ false
not_silenced true g e = refl
not_silenced false g e = sym e

-- of these nets none passes a test that none does which is as in the golden run
none_passes : (c : Circuit) (run : Run) (x : List Fault) (t : ℕ) (test : Bool → Bool → Bool) (nets : List NetId) → ((v g : Bool) → v ≡ g → test v g ≡ false)
    → All (IsNet c) nets → ((net : ℕ) → net < length c.drivers → trace_differs c x run.vectors t net ≡ false)
    → (test_at : NetId → Bool) → ((net : NetId) → test_at net ≡ test (with_faults c x run t net) (golden c run t net))
    → All (λ net. test_at net ≡ false) nets
none_passes c run x t test nets none inside same test_at is i d lt =
    let net : NetId = get_or nets i d in
    is net ∙ none (with_faults c x run t net) (golden c run t net) (same_of_none (with_faults c x run t net) (golden c run t net) (same net.0 (inside i d lt)))

pub over_still : (c : Circuit) (points : Points) (run : Run) (x : List Fault) (t : ℕ) → ArePointsFor c points
    → ((net : ℕ) → net < length c.drivers → trace_differs c x run.vectors t net ≡ false) → IsStill c points run x t
over_still c points run x t fit same = record {
  differ = λ g lt.
      list_any_none (λ net. not (same_bit (with_faults c x run t net) (golden c run t net))) (goal_at points.goals g).observe
      (none_passes c run x t (λ v h. not (same_bit v h)) (goal_at points.goals g).observe same_bits (fit.goals g (goal_at [] 0) lt).nets same _ (λ net. refl));
  raise =
      list_any_none (λ net. with_faults c x run t net && not (golden c run t net)) points.alarm
      (none_passes c run x t (λ v h. v && not h) points.alarm not_raised fit.alarm same _ (λ net. refl));
  silence =
      list_any_none (λ net. not (with_faults c x run t net) && golden c run t net) points.alarm
      (none_passes c run x t (λ v h. not v && h) points.alarm not_silenced fit.alarm same _ (λ net. refl));
}
