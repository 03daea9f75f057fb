-- A lane without faults shows nothing, nor does one in which points are out of reach.
use Rattle.std.proofs.Common.{◌≡◌, ◌<◌, ℕ, Bool, true, false, not, ◌&&◌, ◌||◌, List, [], get_or, refl, ap₂, ◌∙◌}
use Rattle.std.proofs.lemmas.List.Folds.{list_any_none}
use Rattle.circuit.specs.declared.parts.Fault.{Fault}
use Rattle.circuit.specs.Circuit.{Circuit}
use Rattle.workload.specs.declared.run.Run.{Run}
use Rattle.workload.specs.Runs.{cycles_of, is_mission, is_test}
use Rattle.alarm_points.specs.declared.Goal.{Goal}
use Rattle.alarm_points.specs.declared.Points.{Points}
use Rattle.alarm_points.specs.Interval.{GoesUnalarmed, goes_unalarmed, interval_of}
use Rattle.alarm_points.proofs.Unalarmed.{goes_unalarmed-says}
use Rattle.campaign_plan.specs.Danger.{differs, golden, is_dangerous_in, is_noticed_in, is_raised, is_silenced}
use Rattle.fm_base.specs.Lists.{same_bit, some_below}
use Rattle.fm_base.proofs.Below.{some_below-true}
use Rattle.fm_base.proofs.Tests.{clash, false_of}
use Rattle.classifier.specs.OutOfReach.{IsDeaf, IsHarmless}
use Rattle.classifier.specs.Seen.{is_noticed_by}
use Rattle.classifier.proofs.Stillness.{same_bits}

-- without faults
pub bare_harmless : (c : Circuit) (points : Points) → IsHarmless c points []
bare_harmless c points run t i d lt =
    let own = (get_or points.goals i d).observe in
    list_any_none (λ net. not (same_bit (golden c run t net) (golden c run t net))) own (λ j e less. same_bits (golden c run t (get_or own j e)) _ refl)

-- in no cycle
pub never : (n : ℕ) (test : ℕ → Bool) → ((t : ℕ) → test t ≡ false) → some_below n test ≡ false
never n test none = false_of _ (λ some.
    let found : (t : ℕ) × (t < n) × (test t ≡ true) = some_below-true n test some in
    clash (test found.0) found.2 (none found.0))

neither : (kind : Bool) → (false || (kind && false)) ≡ false
neither true = refl
neither false = refl

pub deaf_by : (c : Circuit) (points : Points) (x : List Fault) (run : Run) (n : ℕ) → IsDeaf c points x → is_noticed_by c points x run n ≡ false
deaf_by c points x run n deaf =
    ap₂ (λ a b. a || (is_test run.kind && b)) (never n (is_raised c points x run) (deaf.raise run)) (never n (is_silenced c points x run) (deaf.silence run))
    ∙ neither (is_test run.kind)

-- a run gives no notice of what no alarm point shows
pub deaf_in : (c : Circuit) (points : Points) (x : List Fault) (run : Run) → IsDeaf c points x → is_noticed_in c points x run ≡ false
deaf_in c points x run deaf = deaf_by c points x run (cycles_of run) deaf

only : (kind b : Bool) → b ≡ false → (kind && b) ≡ false
only true b e = e
only false b e = refl

-- nor is it in danger where no observation point shows anything
pub harmless_in : (c : Circuit) (points : Points) (ftti : ℕ) (x : List Fault) (run : Run) → IsHarmless c points x → is_dangerous_in c points ftti x run ≡ false
harmless_in c points ftti x run harmless =
    list_any_none _ points.goals (λ i d lt.
    let goal : Goal = get_or points.goals i d in
    only (is_mission run.kind) _ (false_of (goes_unalarmed (interval_of ftti goal) (cycles_of run) (differs c goal x run) (is_raised c points x run)) (λ is.
    let found : GoesUnalarmed (interval_of ftti goal) (cycles_of run) (differs c goal x run) (is_raised c points x run) = goes_unalarmed-says (interval_of ftti goal) (cycles_of run) (differs c goal x run) (is_raised c points x run) is in
    clash (differs c goal x run found.t) found.differs_at (harmless run found.t i d lt))))
