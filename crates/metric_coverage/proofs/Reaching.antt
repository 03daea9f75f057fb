-- Whether a path leads from a fault to an observation point, and the observation points of one goal.
use Rattle.std.proofs.Common.{◌≡◌, ℕ, zero, suc, ◌<◌, ◌≤◌, Bool, true, false, List, [], ◌∷◌, length, flat_map, None, refl, ap, sym, arith, length-append}
use Rattle.std.specs.Prelude.{◌↔◌, IsTrue}
use Rattle.std.proofs.lemmas.List.{append-nil}
use Rattle.std.proofs.lemmas.List.Elements.{All-cons, All-nil}
use Rattle.std.proofs.lemmas.Option.{slice_get_within}
use Rattle.circuit.specs.declared.parts.Fault.{Fault}
use Rattle.circuit.specs.declared.parts.Fault.TheVariants.{Flip, Pulse, Stuck}
use Rattle.circuit.specs.Circuit.{Circuit}
use Rattle.alarm_points.specs.declared.Goal.{Goal}
use Rattle.alarm_points.specs.declared.Points.{Points}
use Rattle.alarm_points.specs.PointsKept.{ArePointsFor, IsGoalFor}
use Rattle.testbench.specs.Points.{goal_at}
use Rattle.golden_values.specs.Golden.{IsFaultIn}
use Rattle.coverage.specs.Laws.{IsFaultOf}
use Rattle.metric_coverage.specs.Paths.{observing}

-- two bits that tell the same are the same
pub told_alike : {X : Type 0} (a b : Bool) → (IsTrue a ↔ X) → (IsTrue b ↔ X) → a ≡ b
told_alike true true own other = refl
told_alike true false own other = sym (other.1 (own.0 refl))
told_alike false true own other = own.1 (other.0 refl)
told_alike false false own other = refl

-- a fault of the circuit
pub of_circuit : (c : Circuit) (f : Fault) → IsFaultIn c f → IsFaultOf c f
of_circuit c (Stuck n value) own = own
of_circuit c (Flip latch t) own = own
of_circuit c (Pulse n t) own = own

-- a goal observes no more than all goals do
observes_less : (goals : List Goal) (g : ℕ) → g < length goals → length (goal_at goals g).observe ≤ length (flat_map (λ (goal : Goal). goal.observe) goals)
observes_less [] g lt = absurd (omega (arith, lt))
observes_less (goal ∷ goals) zero lt =
    let all = length-append goal.observe (flat_map (λ (own : Goal). own.observe) goals) in
    omega (arith, all)
observes_less (goal ∷ goals) (suc g) lt =
    let all = length-append goal.observe (flat_map (λ (own : Goal). own.observe) goals) in
    omega (arith, all, observes_less goals g (omega (arith, lt)))

-- its observation points are points of the circuit
pub goal_fits : (c : Circuit) (points : Points) (g : ℕ) → ArePointsFor c points → g < length points.goals → ArePointsFor c (observing (goal_at points.goals g).observe)
goal_fits c points g fit lt =
    let goal : Goal = goal_at points.goals g in
    let own : IsGoalFor c goal = fit.goals g _ lt in
    let alone : Goal = record { name = []; ftti = None; observe = goal.observe } in
    record {
      goals = All-cons (IsGoalFor c) alone [] (record { nets = own.nets; once = own.once; interval = tt }) (All-nil (IsGoalFor c));
      names = refl;
      few_goals = omega arith;
      alarm = λ i d inside. absurd (omega (arith, inside));
      alarm_once = λ i j x at_i at_j. let within : i < 0 = slice_get_within [] i x at_i in absurd (omega (arith, within));
      few = omega (arith, ap length (append-nil goal.observe), observes_less points.goals g lt, fit.few);
    }
