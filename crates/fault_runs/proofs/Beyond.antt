-- Where no path leads from faults to nets, these nets are as in the golden run.
use Rattle.std.proofs.Common.{◌≡◌, ◌+◌, ◌<◌, ◌≤◌, ℕ, zero, suc, List, [], ◌∷◌, Some, None, length, get_or, drop, refl, sym, subst, arith}
use Rattle.std.specs.List.{All, Contains, flat_map}
use Rattle.std.specs.Prelude.{Option}
use Rattle.std.proofs.lemmas.List.{drop_all, drop_more}
use Rattle.std.proofs.lemmas.List.Elements.{All-cons, Contains-append_left, Contains-append_right, Contains-get_or}
use Rattle.std.proofs.lemmas.Option.{slice_get_within}
use Rattle.circuit.specs.declared.parts.Fault.{Fault}
use Rattle.circuit.specs.declared.parts.NetId.{NetId}
use Rattle.circuit.specs.Circuit.{Circuit}
use Rattle.circuit.specs.Sound.{IsNet, IsNetlist}
use Rattle.alarm_points.specs.declared.Goal.{Goal}
use Rattle.alarm_points.specs.declared.Points.{Points}
use Rattle.alarm_points.specs.PointsFile.{observed}
use Rattle.alarm_points.specs.PointsKept.{ArePointsFor}
use Rattle.lane_words.specs.Loads.{somes}
use Rattle.reach.specs.Paths.{CanChangeSome}
use Rattle.reach.proofs.Unreached.{unreached}
use Rattle.fault_runs.specs.Whole.{NeverChange, alarm_alone}
use Rattle.testbench.specs.Points.{goal_at}

-- none of these faults can change one of these nets
abbrev pub AreBeyond : Circuit → List NetId → List Fault → Type 0
AreBeyond c nets x = All (λ fault. ¬ (CanChangeSome c fault nets)) x

-- ---- one fault after the other

pub beyond_none : (c : Circuit) (nets : List NetId) (faults : List (Option Fault)) (i : ℕ) → i < length faults → get_or faults i None ≡ None
    → AreBeyond c nets (somes (drop (i + 1) faults)) → AreBeyond c nets (somes (drop i faults))
beyond_none c nets faults i lt e rest =
    subst (λ (fs : List (Option Fault)). AreBeyond c nets (somes fs)) (sym (drop_more faults i None lt))
    (subst (λ (f : Option Fault). AreBeyond c nets (somes (f ∷ drop (i + 1) faults))) (sym e) rest)

pub beyond_some : (c : Circuit) (nets : List NetId) (faults : List (Option Fault)) (i : ℕ) (fault : Fault) → i < length faults → get_or faults i None ≡ Some fault
    → ¬ (CanChangeSome c fault nets) → AreBeyond c nets (somes (drop (i + 1) faults)) → AreBeyond c nets (somes (drop i faults))
beyond_some c nets faults i fault lt e cannot rest =
    subst (λ (fs : List (Option Fault)). AreBeyond c nets (somes fs)) (sym (drop_more faults i None lt))
    (subst (λ (f : Option Fault). AreBeyond c nets (somes (f ∷ drop (i + 1) faults))) (sym e)
    (All-cons (λ f. ¬ (CanChangeSome c f nets)) fault (somes (drop (i + 1) faults)) cannot rest))

pub beyond_all : (c : Circuit) (nets : List NetId) (faults : List (Option Fault)) (i : ℕ) → length faults ≤ i → AreBeyond c nets (somes (drop i faults))
beyond_all c nets faults i past = subst (λ (fs : List (Option Fault)). AreBeyond c nets (somes fs)) (sym (drop_all i faults past)) (λ j d lt. absurd (omega (arith, lt)))

-- ---- what they never change

-- a point of a goal is among those of all goals
among : (goals : List Goal) (j : ℕ) (e : Goal) → j < length goals → (net : NetId) → Contains (get_or goals j e).observe net
    → Contains (flat_map (λ (goal : Goal). goal.observe) goals) net
among [] j e less net own = absurd (omega arith)
among (goal ∷ goals) zero e less net own = Contains-append_left goal.observe (flat_map (λ (g : Goal). g.observe) goals) net own
among (goal ∷ goals) (suc j) e less net own =
    Contains-append_right goal.observe (flat_map (λ (g : Goal). g.observe) goals) net (among goals j e (omega (arith, less)) net own)

module _ (c : Circuit) (x : List Fault) (sound : IsNetlist c) where
  never : (nets : List NetId) (net : NetId) → IsNet c net → Contains nets net → AreBeyond c nets x → NeverChange c x net
  never nets net inside own none run t = unreached c x sound run.vectors t net inside (λ j e less found. none j e less (found.0, found.1, (net, own, found.2)))

  -- the points of a goal
  pub goal_never : (points : Points) → ArePointsFor c points → AreBeyond c (observed points) x → (g : ℕ) → g < length points.goals
      → All (NeverChange c x) (goal_at points.goals g).observe
  goal_never points fit none g lt i d less =
      let none_at : Goal = goal_at [] 0 in
      let nets : List NetId = (get_or points.goals g none_at).observe in
      never (observed points) (get_or nets i d) ((fit.goals g none_at lt).nets i d less) (among points.goals g none_at lt (get_or nets i d) (Contains-get_or nets i d less)) none

  -- an alarm point
  pub alarm_never : (net : NetId) → IsNet c net → AreBeyond c (alarm_alone net).alarm x → NeverChange c x net
  alarm_never net inside none = never (net ∷ []) net inside (Contains-get_or (net ∷ []) 0 net (omega arith)) none

-- a net of the circuit is an alarm point for it
pub alone_fit : (c : Circuit) (net : NetId) → IsNet c net → ArePointsFor c (alarm_alone net)
alone_fit c net inside = record {
  goals = λ i d lt. absurd (omega (arith, lt));
  names = refl;
  few_goals = omega arith;
  alarm = All-cons (IsNet c) net [] inside (λ i d lt. absurd (omega (arith, lt)));
  alarm_once = λ i j x at_i at_j.
      let first : i < 1 = slice_get_within (net ∷ []) i x at_i in
      let second : j < 1 = slice_get_within (net ∷ []) j x at_j in
      omega (arith, first, second);
  few = let one : 1 ≤ 1024 = omega arith in one;
}
