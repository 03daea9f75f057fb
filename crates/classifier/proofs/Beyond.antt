-- Where no path leads from faults to points, the points are as in the golden run.
use Rattle.std.proofs.Common.{◌≡◌, ◌+◌, ◌<◌, ◌≤◌, ℕ, zero, suc, Bool, true, false, not, ◌&&◌, List, [], ◌∷◌, Some, None, length, get_or, drop, refl, sym, ◌∙◌, subst, arith}
use Rattle.std.specs.List.{All, Contains, flat_map}
use Rattle.std.specs.Prelude.{Option, ◌==◌, if◌then◌else◌}
use Rattle.std.proofs.lemmas.Bool.{eqb-true}
use Rattle.fm_base.specs.Planes.{bit}
use Rattle.fm_base.proofs.Tests.{not_true}
use Rattle.std.proofs.lemmas.List.{drop_all, drop_more}
use Rattle.std.proofs.lemmas.List.Elements.{All-cons, Contains-append_left, Contains-append_right, Contains-get_or}
use Rattle.std.proofs.lemmas.List.Folds.{list_any_none}
use Rattle.circuit.specs.declared.parts.Fault.{Fault}
use Rattle.circuit.specs.declared.parts.NetId.{NetId}
use Rattle.circuit.specs.Circuit.{Circuit}
use Rattle.circuit.specs.Sound.{IsNet, IsNetlist}
use Rattle.workload.specs.declared.run.Run.{Run}
use Rattle.alarm_points.specs.declared.Goal.{Goal}
use Rattle.alarm_points.specs.declared.Points.{Points}
use Rattle.alarm_points.specs.PointsFile.{observed}
use Rattle.alarm_points.specs.PointsKept.{ArePointsFor}
use Rattle.campaign_plan.specs.Danger.{golden, with_faults}
use Rattle.fm_base.specs.Lists.{same_bit}
use Rattle.lane_words.specs.Loads.{somes}
use Rattle.reach.specs.Paths.{CanChangeSome}
use Rattle.reach.proofs.Unreached.{unreached}
use Rattle.classifier.specs.OutOfReach.{IsDeaf, IsHarmless}
use Rattle.classifier.proofs.Stillness.{not_raised, not_silenced, same_bits}

-- none of these faults can change one of these nets
abbrev pub AreBeyond : Circuit → List NetId → List Fault → Type 0
AreBeyond c goals x = All (λ fault. ¬ (CanChangeSome c fault goals)) x

-- a place that holds no fault, or one that can't
pub beyond_none : (c : Circuit) (goals : List NetId) (faults : List (Option Fault)) (i : ℕ) → i < length faults → get_or faults i None ≡ None
    → AreBeyond c goals (somes (drop (i + 1) faults)) → AreBeyond c goals (somes (drop i faults))
beyond_none c goals faults i lt e rest =
    subst (λ (fs : List (Option Fault)). AreBeyond c goals (somes fs)) (sym (drop_more faults i None lt))
    (subst (λ (f : Option Fault). AreBeyond c goals (somes (f ∷ drop (i + 1) faults))) (sym e) rest)

pub beyond_some : (c : Circuit) (goals : List NetId) (faults : List (Option Fault)) (i : ℕ) (fault : Fault) → i < length faults → get_or faults i None ≡ Some fault
    → ¬ (CanChangeSome c fault goals) → AreBeyond c goals (somes (drop (i + 1) faults)) → AreBeyond c goals (somes (drop i faults))
beyond_some c goals faults i fault lt e cannot rest =
    subst (λ (fs : List (Option Fault)). AreBeyond c goals (somes fs)) (sym (drop_more faults i None lt))
    (subst (λ (f : Option Fault). AreBeyond c goals (somes (f ∷ drop (i + 1) faults))) (sym e)
    (All-cons (λ f. ¬ (CanChangeSome c f goals)) fault (somes (drop (i + 1) faults)) cannot rest))

-- no place is left
pub beyond_all : (c : Circuit) (goals : List NetId) (faults : List (Option Fault)) (i : ℕ) → length faults ≤ i → AreBeyond c goals (somes (drop i faults))
beyond_all c goals faults i past = subst (λ (fs : List (Option Fault)). AreBeyond c goals (somes fs)) (sym (drop_all i faults past)) (λ j d lt. absurd (omega (arith, lt)))

-- a point of a goal is among those of all goals
among : (goals : List Goal) (j : ℕ) (e : Goal) → j < length goals → (net : NetId) → Contains (get_or goals j e).observe net
    → Contains (flat_map (λ (goal : Goal). goal.observe) goals) net
among [] j e less net own = absurd (omega arith)
among (goal ∷ goals) zero e less net own = Contains-append_left goal.observe (flat_map (λ (g : Goal). g.observe) goals) net own
among (goal ∷ goals) (suc j) e less net own =
    Contains-append_right goal.observe (flat_map (λ (g : Goal). g.observe) goals) net (among goals j e (omega (arith, less)) net own)

module _ (c : Circuit) (x : List Fault) (sound : IsNetlist c) where
  as_golden : (goals : List NetId) → All (IsNet c) goals → AreBeyond c goals x → (run : Run) (t : ℕ) → All (λ net. with_faults c x run t net ≡ golden c run t net) goals
  as_golden goals inside none run t i d lt =
      unreached c x sound run.vectors t (get_or goals i d) (inside i d lt)
      (λ j e less found. none j e less (found.0, found.1, (get_or goals i d, Contains-get_or goals i d lt, found.2)))

  -- an alarm that no fault can change
  pub deaf : (points : Points) → ArePointsFor c points → AreBeyond c points.alarm x → IsDeaf c points x
  deaf points fit none = record {
    raise = λ run t.
        list_any_none (λ net. with_faults c x run t net && not (golden c run t net)) points.alarm
        (λ i d lt. not_raised (with_faults c x run t (get_or points.alarm i d)) (golden c run t (get_or points.alarm i d)) (as_golden points.alarm fit.alarm none run t i d lt));
    silence = λ run t.
        list_any_none (λ net. not (with_faults c x run t net) && golden c run t net) points.alarm
        (λ i d lt. not_silenced (with_faults c x run t (get_or points.alarm i d)) (golden c run t (get_or points.alarm i d)) (as_golden points.alarm fit.alarm none run t i d lt));
  }

  -- observation points that no fault can change
  pub harmless : (points : Points) → ArePointsFor c points → AreBeyond c (observed points) x → IsHarmless c points x
  harmless points fit none run t i d lt =
      list_any_none (λ net. not (same_bit (with_faults c x run t net) (golden c run t net))) own
      (λ j e less. same_bits (with_faults c x run t (get_or own j e)) (golden c run t (get_or own j e))
      (as_golden own (fit.goals i d lt).nets (λ k f within found. none k f within (found.0, found.1, (found.2.0, among points.goals i d lt found.2.0 found.2.1, found.2.2))) run t j e less))
    where
      own : List NetId
      own = (get_or points.goals i d).observe

-- one lane more, marked where no path leads from its faults
pub marked_lane : (c : Circuit) (goals : List NetId) (loaded : ℕ → List Fault) (old new lane : ℕ) (reached : Bool)
    → ((k : ℕ) → k < 64 → bit new k ≡ (if k == lane then not reached else bit old k))
    → (reached ≡ false → AreBeyond c goals (loaded lane))
    → ((k : ℕ) → k < 64 → bit old k ≡ true → AreBeyond c goals (loaded k))
    → (k : ℕ) → k < 64 → bit new k ≡ true → AreBeyond c goals (loaded k)
marked_lane c goals loaded old new lane reached put own before k lt marked = by_lane (k == lane) refl (sym (put k lt) ∙ marked)
  where
    by_lane : (b : Bool) → (k == lane) ≡ b → (if b then not reached else bit old k) ≡ true → AreBeyond c goals (loaded k)
    by_lane true same is = subst (λ j. AreBeyond c goals (loaded j)) (sym (eqb-true k lane same)) (own (not_true reached is))
    by_lane false apart is = before k lt is
