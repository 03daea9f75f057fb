-- WHAT A RUN CONTRADICTS isn't proved.
use Rattle.std.proofs.Common.{◌≡◌, inl, inr, ℕ, suc, ◌≤◌, Bool, true, false, not, ◌&&◌, List, [], ◌∷◌, get_or, refl, ap, sym, subst, ◌∙◌, arith}
use Rattle.std.specs.Prelude.{All, Contains, Some}
use Rattle.std.specs.List.{flat_map, list_any}
use Rattle.std.proofs.lemmas.List.Folds.{list_any-append, list_any_at}
use Rattle.circuit.specs.declared.parts.Fault.{Fault}
use Rattle.circuit.specs.declared.parts.Latch.{Latch}
use Rattle.circuit.specs.declared.parts.NetId.{NetId}
use Rattle.circuit.specs.Circuit.{Circuit}
use Rattle.circuit.specs.Order.{IsOrder}
use Rattle.circuit.specs.Sound.{IsNetlist}
use Rattle.circuit.specs.Trace.{trace}
use Rattle.workload.specs.declared.run.Kind.TheVariants.{Mission}
use Rattle.workload.specs.declared.run.Run.{Run}
use Rattle.alarm_points.specs.declared.Goal.{Goal}
use Rattle.alarm_points.specs.declared.Points.{Points}
use Rattle.campaign_plan.specs.Danger.{is_raised}
use Rattle.coverage_claim.specs.Claim.{Claim}
use Rattle.coverage_claim.specs.Largest.{IsProvedSimply}
use Rattle.coverage_claim.specs.Region.{region_of}
use Rattle.coverage_claim.specs.Stretch.{Pairs, held_at}
use Rattle.coverage_claim.specs.declared.parts.Held.{Held}
use Rattle.coverage_claim.proofs.Lasting.{simply}
use Rattle.claim_laws.specs.Faults.{LieWithin}
use Rattle.claim_laws.specs.Laws.{AlarmComes, AlarmsCome, OneFaultLiesWithin, Stands}
use Rattle.claim_laws.specs.Runs.{IsAdmitted}
use Rattle.claim_search.specs.Answer.{IsNeverProvedSimply}
use Rattle.claim_search.specs.Question.{IsPosed, with_pairs, with_region}
use Rattle.claim_search.specs.declared.question.Posed.{Posed}
use Rattle.fm_base.specs.Lists.{same_bit}
use Rattle.fm_base.proofs.Tests.{and_both, clash, false_of, or_cases}
use Rattle.counterexamples.specs.Contradicted.{AreContradicted, Contradicts, some_differs, some_raised}

-- a goal of which some observation net passes a test, where one of all goals does
goal_of : (test : NetId → Bool) (goals : List Goal) → list_any test (flat_map (λ (goal : Goal). goal.observe) goals) ≡ true → (goal : Goal) × Contains goals goal × (list_any test goal.observe ≡ true)
goal_of test [] e = absurd (cc)
goal_of test (goal ∷ goals) e =
    elim (or_cases (list_any test goal.observe) (list_any test (flat_map (λ (other : Goal). other.observe) goals)) (sym (list_any-append test goal.observe (flat_map (λ (other : Goal). other.observe) goals)) ∙ e))
    as (λ _. (found : Goal) × Contains (goal ∷ goals) found × (list_any test found.observe ≡ true)) [
      | inl here ↦ (goal, (0, omega arith, refl), here)
      | inr more ↦ (let rest = goal_of test goals more in (rest.0, (suc rest.1.0, omega (arith, rest.1.1), rest.1.2), rest.2))
    ]

-- where some net passes a test
any_says : (test : NetId → Bool) (nets : List NetId) → list_any test nets ≡ true → (net : NetId) × Contains nets net × (test net ≡ true)
any_says test [] e = absurd (cc)
any_says test (net ∷ nets) e = elim (or_cases (test net) (list_any test nets) e) as (λ _. (found : NetId) × Contains (net ∷ nets) found × (test found ≡ true)) [
  | inl here ↦ (net, (0, omega arith, refl), here)
  | inr more ↦ (let rest = any_says test nets more in (rest.0, (suc rest.1.0, omega (arith, rest.1.1), rest.1.2), rest.2))
]

-- where none passes a test, each fails it
none_passes : (test : NetId → Bool) (nets : List NetId) → list_any test nets ≡ false → All (λ net. test net ≡ false) nets
none_passes test nets e k d lt = false_of (test (get_or nets k d)) (λ here. clash (list_any test nets) (list_any_at test nets k d lt here) e)

-- where no alarm net is 1, no alarm is raised
not_raised : (c : Circuit) (points : Points) (x : List Fault) (run : Run) (t : ℕ) → some_raised points.alarm (trace c x run.vectors t) ≡ false → is_raised c points x run t ≡ false
not_raised c points x run t e = false_of (is_raised c points x run t) (λ some.
    let found = any_says (λ (net : NetId). trace c x run.vectors t net.0 && not (trace c [] run.vectors t net.0)) points.alarm some in
    let parts = and_both (trace c x run.vectors t found.0.0) (not (trace c [] run.vectors t found.0.0)) found.2 in
    clash (trace c x run.vectors t found.0.0) parts.0
    (subst (λ (net : NetId). trace c x run.vectors t net.0 ≡ false) found.1.2
    (none_passes (λ (net : NetId). trace c x run.vectors t net.0) points.alarm e found.1.0 found.0 found.1.1)))

module _ (alarms : AlarmsCome) (one_fault : OneFaultLiesWithin) (c : Circuit) (order : List NetId) (p : Posed) (sound : IsNetlist c) (ordered : IsOrder c order) (settled : All (λ h. h.from ≤ p.from) p.held.now)
    (fault : Fault) (claim : Claim) (posed : IsPosed c p claim) where
  -- the run, in the words of the claim
  abbrev run_of : List (List Bool) → Run
  run_of vectors = record { kind = Mission; vectors = vectors }

  abbrev own : (Latch → Pairs) → Claim
  own pairs = with_pairs (with_region claim (region_of c fault)) pairs

  admitted : (pairs : Latch → Pairs) (vectors : List (List Bool)) (t : ℕ) → Contradicts claim.circuit p (fault ∷ []) vectors t → IsAdmitted (own pairs) (run_of vectors)
  admitted pairs vectors t says = record {
    lasts = (let later = says.later in let lasts = says.lasts in let from = posed.from in omega (arith, later, lasts, from));
    held = λ u lt. subst (λ (hs : List Held). All (λ (h : Held). (value : Bool) → held_at h u ≡ Some value → trace claim.circuit [] vectors u h.net.0 ≡ value) hs) (sym posed.held) (says.held u lt);
    quiet = λ u later lt. subst (λ (nets : List NetId). All (λ (net : NetId). trace claim.circuit [] vectors u net.0 ≡ false) nets) (sym posed.alarms)
        (none_passes (λ (net : NetId). trace claim.circuit [] vectors u net.0) p.alarms.now (says.quiet u (let from = posed.from in omega (arith, later, from)) lt));
  }

  stands : (pairs : Latch → Pairs) → IsProvedSimply (own pairs) → Stands (own pairs) order
  stands pairs proof = record {
    netlist = subst IsNetlist (sym posed.circuit) sound;
    ordered = subst (λ (d : Circuit). IsOrder d order) (sym posed.circuit) ordered;
    settled = subst (λ (hs : List Held). All (λ (h : Held). h.from ≤ claim.from) hs) (sym posed.held) (λ k d lt. let it = settled k d lt in let from = posed.from in omega (arith, it, from));
    proved = simply (own pairs) proof;
  }

  within : LieWithin claim.circuit (fault ∷ []) (region_of c fault)
  within = subst (λ (d : Circuit). LieWithin d (fault ∷ []) (region_of c fault)) (sym posed.circuit) (one_fault c fault)

  -- no alarm comes, though by the law of proved claims one does
  none_comes : (pairs : Latch → Pairs) (vectors : List (List Bool)) (t : ℕ) → Contradicts claim.circuit p (fault ∷ []) vectors t → AlarmComes (own pairs) (fault ∷ []) (run_of vectors) t → ⊥
  none_comes pairs vectors t says alarm =
      let early = alarm.early in
      let late = alarm.late in
      let from = posed.from in
      let window = posed.window in
      let silent = says.silent alarm.at (omega (arith, early, from)) (omega (arith, late, window)) in
      clash (is_raised claim.circuit claim.points (fault ∷ []) (run_of vectors) alarm.at) alarm.raised
      (not_raised claim.circuit claim.points (fault ∷ []) (run_of vectors) alarm.at
      (ap (λ (nets : List NetId). some_raised nets (trace claim.circuit (fault ∷ []) vectors alarm.at)) posed.alarms ∙ silent))

  comes : (pairs : Latch → Pairs) (vectors : List (List Bool)) (t : ℕ) → Contradicts claim.circuit p (fault ∷ []) vectors t → IsProvedSimply (own pairs) → AlarmComes (own pairs) (fault ∷ []) (run_of vectors) t
  comes pairs vectors t says proof =
      let goal = goal_of (λ (net : NetId). not (same_bit (trace claim.circuit (fault ∷ []) vectors t net.0) (trace claim.circuit [] vectors t net.0))) claim.points.goals
      (ap (λ (nets : List NetId). some_differs nets (trace claim.circuit [] vectors t) (trace claim.circuit (fault ∷ []) vectors t)) posed.observed ∙ says.differs) in
      let later = says.later in
      let lasts = says.lasts in
      let from = posed.from in
      let window = posed.window in
      let ahead = posed.ahead in
      alarms (own pairs) order (stands pairs proof) (fault ∷ []) within (run_of vectors) (admitted pairs vectors t says) goal.0 goal.1 t (omega (arith, later, from))
      (omega (arith, lasts, window, ahead)) goal.2

  -- WITH NO PAIRS IS IT PROVED SIMPLY that an alarm comes for a fault that is contradicted
  pub never : AreContradicted c p (fault ∷ []) → IsNeverProvedSimply (with_region claim (region_of c fault))
  never found pairs proof =
      let says = subst (λ (d : Circuit). Contradicts d p (fault ∷ []) found.0 found.1) (sym posed.circuit) found.2 in
      none_comes pairs found.0 found.1 says (comes pairs found.0 found.1 says proof)
