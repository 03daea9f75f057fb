-- Danger, in the words of campaigns.
use Rattle.std.proofs.Common.{false, ◌≡◌, inl, inr, ℕ, ◌+◌, ◌<◌, ◌≤◌, true, not, List, sym, arith, ◌⊎◌, [], ◌∷◌, ap₂, ◌∙◌}
use Rattle.std.specs.Prelude.{Contains}
use Rattle.std.specs.List.{All}
use Rattle.std.proofs.lemmas.Bool.{cases_lt}
use Rattle.std.proofs.lemmas.List.Elements.{All-contains}
use Rattle.fm_base.specs.Lists.{same_bit}
use Rattle.fm_base.proofs.Tests.{and_both, clash, false_of}
use Rattle.circuit.specs.declared.parts.Fault.{Fault}
use Rattle.circuit.specs.Circuit.{Circuit}
use Rattle.circuit.specs.Sound.{IsNet, IsNetlist}
use Rattle.workload.specs.declared.run.Run.{Run}
use Rattle.workload.specs.Runs.{cycles_of, is_mission}
use Rattle.alarm_points.specs.declared.Goal.{Goal}
use Rattle.alarm_points.specs.declared.Points.{Points}
use Rattle.alarm_points.specs.Interval.{GoesUnalarmed, goes_unalarmed, interval_of}
use Rattle.alarm_points.specs.PointsFile.{observed}
use Rattle.alarm_points.proofs.Unalarmed.{goes_unalarmed-says}
use Rattle.campaign_plan.specs.Analysis.{Analysis}
use Rattle.campaign_plan.specs.Danger.{differs, golden, is_dangerous, is_dangerous_for, is_dangerous_in, is_raised, with_faults}
use Rattle.reach.specs.Paths.{CanChange, CanChangeSome}
use Rattle.reach.proofs.Unreached.{unreached}
use Rattle.coverage_claim.specs.Claim.{Claim, window_of}
use Rattle.claim_laws.specs.Runs.{IsAdmitted}
use Rattle.claim_laws.specs.Laws.{AtOnceIsNotDangerous, DangerIsLast, DangerIsLeftOpen, UnreachedIsNotDangerous, LaterDangerIsLast}
use Rattle.claim_laws.specs.Metrics.{IsClaimed}
use Rattle.coverage_claim.specs.Stretch.{AreSo, Values}
use Rattle.claim_laws.proofs.Finding.{any_says, in_some}
use Rattle.claim_laws.proofs.Alarming.{comes, differ_at, not_early}
use Rattle.claim_laws.proofs.Lying.{one_all}
use Rattle.claim_laws.proofs.Waiting.{same_before}

-- where faults are dangerous: a run of the mission, a goal, and a difference without an alarm
pub record IsIn (c : Circuit) (points : Points) (ftti : ℕ) (runs : List Run) (x : List Fault) : Type 0 where
  pub run : Run
  pub is_of : Contains runs run
  pub mission : is_mission run.kind ≡ true
  pub goal : Goal
  pub goal_of : Contains points.goals goal
  pub unalarmed : GoesUnalarmed (interval_of ftti goal) (cycles_of run) (differs c goal x run) (is_raised c points x run)

pub dangerous_in : (c : Circuit) (points : Points) (ftti : ℕ) (runs : List Run) (x : List Fault) → is_dangerous c points ftti runs x ≡ true → IsIn c points ftti runs x
unfolding is_dangerous goes_unalarmed
dangerous_in c points ftti runs x e =
    let run = any_says (is_dangerous_in c points ftti x) runs e in
    let goal = any_says (is_dangerous_for c points ftti x run.0) points.goals run.2 in
    let parts = and_both (is_mission run.0.kind) (goes_unalarmed (interval_of ftti goal.0) (cycles_of run.0) (differs c goal.0 x run.0) (is_raised c points x run.0)) goal.2 in
    record {
      run = run.0;
      is_of = run.1;
      mission = parts.0;
      goal = goal.0;
      goal_of = goal.1;
      unalarmed = goes_unalarmed-says (interval_of ftti goal.0) (cycles_of run.0) (differs c goal.0 x run.0) (is_raised c points x run.0) parts.1;
    }

pub left_open : DangerIsLeftOpen
left_open claim order stands faults within ftti fits runs admitted e =
    let found = dangerous_in claim.circuit claim.points ftti runs faults e in
    let own : IsAdmitted claim found.run =
    All-contains (λ (run : Run). is_mission run.kind ≡ true → IsAdmitted claim run) runs found.run admitted found.is_of found.mission in
    record {
      run = found.run;
      is_of = found.is_of;
      mission = found.mission;
      goal = found.goal;
      goal_of = found.goal_of;
      outside = record {
        t = found.unalarmed.t;
        within = found.unalarmed.within;
        differs_at = found.unalarmed.differs_at;
        outside = elim (cases_lt found.unalarmed.t claim.from) [
          | inl early ↦ inl early
          | inr from ↦ elim (cases_lt (found.unalarmed.t + claim.window + claim.ahead) (cycles_of found.run)) [
            | inr last ↦ inr last
            | inl ends ↦ (
                let alarm = comes claim order stands faults within found.run own found.goal found.goal_of found.unalarmed.t from ends found.unalarmed.differs_at in
                let short : claim.window ≤ interval_of ftti found.goal =
                All-contains (λ (goal : Goal). claim.window ≤ interval_of ftti goal) claim.points.goals found.goal fits found.goal_of in
                absurd (clash (is_raised claim.circuit claim.points faults found.run alarm.at) alarm.raised
                (found.unalarmed.quiet alarm.at (omega (arith, alarm.late, ends)) (omega (arith, alarm.late, short)))))
          ]
        ];
      };
    }

pub last : DangerIsLast
last claim order stands never faults within ftti fits runs admitted e =
    let found = left_open claim order stands faults within ftti fits runs admitted e in
    let own : IsAdmitted claim found.run =
    All-contains (λ (run : Run). is_mission run.kind ≡ true → IsAdmitted claim run) runs found.run admitted found.is_of found.mission in
    let none : found.outside.t < claim.from → ⊥ =
    λ early. not_early claim order stands faults within found.run own never found.goal found.goal_of found.outside.t early found.outside.differs_at in
    elim (cases_lt found.outside.t claim.from) [
      | inl early ↦ absurd (none early)
      | inr from ↦ (found, from, elim found.outside.outside [ inl early ↦ absurd (none early) | inr late ↦ late ])
    ]

pub later_last : LaterDangerIsLast
later_last claim order stands nets faults within waits ftti fits runs admitted e =
    let found = left_open claim order stands faults within ftti fits runs admitted e in
    let none : found.outside.t < claim.from → ⊥ = λ early.
    (let net = any_says (λ net. not (same_bit (with_faults claim.circuit faults found.run found.outside.t net) (golden claim.circuit found.run found.outside.t net))) found.goal.observe
    found.outside.differs_at in
    let has : Contains (observed claim.points) net.0 = in_some (λ (g : Goal). g.observe) claim.points.goals found.goal net.0 found.goal_of net.1 in
    differ_at (with_faults claim.circuit faults found.run found.outside.t net.0) (golden claim.circuit found.run found.outside.t net.0) net.2
    (sym (same_before claim.circuit stands.netlist claim.from faults waits found.run.vectors found.outside.t net.0.0 early
    (All-contains (IsNet claim.circuit) (observed claim.points) net.0 nets has)))) in
    elim (cases_lt found.outside.t claim.from) [
      | inl early ↦ absurd (none early)
      | inr from ↦ (found, from, elim found.outside.outside [ inl early ↦ absurd (none early) | inr late ↦ late ])
    ]

pub at_once : AtOnceIsNotDangerous
at_once claim order stands never short none faults within ftti runs admitted =
    false_of (is_dangerous claim.circuit claim.points ftti runs faults) (λ e.
    let found = last claim order stands never faults within ftti (λ i d lt. omega (arith, short)) runs admitted e in
    absurd (omega (arith, found.2, short, none, found.0.outside.within)))

-- ---- structure alone

pub no_path : UnreachedIsNotDangerous
no_path c points sound nets faults none ftti runs =
    false_of (is_dangerous c points ftti runs faults) (λ e.
    let found = dangerous_in c points ftti runs faults e in
    let t : ℕ = found.unalarmed.t in
    let net = any_says (λ net. not (same_bit (with_faults c faults found.run t net) (golden c found.run t net))) found.goal.observe found.unalarmed.differs_at in
    let has : Contains (observed points) net.0 = in_some (λ (g : Goal). g.observe) points.goals found.goal net.0 found.goal_of net.1 in
    let free : All (λ fault. ¬ (CanChange c fault net.0)) faults = λ i d lt can. none i d lt (can.0, can.1, (net.0, has, can.2)) in
    differ_at (with_faults c faults found.run t net.0) (golden c found.run t net.0) net.2
    (sym (unreached c faults sound found.run.vectors t net.0 (All-contains (IsNet c) (observed points) net.0 nets has) free)))

-- ---- a fault of a plan

pub not_dangerous : (p : Analysis) → IsNetlist p.circuit → All (IsNet p.circuit) (observed p.points) → (fault : Fault)
    → (¬ (CanChangeSome p.circuit fault (observed p.points))) ⊎ IsClaimed p fault
    → is_dangerous p.circuit p.points p.settings.ftti p.runs (fault ∷ []) ≡ false
not_dangerous p sound nets fault (inl none) =
    no_path p.circuit p.points sound nets (fault ∷ []) (one_all (λ (f : Fault). ¬ (CanChangeSome p.circuit f (observed p.points))) fault none) p.settings.ftti p.runs
not_dangerous p sound nets fault (inr is) =
    ap₂ (λ (c : Circuit) (points : Points). is_dangerous c points p.settings.ftti p.runs (fault ∷ [])) (sym is.circuit) (sym is.points)
    ∙ false_of (is_dangerous is.claim.circuit is.claim.points p.settings.ftti p.runs (fault ∷ []))
    (λ e. is.closed (left_open is.claim is.order is.stands (fault ∷ []) is.within p.settings.ftti is.fits p.runs is.admitted e))
