-- What each fault does in runs that are as supposed, by how it stands.
use Rattle.std.proofs.Common.{◌≡◌, inl, inr, ℕ, zero, suc, ◌+◌, ◌<◌, ◌≤◌, get_or, Bool, true, false, not, List, [], ◌∷◌, length, refl, ap, sym, subst, ◌∙◌, arith}
use Rattle.std.specs.Prelude.{Some, if◌then◌else◌, nat_le}
use Rattle.std.specs.List.{All, slice_get}
use Rattle.std.proofs.lemmas.Bool.{leb-true}
use Rattle.std.proofs.lemmas.Option.{slice_get-get_or}
use Rattle.fm_base.proofs.Tests.{clash, false_of}
use Rattle.always_answers.specs.declared.answers.Answers.{Answers}
use Rattle.campaign_plan.specs.Analysis.{Analysis, all_faults, fault_count, fault_numbered}
use Rattle.campaign_plan.specs.Danger.{differs, is_dangerous}
use Rattle.circuit.specs.declared.parts.Fault.{Fault}
use Rattle.circuit.specs.declared.parts.Fault.TheVariants.{Flip, Pulse, Stuck}
use Rattle.circuit.specs.declared.parts.Latch.{Latch}
use Rattle.claim_laws.specs.Faults.{LieWithin, WaitsUntil}
use Rattle.claim_laws.specs.Laws.{DangerIsLast, DangerIsLeftOpen, LaterDangerIsLast, OneFaultLiesWithin, Stands, UnreachedIsNotDangerous}
use Rattle.claim_laws.specs.Runs.{AreAdmitted, IsAdmitted}
use Rattle.claim_search.specs.Answer.{IsProvedWithSome}
use Rattle.claim_search.specs.Faults.{IsFaultAnswer}
use Rattle.claim_search.specs.Question.{with_pairs, with_region}
use Rattle.claim_search.specs.declared.answer.Answer.TheVariants as answer
use Rattle.claim_search.specs.declared.faults.FaultAnswer.{FaultAnswer}
use Rattle.claim_search.specs.declared.faults.FaultAnswer.TheVariants.{NoPath as NoPathLeads, OfClaim}
use Rattle.coverage_claim.specs.Claim.{Claim, IsProved}
use Rattle.coverage_claim.specs.Region.{Region, region_of}
use Rattle.coverage_claim.specs.Stretch.{Pairs}
use Rattle.alarm_points.specs.PointsFile.{observed}
use Rattle.reach.specs.Paths.{CanChangeSome}
use Rattle.workload.specs.Runs.{is_mission}
use Rattle.workload.specs.declared.run.Run.{Run}
use Rattle.always.specs.Laws.{AlarmedIsHarmless, AreAsSupposed, AreRight, AreTermsFor, EarlyIsHarmless, IsFirst, IsHarmless, IsLast, IsSameIn, NoPathIsHarmless, claim_of}
use Rattle.always.specs.Verdict.{Terms, answer_of, verdict_for, waits}
use Rattle.always.specs.declared.verdict.Verdict.{Verdict}
use Rattle.always.specs.declared.verdict.Verdict.TheVariants.{NoPath, Alarmed, Early, Open}

-- the answer to a fault of the plan is right
pub right_at : (p : Analysis) (terms : Terms) (part_of : ℕ → ℕ) (answers : Answers) → AreRight p terms part_of answers → (i : ℕ) → i < fault_count p
    → IsFaultAnswer p.circuit (claim_of p terms) (fault_numbered p i) (answer_of answers.faults.items i)
right_at p terms part_of answers right i lt =
    let within : i < length answers.faults.items = omega (arith, lt, right.fault_count) in
    right.faults_are i (fault_numbered p i) (answer_of answers.faults.items i) (slice_get-get_or (all_faults p) i _ lt) (slice_get-get_or answers.faults.items i _ within)

-- a run is admitted whatever the region, the pairs and the window
pub admitted_again : (claim : Claim) (region : Region) (pairs : Latch → Pairs) (window : ℕ) (runs : List Run) → AreAdmitted claim runs
    → AreAdmitted (record claim { region = region; apart = pairs; window = window }) runs
admitted_again claim region pairs window runs all i d lt mission =
    let own : IsAdmitted claim (get_or runs i d) = all i d lt mission in
    record { lasts = own.lasts; held = own.held; quiet = own.quiet }

one_all : {X : Type 0} (P : X → Type 0) (x : X) → P x → All P (x ∷ [])
one_all P x own zero d lt = own
one_all P x own (suc k) d lt = absurd (omega (arith, lt))

-- a fault that waits does nothing before
waits_until : (from : ℕ) (fault : Fault) → waits from fault ≡ true → WaitsUntil from fault
waits_until from (Stuck n value) e = absurd (cc)
waits_until from (Flip l cycle) e = leb-true from cycle e
waits_until from (Pulse n cycle) e = leb-true from cycle e

module _ (p : Analysis) (terms : Terms) (fit : AreTermsFor p terms) (fault : Fault) where
  abbrev asked : (Latch → Pairs) → Claim
  asked pairs = with_pairs (with_region (claim_of p terms) (region_of p.circuit fault)) pairs

  stands_of : (proof : IsProvedWithSome (with_region (claim_of p terms) (region_of p.circuit fault))) → Stands (asked proof.0) fit.order
  stands_of proof = record { netlist = fit.netlist; ordered = fit.ordered; settled = fit.settled; proved = proof.1 }

  -- no path
  pub path_none : UnreachedIsNotDangerous → (answer : FaultAnswer) → IsFaultAnswer p.circuit (claim_of p terms) fault answer → verdict_for terms.from fault answer ≡ NoPath → IsHarmless p fault
  path_none unreached NoPathLeads right e = unreached p.circuit p.points fit.netlist fit.nets (fault ∷ []) (one_all (λ (f : Fault). ¬ (CanChangeSome p.circuit f (observed p.points))) fault right) p.settings.ftti p.runs
  path_none unreached (OfClaim answer.Alarmed) right e = absurd (cc)
  path_none unreached (OfClaim answer.Early) right e = absurd (either (waits terms.from fault) e)
    where
      either : (b : Bool) → (if b then Alarmed else Early) ≡ NoPath → ⊥
      either true h = cc
      either false h = cc
  path_none unreached (OfClaim answer.Open) right e = absurd (cc)
  path_none unreached (OfClaim answer.NoRuns) right e = absurd (cc)

  module _ (one : OneFaultLiesWithin) (supposed : AreAsSupposed p terms) (same : IsSameIn (IsLast terms) p fault) where
    -- an alarm comes
    pub alarm_comes : DangerIsLast → LaterDangerIsLast → (answer : FaultAnswer) → IsFaultAnswer p.circuit (claim_of p terms) fault answer → verdict_for terms.from fault answer ≡ Alarmed
        → IsHarmless p fault
    alarm_comes last later NoPathLeads right e = absurd (cc)
    alarm_comes last later (OfClaim answer.Alarmed) right e =
        let proof = right.1.0 in
        false_of (is_dangerous p.circuit p.points p.settings.ftti p.runs (fault ∷ [])) (λ danger.
        let found = last (asked proof.0) fit.order (stands_of proof) right.1.1 (fault ∷ []) (one p.circuit fault) p.settings.ftti fit.fits p.runs
        (admitted_again (claim_of p terms) (region_of p.circuit fault) proof.0 terms.window p.runs supposed) danger in
        clash (differs p.circuit found.0.goal (fault ∷ []) found.0.run found.0.outside.t) found.0.outside.differs_at
        (same found.0.run found.0.is_of found.0.mission found.0.goal found.0.goal_of found.0.outside.t found.0.outside.within found.2))
    alarm_comes last later (OfClaim answer.Early) right e =
        let proof = right.1.0 in
        false_of (is_dangerous p.circuit p.points p.settings.ftti p.runs (fault ∷ [])) (λ danger.
        let found = later (asked proof.0) fit.order (stands_of proof) fit.nets (fault ∷ []) (one p.circuit fault)
        (one_all (WaitsUntil terms.from) fault (waits_until terms.from fault (waiting (waits terms.from fault) e))) p.settings.ftti fit.fits p.runs
        (admitted_again (claim_of p terms) (region_of p.circuit fault) proof.0 terms.window p.runs supposed) danger in
        clash (differs p.circuit found.0.goal (fault ∷ []) found.0.run found.0.outside.t) found.0.outside.differs_at
        (same found.0.run found.0.is_of found.0.mission found.0.goal found.0.goal_of found.0.outside.t found.0.outside.within found.2))
      where
        waiting : (b : Bool) → (if b then Alarmed else Early) ≡ Alarmed → b ≡ true
        waiting true h = refl
        waiting false h = absurd (cc)
    alarm_comes last later (OfClaim answer.Open) right e = absurd (cc)
    alarm_comes last later (OfClaim answer.NoRuns) right e = absurd (cc)

    -- an alarm comes from the first cycle on
    pub alarm_comes_later : DangerIsLeftOpen → IsSameIn (IsFirst terms) p fault → (answer : FaultAnswer) → IsFaultAnswer p.circuit (claim_of p terms) fault answer
        → verdict_for terms.from fault answer ≡ Early → IsHarmless p fault
    alarm_comes_later left first NoPathLeads right e = absurd (cc)
    alarm_comes_later left first (OfClaim answer.Alarmed) right e = absurd (cc)
    alarm_comes_later left first (OfClaim answer.Early) right e =
        let proof = right.1.0 in
        false_of (is_dangerous p.circuit p.points p.settings.ftti p.runs (fault ∷ [])) (λ danger.
        let found = left (asked proof.0) fit.order (stands_of proof) (fault ∷ []) (one p.circuit fault) p.settings.ftti fit.fits p.runs
        (admitted_again (claim_of p terms) (region_of p.circuit fault) proof.0 terms.window p.runs supposed) danger in
        clash (differs p.circuit found.goal (fault ∷ []) found.run found.outside.t) found.outside.differs_at
        (elim found.outside.outside [
          | inl early ↦ first found.run found.is_of found.mission found.goal found.goal_of found.outside.t found.outside.within early
          | inr late ↦ same found.run found.is_of found.mission found.goal found.goal_of found.outside.t found.outside.within late
        ]))
    alarm_comes_later left first (OfClaim answer.Open) right e = absurd (cc)
    alarm_comes_later left first (OfClaim answer.NoRuns) right e = absurd (cc)

pub no_path : UnreachedIsNotDangerous → NoPathIsHarmless
no_path unreached p terms part_of answers fit right i lt e =
    path_none p terms fit (fault_numbered p i) unreached (answer_of answers.faults.items i) (right_at p terms part_of answers right i lt) e

pub alarmed : OneFaultLiesWithin → DangerIsLast → LaterDangerIsLast → AlarmedIsHarmless
alarmed one last later p terms part_of answers fit right supposed i lt e same =
    alarm_comes p terms fit (fault_numbered p i) one supposed same last later (answer_of answers.faults.items i) (right_at p terms part_of answers right i lt) e

pub early : OneFaultLiesWithin → DangerIsLeftOpen → EarlyIsHarmless
early one left p terms part_of answers fit right supposed i lt e same first =
    alarm_comes_later p terms fit (fault_numbered p i) one supposed same left first (answer_of answers.faults.items i) (right_at p terms part_of answers right i lt) e
