-- What the text of `always` promises of every workload.
use Rattle.std.specs.Prelude.{◌≡◌, ◌+◌, ◌<◌, ◌≤◌, ℕ, true, false, not, ◌&&◌, List, [], ◌∷◌, ◌++◌, All, Contains, Option, Some, None, codes}
use Rattle.std.specs.List.{slice_get}
use Rattle.alarm_points.specs.PointsFile.{observed}
use Rattle.alarm_points.specs.declared.Goal.{Goal}
use Rattle.always_answers.specs.Answers.{AreAnswers}
use Rattle.always_answers.specs.Nets.{is_of_part}
use Rattle.always_answers.specs.declared.answers.PartAnswer.TheVariants.{Whole}
use Rattle.circuit.specs.Value.{bit_at}
use Rattle.claim_search.specs.Hypotheses.{nowhere}
use Rattle.coverage_claim.specs.Laws.{with_window}
use Rattle.reach.specs.Paths.{ActsOn}
use Rattle.always_answers.specs.declared.answers.Answers.{Answers}
use Rattle.campaign_plan.specs.Analysis.{Analysis, all_faults, fault_count, fault_numbered, part_count}
use Rattle.campaign_plan.specs.Danger.{differs, is_dangerous}
use Rattle.circuit.specs.Order.{IsOrder}
use Rattle.circuit.specs.Sound.{IsNet, IsNetlist}
use Rattle.circuit.specs.declared.parts.Fault.{Fault}
use Rattle.circuit.specs.declared.parts.NetId.{NetId}
use Rattle.claim_laws.specs.Laws.{FitsIn, IsLeftOpen}
use Rattle.claim_laws.specs.Metrics.{IsAtLeast, true_sums}
use Rattle.claim_laws.specs.Runs.{AreAdmitted}
use Rattle.coverage_claim.specs.Claim.{Claim}
use Rattle.fm_base.specs.Names.{Bytes}
use Rattle.fm_base.specs.Text.{line}
use Rattle.fmeda_report.specs.Report.{true_report}
use Rattle.fmeda_report.specs.Words.{fraction_word}
use Rattle.metric_sums.specs.Metrics.{spfm_permanent, spfm_target, spfm_transient}
use Rattle.metric_sums.specs.declared.Fraction.{Fraction}
use Rattle.metric_sums.specs.declared.Sums.{Sums}
use Rattle.workload.specs.Runs.{cycles_of, is_mission}
use Rattle.workload.specs.declared.run.Run.{Run}
use Rattle.always.specs.Text.{always_text, least_line}
use Rattle.always.specs.Verdict.{Terms, verdict_at}
use Rattle.always.specs.declared.verdict.Verdict.{Verdict}
use Rattle.always.specs.declared.verdict.Verdict.TheVariants.{NoPath, Alarmed, Early}

-- ---- what is supposed

-- what is asked of a plan, where nothing is done anywhere; it doesn't depend on the plan's runs
abbrev pub claim_of : Analysis → Terms → Claim
claim_of p terms = record {
  circuit = p.circuit;
  points = p.points;
  held = terms.held;
  from = terms.from;
  region = nowhere;
  window = terms.window;
  ahead = terms.ahead;
  apart = λ latch golden faulty. true;
}

-- netlist, order, ordered, nets: a netlist without a loop, and points that are nets of it
-- settled: each held input has its later value from the first cycle on
-- fits: no goal is violated before the window ends
pub record AreTermsFor (p : Analysis) (terms : Terms) : Type 0 where
  pub netlist : IsNetlist p.circuit
  pub order : List NetId
  pub ordered : IsOrder p.circuit order
  pub nets : All (IsNet p.circuit) (observed p.points)
  pub settled : All (λ h. h.from ≤ terms.from) terms.held
  pub fits : FitsIn (claim_of p terms) p.settings.ftti

-- THE RUNS ARE AS SUPPOSED: each of the mission has the first cycle, keeps the held inputs, and raises no alarm without a fault from that cycle on
abbrev pub AreAsSupposed : Analysis → Terms → Type 0
AreAsSupposed p terms = AreAdmitted (claim_of p terms) p.runs

-- THE ANSWERS ARE RIGHT for the faults of the plan, by whatever numbers of parts
abbrev pub AreRight : Analysis → Terms → (ℕ → ℕ) → Answers → Type 0
AreRight p terms part_of answers = AreAnswers (claim_of p terms) (all_faults p) part_of (part_count p) answers

-- a cycle before the first one that is spoken of, or one of the last of a run, as many as the window and those ahead
abbrev pub IsFirst : Terms → Run → ℕ → Type 0
IsFirst terms run t = t < terms.from

abbrev pub IsLast : Terms → Run → ℕ → Type 0
IsLast terms run t = cycles_of run ≤ t + terms.window + terms.ahead

-- in such cycles of the runs of the mission no observation net differs by the fault
abbrev pub IsSameIn : (Run → ℕ → Type 0) → Analysis → Fault → Type 0
IsSameIn when p fault = (run : Run) → Contains p.runs run → is_mission run.kind ≡ true → (goal : Goal) → Contains p.points.goals goal
    → (t : ℕ) → t < cycles_of run → when run t → differs p.circuit goal (fault ∷ []) run t ≡ false

-- ---- the faults

-- how fault i stands
abbrev pub stands : Analysis → Terms → Answers → ℕ → Verdict
stands p terms answers i = verdict_at p terms.from answers.faults.items i

-- alone it is dangerous in no run of the plan
abbrev pub IsHarmless : Analysis → Fault → Type 0
IsHarmless p fault = is_dangerous p.circuit p.points p.settings.ftti p.runs (fault ∷ []) ≡ false

-- NO PATH: in no runs at all
abbrev pub NoPathIsHarmless : Type 0
NoPathIsHarmless = (p : Analysis) (terms : Terms) (part_of : ℕ → ℕ) (answers : Answers) → AreTermsFor p terms → AreRight p terms part_of answers
    → (i : ℕ) → i < fault_count p → stands p terms answers i ≡ NoPath → IsHarmless p (fault_numbered p i)

-- ALARMED: in no runs that are as supposed, but by a difference in the last cycles of one
abbrev pub AlarmedIsHarmless : Type 0
AlarmedIsHarmless = (p : Analysis) (terms : Terms) (part_of : ℕ → ℕ) (answers : Answers) → AreTermsFor p terms → AreRight p terms part_of answers → AreAsSupposed p terms
    → (i : ℕ) → i < fault_count p → stands p terms answers i ≡ Alarmed → IsSameIn (IsLast terms) p (fault_numbered p i) → IsHarmless p (fault_numbered p i)

-- EARLY: or by one before the first cycle
abbrev pub EarlyIsHarmless : Type 0
EarlyIsHarmless = (p : Analysis) (terms : Terms) (part_of : ℕ → ℕ) (answers : Answers) → AreTermsFor p terms → AreRight p terms part_of answers → AreAsSupposed p terms
    → (i : ℕ) → i < fault_count p → stands p terms answers i ≡ Early → IsSameIn (IsLast terms) p (fault_numbered p i) → IsSameIn (IsFirst terms) p (fault_numbered p i)
    → IsHarmless p (fault_numbered p i)

-- ---- the parts

-- A PART THAT STANDS WHOLE, with a window: whatever goes wrong in its nets that aren't open alone, in any number of them at once, it is dangerous in runs
-- that are as supposed only by a difference before the first cycle, or in the last cycles of a run by that window
abbrev pub WholePartIsCovered : Type 0
WholePartIsCovered = (p : Analysis) (terms : Terms) (part_of : ℕ → ℕ) (answers : Answers) → AreTermsFor p terms → AreRight p terms part_of answers → AreAsSupposed p terms
    → (k few window : ℕ) → slice_get answers.parts.items k ≡ Some (Whole few window)
    → (faults : List Fault) → All (λ fault. (net : NetId) → ActsOn p.circuit net fault → (is_of_part p.circuit part_of k net.0 && not (bit_at answers.open.items net.0)) ≡ true) faults
    → is_dangerous p.circuit p.points p.settings.ftti p.runs faults ≡ true → IsLeftOpen (with_window (claim_of p terms) window) faults p.runs

-- ---- the text

-- the lines stand in the text, behind the end of a line
pub record Prints (text lines : Bytes) : Type 0 where
  pub before : Bytes
  pub after : Bytes
  pub is : text ≡ before ++ 10 ∷ [] ++ lines ++ after

-- a metric of the plan's report is at least what was printed; where nothing was, it has no value
abbrev pub HoldsLeast : (Sums → Option Fraction) → Analysis → Option Fraction → Type 0
HoldsLeast metric p None = metric (true_sums p) ≡ None
HoldsLeast metric p (Some least) = IsAtLeast metric (true_sums p) least

-- told: the text tells of each metric how much it is at least, where differences count from this cycle on
-- reported: the report tells the metrics
-- and each is at least that, and meets each target that this meets
pub record HoldsSpfm (p : Analysis) (since : ℕ) (text : Bytes) : Type 0 where
  pub permanent : Option Fraction
  pub transient : Option Fraction
  pub told : Prints text
      (least_line (codes "permanent") since (spfm_target p.settings.asil) permanent ++ least_line (codes "transient") since (spfm_target p.settings.asil) transient)
  pub reported : Prints (true_report p)
      (line (codes "spfm permanent" ∷ fraction_word (spfm_permanent (true_sums p)) ∷ []) ++ line (codes "spfm transient" ∷ fraction_word (spfm_transient (true_sums p)) ∷ []))
  pub permanent_holds : HoldsLeast spfm_permanent p permanent
  pub transient_holds : HoldsLeast spfm_transient p transient

-- no fault that is alarmed differs in the last cycles of a run
abbrev pub EndsSame : Analysis → Terms → Answers → Type 0
EndsSame p terms answers = (i : ℕ) → i < fault_count p → stands p terms answers i ≡ Alarmed → IsSameIn (IsLast terms) p (fault_numbered p i)

-- nor does one that is early, in these or before the first cycle
abbrev pub StartsSame : Analysis → Terms → Answers → Type 0
StartsSame p terms answers = (i : ℕ) → i < fault_count p → stands p terms answers i ≡ Early
    → IsSameIn (IsLast terms) p (fault_numbered p i) × IsSameIn (IsFirst terms) p (fault_numbered p i)

-- THE PRINTED SPFM HOLDS, since cycle 0: in each plan whose runs are as supposed, and end without a difference by an alarmed fault
abbrev pub PrintedSpfmHolds : Type 0
PrintedSpfmHolds = (p : Analysis) (terms : Terms) (part_of : ℕ → ℕ) (answers : Answers) → AreTermsFor p terms → AreRight p terms part_of answers → AreAsSupposed p terms
    → EndsSame p terms answers → HoldsSpfm p 0 (always_text p terms answers)

-- AND SINCE THE FIRST CYCLE: where nothing differs before it
abbrev pub PrintedLaterSpfmHolds : Type 0
PrintedLaterSpfmHolds = (p : Analysis) (terms : Terms) (part_of : ℕ → ℕ) (answers : Answers) → AreTermsFor p terms → AreRight p terms part_of answers → AreAsSupposed p terms
    → EndsSame p terms answers → StartsSame p terms answers → HoldsSpfm p terms.from (always_text p terms answers)

-- THE TEXT SPEAKS OF NO WORKLOAD: it is the same whatever the runs of the plan
abbrev pub with_runs : Analysis → List Run → Analysis
with_runs p runs = record p { runs = runs }

abbrev pub TextIsOfNoRuns : Type 0
TextIsOfNoRuns = (p : Analysis) (runs : List Run) (terms : Terms) (answers : Answers) → always_text (with_runs p runs) terms answers ≡ always_text p terms answers
