-- What `always` prints: what a safety mechanism covers for every workload that holds some inputs, and in which no alarm is raised without a fault
-- from a cycle on. Sources: the residual and single-point faults and the single-point fault metric of ISO 26262-5:2018; the claims are this
-- project's own.
use Rattle.std.specs.Prelude.{ℕ, Bool, true, false, ◌&&◌, List, [], ◌∷◌, ◌++◌, flat_map, filter, length, count_by, Option, Some, None, option_map, if◌then◌else◌, ◌==◌, codes, decimal, slice_index_or}
use Rattle.fm_base.specs.Lists.{below}
use Rattle.fm_base.specs.Names.{Bytes}
use Rattle.fm_base.specs.Text.{line}
use Rattle.circuit.specs.Circuit.{Circuit}
use Rattle.circuit.specs.Names.{net_name}
use Rattle.fault_list.specs.Faults.{fault_name}
use Rattle.metric_sums.specs.declared.Asil.{Asil}
use Rattle.metric_sums.specs.declared.Fraction.{Fraction}
use Rattle.metric_sums.specs.declared.Role.{Role}
use Rattle.metric_sums.specs.declared.Role.TheVariants.{Mission, Mechanism, Other}
use Rattle.metric_sums.specs.declared.Sums.{Sums}
use Rattle.metric_sums.specs.Metrics.{meets, spfm_permanent, spfm_target, spfm_transient}
use Rattle.metric_sums.specs.Words.{asil_word, role_word}
use Rattle.campaign_plan.specs.Analysis.{Analysis, fault_count, fault_numbered, part_count, part_numbered, part_of}
use Rattle.campaign_plan.specs.Weights.{weight}
use Rattle.fmeda_report.specs.Words.{covering_word, fraction_word}
use Rattle.coverage_claim.specs.declared.parts.Held.{Held}
use Rattle.claim_laws.specs.Metrics.{open_sums}
use Rattle.always_answers.specs.declared.answers.Answers.{Answers}
use Rattle.always_answers.specs.declared.answers.PartAnswer.{PartAnswer}
use Rattle.always_answers.specs.declared.answers.PartAnswer.TheVariants.{NoPath as NoPathLeads, Whole, Alone}
use Rattle.always.specs.declared.verdict.Verdict.{Verdict}
use Rattle.always.specs.declared.verdict.Verdict.TheVariants.{NoPath, Alarmed, Early, Open}
use Rattle.always.specs.Verdict.{Terms, is_covered, is_covered_later, is_verdict, verdict_at}

-- ---- what is assumed

-- the line of the sizes and the settings
unfoldable pub sizes_line : Analysis → Bytes
sizes_line p =
    line (codes "nets" ∷ decimal (length p.circuit.drivers) ∷ codes "latches" ∷ decimal (length p.circuit.latches) ∷ codes "faults" ∷ decimal (fault_count p)
    ∷ codes "ftti" ∷ decimal p.settings.ftti ∷ codes "asil" ∷ asil_word p.settings.asil ∷ [])

-- the line of a held input: its later value, from which cycle on it has it, and the value that it has before, if one is given
abbrev pub bit_word : Bool → Bytes
bit_word value = if value then codes "1" else codes "0"

abbrev pub before_words : Option Bool → List Bytes
before_words = elim [ None ↦ [] | Some before ↦ codes "and" ∷ bit_word before ∷ codes "before" ∷ [] ]

abbrev pub held_line : Circuit → Held → Bytes
held_line c h = line (codes "held" ∷ net_name c h.net.0 ∷ bit_word h.value ∷ codes "from" ∷ decimal h.from ∷ before_words h.before)

-- the hypotheses: the held inputs, how long an alarm may take and how many cycles more each run lasts, and a golden run without an alarm
abbrev pub window_line : ℕ → ℕ → Bytes
window_line window ahead = line (codes "window" ∷ decimal window ∷ codes "ahead" ∷ decimal ahead ∷ [])

abbrev pub assumes_line : ℕ → Bytes
assumes_line from = line (codes "assumes no alarm without a fault from cycle" ∷ decimal from ∷ codes "on" ∷ [])

unfoldable pub terms_lines : Circuit → Terms → Bytes
terms_lines c terms = flat_map (held_line c) terms.held ++ window_line terms.window terms.ahead ++ assumes_line terms.from

-- ---- a part

-- whether an alarm comes whatever goes wrong in all of the part's nets at once: in all, in all but some that are open alone, or not; and the
-- least window with which one does, where a path leads out of the part
abbrev pub few_word : ℕ → Bytes
few_word few = if few == 0 then codes "yes" else codes "but " ++ decimal few

abbrev pub whole_word : PartAnswer → Bytes
whole_word NoPathLeads = codes "yes"
whole_word (Whole few window) = few_word few
whole_word Alone = codes "no"

abbrev pub window_word : PartAnswer → Bytes
window_word NoPathLeads = codes "-"
window_word (Whole few window) = decimal window
window_word Alone = codes "-"

abbrev pub part_answer : List PartAnswer → ℕ → PartAnswer
part_answer parts k = slice_index_or parts k Alone

-- the line of a part: how it stands as a whole, and how many of its faults stand in each way
unfoldable pub part_line : Analysis → (ℕ → Verdict) → PartAnswer → ℕ → Bytes
part_line p verdict answer k =
    let own = part_numbered p k in
    let faults = filter (λ i. part_of p (fault_numbered p i) == k) (below (fault_count p)) in
    let count : Verdict → Bytes = λ kind. decimal (count_by (λ i. is_verdict (verdict i) kind) faults) in
    line (codes "part" ∷ own.name ∷ role_word own.role ∷ covering_word own.covered ∷ codes "whole" ∷ whole_word answer ∷ codes "window" ∷ window_word answer
    ∷ codes "faults" ∷ decimal (length faults) ∷ codes "no-path" ∷ count NoPath ∷ codes "alarmed" ∷ count Alarmed ∷ codes "early" ∷ count Early
    ∷ codes "open" ∷ count Open ∷ [])

-- ---- the metrics

-- a target that the least value meets is met; one that it doesn't meet is open
abbrev pub standing_word : Option Bool → Bytes
standing_word = elim [ None ↦ codes "-" | Some met ↦ if met then codes "met" else codes "open" ]

-- a metric is at least this, where differences count from a cycle on
abbrev pub least_line : Bytes → ℕ → ℕ → Option Fraction → Bytes
least_line label since percent least =
    line (codes "spfm" ∷ label ∷ codes "since" ∷ decimal since ∷ codes "at-least" ∷ fraction_word least
    ∷ codes "target" ∷ standing_word (option_map (meets percent) least) ∷ [])

unfoldable pub least_lines : Asil → ℕ → Sums → Bytes
least_lines asil since sums =
    least_line (codes "permanent") since (spfm_target asil) (spfm_permanent sums)
    ++ least_line (codes "transient") since (spfm_target asil) (spfm_transient sums)

-- ---- the faults by name

-- the parts whose faults count in the metrics
abbrev pub counts : Role → Bool
counts = elim [ Mission ↦ true | Mechanism ↦ true | Other ↦ false ]

-- the line of a fault that stands so, and counts
unfoldable pub named_line : Analysis → (ℕ → Verdict) → Verdict → Bytes → ℕ → Bytes
named_line p verdict kind word i =
    if is_verdict (verdict i) kind && counts (part_numbered p (part_of p (fault_numbered p i))).role
    then line (word ∷ fault_name p.circuit (fault_numbered p i) ∷ decimal (weight p i) ∷ []) else []

-- ---- the text

-- THE TEXT of `always`: the hypotheses; each part; SPFM at least, where a difference counts from cycle 0 on, so that early faults are dangerous
-- too, and where it counts from the first cycle on that is spoken of; and the early and the open faults by name
unfoldable pub always_with : Analysis → Terms → (ℕ → Verdict) → List PartAnswer → Bytes
always_with p terms verdict parts =
    line (codes "fmeda-always" ∷ codes "1" ∷ []) ++ sizes_line p ++ terms_lines p.circuit terms
    ++ flat_map (λ k. part_line p verdict (part_answer parts k) k) (below (part_count p))
    ++ least_lines p.settings.asil 0 (open_sums p (λ i. is_covered (verdict i)))
    ++ least_lines p.settings.asil terms.from (open_sums p (λ i. is_covered_later (verdict i)))
    ++ flat_map (named_line p verdict Early (codes "early")) (below (fault_count p))
    ++ flat_map (named_line p verdict Open (codes "open")) (below (fault_count p))
    ++ line (codes "end" ∷ [])

abbrev pub always_text : Analysis → Terms → Answers → Bytes
always_text p terms answers = always_with p terms (verdict_at p terms.from answers.faults.items) answers.parts.items
