-- The line of a fault, by whether the report names its class.
use Rattle.std.proofs.Common.{◌≡◌, ℕ, true, false, cond, [], ◌∷◌, refl, ap, sym, ◌∙◌}
use Rattle.std.specs.Prelude.{decimal}
use Rattle.metric_sums.specs.declared.Class.{Class}
use Rattle.fm_base.specs.Text.{line}
use Rattle.fm_base.specs.Names.{Bytes}
use Rattle.fault_list.specs.Faults.{fault_name}
use Rattle.campaign_plan.specs.Analysis.{Analysis, fault_numbered}
use Rattle.campaign_plan.specs.Batches.{class_of_fault}
use Rattle.campaign_plan.specs.Weights.{weight}
use Rattle.fmeda_report.specs.Report.{fault_line}
use Rattle.result_file.specs.RowPlanes.{Planes}
use Rattle.fmeda_report.specs.Steps.{names_faults}
use Rattle.metric_sums.specs.Words.{class_word}

-- the line of a fault of this class, named
abbrev pub line_named : Analysis → Class → ℕ → Bytes
line_named p class i = line (class_word class ∷ fault_name p.circuit (fault_numbered p i) ∷ decimal (weight p i) ∷ [])

by_name : (p : Analysis) (planes : Planes) (i : ℕ) → fault_line p planes i ≡ cond (names_faults (class_of_fault p planes i)) (line_named p (class_of_fault p planes i) i) []
unfolding fault_line
by_name p planes i = refl

pub named_line : (p : Analysis) (planes : Planes) (i : ℕ) (class : Class) → class ≡ class_of_fault p planes i → names_faults class ≡ true
    → fault_line p planes i ≡ line_named p class i
named_line p planes i class same named =
    by_name p planes i ∙ ap (λ (k : Class). cond (names_faults k) (line_named p k i) []) (sym same) ∙ ap (λ b. cond b (line_named p class i) []) named

pub unnamed_line : (p : Analysis) (planes : Planes) (i : ℕ) (class : Class) → class ≡ class_of_fault p planes i → names_faults class ≡ false
    → fault_line p planes i ≡ []
unnamed_line p planes i class same other =
    by_name p planes i ∙ ap (λ (k : Class). cond (names_faults k) (line_named p k i) []) (sym same) ∙ ap (λ b. cond b (line_named p class i) []) other
