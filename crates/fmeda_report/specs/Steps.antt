-- Shapes of private steps: the faults of a part, and the lines of a report in the groups in which they are written. Nothing public cites them.
use Rattle.std.specs.Prelude.{ℕ, Bool, ◌||◌, List, [], ◌∷◌, ◌++◌, filter, Some, ◌==◌, codes, decimal}
use Rattle.metric_sums.specs.declared.Class.{Class}
use Rattle.metric_sums.specs.declared.Class.TheVariants.{Latent}
use Rattle.metric_sums.specs.declared.Sums.{Sums}
use Rattle.metric_sums.specs.declared.Targets.{Targets}
use Rattle.metric_sums.specs.Classes.{is_class, is_danger}
use Rattle.metric_sums.specs.Metrics.{spfm_permanent, spfm_transient, lfm, term}
use Rattle.fm_base.specs.Lists.{below}
use Rattle.fm_base.specs.Names.{Bytes}
use Rattle.fm_base.specs.Text.{line}
use Rattle.campaign_plan.specs.Analysis.{Analysis, fault_count, fault_numbered, part_of}
use Rattle.fmeda_report.specs.Words.{fraction_word, target_word}

-- the lines of the five sums
unfoldable pub sum_lines : Sums → Bytes
sum_lines s =
    line (codes "permanent" ∷ codes "all" ∷ decimal s.permanent_all ∷ codes "danger" ∷ decimal s.permanent_danger ∷ codes "latent" ∷ decimal s.latent ∷ [])
    ++ line (codes "transient" ∷ codes "all" ∷ decimal s.transient_all ∷ codes "danger" ∷ decimal s.transient_danger ∷ [])

-- the lines of the metrics
unfoldable pub ratio_lines : Sums → Bytes
ratio_lines s =
    line (codes "spfm" ∷ codes "permanent" ∷ fraction_word (spfm_permanent s) ∷ [])
    ++ line (codes "spfm" ∷ codes "transient" ∷ fraction_word (spfm_transient s) ∷ [])
    ++ line (codes "lfm" ∷ fraction_word (lfm s) ∷ [])
    ++ line (codes "term" ∷ decimal (term s) ∷ [])

-- the lines of the targets
unfoldable pub target_lines : Targets → Bytes
target_lines t =
    line (codes "target" ∷ codes "spfm" ∷ codes "permanent" ∷ target_word t.spfm_permanent ∷ [])
    ++ line (codes "target" ∷ codes "spfm" ∷ codes "transient" ∷ target_word t.spfm_transient ∷ [])
    ++ line (codes "target" ∷ codes "lfm" ∷ target_word t.lfm ∷ [])
    ++ line (codes "target" ∷ codes "term" ∷ target_word (Some t.term) ∷ [])

-- a class whose faults the report names
abbrev pub names_faults : Class → Bool
names_faults class = is_danger class || is_class class Latent

-- the numbers of the faults of a part
abbrev pub faults_of_part : Analysis → ℕ → List ℕ
faults_of_part p k = filter (λ i. part_of p (fault_numbered p i) == k) (below (fault_count p))
