-- The lines of the sums, the metrics and the targets, written group by group, are the lines in a row.
use Rattle.std.proofs.Common.{◌≡◌, [], ◌∷◌, ◌++◌, append_assoc, refl}
use Rattle.std.specs.Prelude.{Some, codes, decimal}
use Rattle.metric_sums.specs.declared.Asil.{Asil}
use Rattle.metric_sums.specs.declared.Sums.{Sums}
use Rattle.metric_sums.specs.Metrics.{spfm_permanent, spfm_transient, lfm, term, targets_of}
use Rattle.fm_base.specs.Names.{Bytes}
use Rattle.fm_base.specs.Text.{line}
use Rattle.fmeda_report.specs.Report.{metric_lines}
use Rattle.fmeda_report.specs.Steps.{ratio_lines, sum_lines, target_lines}
use Rattle.fmeda_report.specs.Words.{fraction_word, target_word}

ten_lines : (a b c d e f g h i j : Bytes) → (a ++ b) ++ (c ++ d ++ e ++ f) ++ (g ++ h ++ i ++ j) ≡ a ++ b ++ c ++ d ++ e ++ f ++ g ++ h ++ i ++ j
ten_lines a b c d e f g h i j = simp append_assoc refl

pub metrics_in_groups : (asil : Asil) (s : Sums) → sum_lines s ++ ratio_lines s ++ target_lines (targets_of asil s) ≡ metric_lines asil s
unfolding metric_lines sum_lines ratio_lines target_lines
metrics_in_groups asil s =
    ten_lines
    (line (codes "permanent all" ∷ decimal s.permanent_all ∷ codes "danger" ∷ decimal s.permanent_danger ∷ codes "latent" ∷ decimal s.latent ∷ []))
    (line (codes "transient all" ∷ decimal s.transient_all ∷ codes "danger" ∷ decimal s.transient_danger ∷ []))
    (line (codes "spfm permanent" ∷ fraction_word (spfm_permanent s) ∷ []))
    (line (codes "spfm transient" ∷ fraction_word (spfm_transient s) ∷ []))
    (line (codes "lfm" ∷ fraction_word (lfm s) ∷ []))
    (line (codes "term" ∷ decimal (term s) ∷ []))
    (line (codes "target spfm permanent" ∷ target_word (targets_of asil s).spfm_permanent ∷ []))
    (line (codes "target spfm transient" ∷ target_word (targets_of asil s).spfm_transient ∷ []))
    (line (codes "target lfm" ∷ target_word (targets_of asil s).lfm ∷ []))
    (line (codes "target term" ∷ target_word (Some (targets_of asil s).term) ∷ []))
