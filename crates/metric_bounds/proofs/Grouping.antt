-- The lines of `progress`, written group by group, are the lines in a row.
use Rattle.std.proofs.Common.{◌≡◌, Bool, true, false, List, [], ◌∷◌, ◌++◌, append_assoc, length, refl, ap, ◌∙◌}
use Rattle.std.specs.Prelude.{Option, Some, None, option_map, codes, nat_lt, ℕ}
use Rattle.metric_sums.specs.declared.Fraction.{Fraction}
use Rattle.metric_sums.specs.Metrics.{lfm_target, meets, pmhf_target, spfm_target, term}
use Rattle.fm_base.specs.Names.{Bytes}
use Rattle.fm_base.specs.Text.{line}
use Rattle.campaign_plan.specs.Analysis.{Analysis, batch_count}
use Rattle.campaign_plan.specs.Batches.{Entry, total}
use Rattle.metric_bounds.specs.declared.Ends.{Ends}
use Rattle.metric_bounds.specs.Bounds.{end_sums, lfm_ends, ratio_standing, standing, standing_of, term_standing}
use Rattle.metric_bounds.specs.Progress.{progress, stands}
use Rattle.metric_bounds.specs.Steps.{bound_lines, ends_line, greatest_term, judged_lines, least_term, share_line, spfm_permanent_ends, spfm_transient_ends, standing_line, standing_lines, standing_word, term_line}

eleven_lines : (a b c d e f g h i j k : Bytes) → (a ++ b ++ c) ++ (d ++ e ++ f ++ g) ++ (h ++ i ++ j ++ k) ≡ a ++ b ++ c ++ d ++ e ++ f ++ g ++ h ++ i ++ j ++ k
eleven_lines a b c d e f g h i j k = simp append_assoc refl

-- how a target stands, in a word

word_of_both : (worst best : Bool) → standing_word (Some (standing worst best)) ≡ stands (Some worst) (Some best)
word_of_both true best = refl
word_of_both false true = refl
word_of_both false false = refl

word_of_ratios : (percent : ℕ) (least greatest : Option Fraction)
    → standing_word (ratio_standing percent least greatest) ≡ stands (option_map (meets percent) least) (option_map (meets percent) greatest)
word_of_ratios percent (Some least) (Some greatest) = word_of_both (meets percent least) (meets percent greatest)
word_of_ratios percent (Some least) None = refl
word_of_ratios percent None greatest = refl

target : Bytes → Bytes → Bytes
target label word = line (codes "target" ∷ label ∷ word ∷ [])

ratio_target : (label : Bytes) (percent : ℕ) (ends : Ends)
    → standing_line label (standing_of percent ends) ≡ target label (stands (option_map (meets percent) ends.least) (option_map (meets percent) ends.greatest))
unfolding target
ratio_target label percent ends = ap (target label) (word_of_ratios percent ends.least ends.greatest)

pub progress_in_groups : (p : Analysis) (entries : List Entry)
    → judged_lines (length entries) (batch_count p) (total p entries) (end_sums p entries).best ++ bound_lines (end_sums p entries)
    ++ standing_lines p.settings.asil (end_sums p entries) ≡ progress p entries
unfolding progress judged_lines bound_lines standing_lines target
progress_in_groups p entries =
    let s = end_sums p entries in
    let asil = p.settings.asil in
    let a = share_line (codes "rows") (length entries) (batch_count p) in
    let b = share_line (codes "judged permanent") (total p entries).permanent_all s.best.permanent_all in
    let c = share_line (codes "judged transient") (total p entries).transient_all s.best.transient_all in
    let d = ends_line (codes "spfm permanent") (spfm_permanent_ends s) in
    let e = ends_line (codes "spfm transient") (spfm_transient_ends s) in
    let f = ends_line (codes "lfm") (lfm_ends s) in
    let g = term_line (least_term s) (greatest_term s) in
    let permanent = ratio_target (codes "spfm permanent") (spfm_target asil) (spfm_permanent_ends s) in
    let transient = ratio_target (codes "spfm transient") (spfm_target asil) (spfm_transient_ends s) in
    let latent = ratio_target (codes "lfm") (lfm_target asil) (lfm_ends s) in
    let limit = ap (target (codes "term")) (word_of_both (nat_lt (term s.worst) (pmhf_target asil)) (nat_lt (term s.best) (pmhf_target asil))) in
    eleven_lines a b c d e f g
    (standing_line (codes "spfm permanent") (standing_of (spfm_target asil) (spfm_permanent_ends s)))
    (standing_line (codes "spfm transient") (standing_of (spfm_target asil) (spfm_transient_ends s)))
    (standing_line (codes "lfm") (standing_of (lfm_target asil) (lfm_ends s)))
    (standing_line (codes "term") (Some (term_standing asil s)))
    ∙ (λ n. a ++ b ++ c ++ d ++ e ++ f ++ g ++ permanent n ++ transient n ++ latent n ++ limit n)
