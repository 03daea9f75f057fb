-- Where the lines of metrics and targets stand in the texts.
use Rattle.std.proofs.Common.{◌≡◌, List, [], ◌∷◌, ◌++◌, append_assoc, append-nil, length, refl}
use Rattle.std.specs.Prelude.{ℕ, Some, option_map, codes, decimal, flat_map, nat_lt}
use Rattle.metric_sums.specs.declared.Asil.{Asil}
use Rattle.metric_sums.specs.declared.Sums.{Sums}
use Rattle.metric_sums.specs.Metrics.{lfm, lfm_target, meets, pmhf_target, spfm_permanent, spfm_target, spfm_transient, term}
use Rattle.fm_base.specs.Lists.{below}
use Rattle.fm_base.specs.Names.{Bytes}
use Rattle.fm_base.specs.Text.{line, spaced}
use Rattle.campaign_plan.specs.Analysis.{Analysis, batch_count, fault_count}
use Rattle.campaign_plan.specs.Batches.{Entry, total}
use Rattle.fmeda_report.specs.Report.{all_sums, fault_line, metric_lines, part_line, report, sizes_line}
use Rattle.result_file.specs.RowPlanes.{Planes}
use Rattle.fmeda_report.specs.Words.{fraction_word, target_word}
use Rattle.metric_bounds.specs.declared.Ends.{Ends}
use Rattle.metric_bounds.specs.declared.EndSums.{EndSums}
use Rattle.metric_bounds.specs.Bounds.{end_sums, lfm_ends, spfm_ends}
use Rattle.metric_bounds.specs.Progress.{progress, stands}
use Rattle.campaign_laws.specs.Prints.{Bounds, Metrics, Prints, Verdicts, bounds_text, metrics_text, verdicts_text}

-- ---- the numbers and words that are printed

abbrev pub metrics_of : Sums → Metrics
metrics_of s = record { spfm_permanent = spfm_permanent s; spfm_transient = spfm_transient s; lfm = lfm s; term = term s }

abbrev pub bounds_of : EndSums → Bounds
bounds_of s = record {
  spfm_permanent = spfm_ends spfm_permanent s;
  spfm_transient = spfm_ends spfm_transient s;
  lfm = lfm_ends s;
  least_term = term s.best;
  greatest_term = term s.worst;
}

abbrev pub verdicts_of : Asil → Sums → Verdicts
verdicts_of asil s = record {
  spfm_permanent = target_word (option_map (meets (spfm_target asil)) (spfm_permanent s));
  spfm_transient = target_word (option_map (meets (spfm_target asil)) (spfm_transient s));
  lfm = target_word (option_map (meets (lfm_target asil)) (lfm s));
  term = target_word (Some (nat_lt (term s) (pmhf_target asil)));
}

-- the word on a percentage, by the ends of its metric
abbrev pub ends_word : ℕ → Ends → Bytes
ends_word percent ends = stands (option_map (meets percent) ends.least) (option_map (meets percent) ends.greatest)

abbrev pub standings_of : Asil → EndSums → Verdicts
standings_of asil s = record {
  spfm_permanent = ends_word (spfm_target asil) (spfm_ends spfm_permanent s);
  spfm_transient = ends_word (spfm_target asil) (spfm_ends spfm_transient s);
  lfm = ends_word (lfm_target asil) (lfm_ends s);
  term = stands (Some (nat_lt (term s.worst) (pmhf_target asil))) (Some (nat_lt (term s.best) (pmhf_target asil)));
}

-- ---- in the report

metrics_inside : (title sizes parts s t a b c d e f g h faults end : Bytes)
    → title ++ sizes ++ parts ++ (s ++ (t ++ 10 ∷ []) ++ a ++ b ++ c ++ d ++ e ++ f ++ g ++ h) ++ faults ++ end
    ≡ (title ++ sizes ++ parts ++ s ++ t) ++ 10 ∷ [] ++ (a ++ b ++ c ++ d) ++ (e ++ f ++ g ++ h ++ faults ++ end)
metrics_inside title sizes parts s t a b c d e f g h faults end = simp append_assoc refl

targets_inside : (title sizes parts s t a b c d e f g h faults end : Bytes)
    → title ++ sizes ++ parts ++ (s ++ t ++ a ++ b ++ c ++ (d ++ 10 ∷ []) ++ e ++ f ++ g ++ h) ++ faults ++ end
    ≡ (title ++ sizes ++ parts ++ s ++ t ++ a ++ b ++ c ++ d) ++ 10 ∷ [] ++ (e ++ f ++ g ++ h) ++ (faults ++ end)
targets_inside title sizes parts s t a b c d e f g h faults end = simp append_assoc refl

module _ (p : Analysis) (planes : Planes) where
  abbrev s : Sums
  s = all_sums p planes

  abbrev title : Bytes
  title = line (codes "fmeda-report" ∷ codes "1" ∷ [])

  abbrev parts : Bytes
  parts = flat_map (part_line p planes) (below (length p.rates.parts))

  abbrev faults : Bytes
  faults = flat_map (fault_line p planes) (below (fault_count p))

  abbrev end : Bytes
  end = line (codes "end" ∷ [])

  abbrev v : Verdicts
  v = verdicts_of p.settings.asil s

  abbrev permanent_words : List Bytes
  permanent_words = codes "permanent all" ∷ decimal s.permanent_all ∷ codes "danger" ∷ decimal s.permanent_danger ∷ codes "latent" ∷ decimal s.latent ∷ []

  abbrev transient_words : List Bytes
  transient_words = codes "transient all" ∷ decimal s.transient_all ∷ codes "danger" ∷ decimal s.transient_danger ∷ []

  pub report_prints_metrics : Prints (report p planes) (metrics_text (metrics_of s))
  unfolding report metric_lines
  report_prints_metrics = record {
    before = title ++ sizes_line p ++ parts ++ line permanent_words ++ spaced transient_words;
    after = line (codes "target spfm permanent" ∷ v.spfm_permanent ∷ []) ++ line (codes "target spfm transient" ∷ v.spfm_transient ∷ [])
        ++ line (codes "target lfm" ∷ v.lfm ∷ []) ++ line (codes "target term" ∷ v.term ∷ []) ++ faults ++ end;
    is = metrics_inside title (sizes_line p) parts (line permanent_words) (spaced transient_words)
        (line (codes "spfm permanent" ∷ fraction_word (spfm_permanent s) ∷ [])) (line (codes "spfm transient" ∷ fraction_word (spfm_transient s) ∷ []))
        (line (codes "lfm" ∷ fraction_word (lfm s) ∷ [])) (line (codes "term" ∷ decimal (term s) ∷ []))
        (line (codes "target spfm permanent" ∷ v.spfm_permanent ∷ [])) (line (codes "target spfm transient" ∷ v.spfm_transient ∷ []))
        (line (codes "target lfm" ∷ v.lfm ∷ [])) (line (codes "target term" ∷ v.term ∷ [])) faults end;
  }

  pub report_prints_verdicts : Prints (report p planes) (verdicts_text (verdicts_of p.settings.asil s))
  unfolding report metric_lines
  report_prints_verdicts = record {
    before = title ++ sizes_line p ++ parts ++ line permanent_words ++ line transient_words
        ++ line (codes "spfm permanent" ∷ fraction_word (spfm_permanent s) ∷ []) ++ line (codes "spfm transient" ∷ fraction_word (spfm_transient s) ∷ [])
        ++ line (codes "lfm" ∷ fraction_word (lfm s) ∷ []) ++ spaced (codes "term" ∷ decimal (term s) ∷ []);
    after = faults ++ end;
    is = targets_inside title (sizes_line p) parts (line permanent_words) (line transient_words)
        (line (codes "spfm permanent" ∷ fraction_word (spfm_permanent s) ∷ [])) (line (codes "spfm transient" ∷ fraction_word (spfm_transient s) ∷ []))
        (line (codes "lfm" ∷ fraction_word (lfm s) ∷ [])) (spaced (codes "term" ∷ decimal (term s) ∷ []))
        (line (codes "target spfm permanent" ∷ v.spfm_permanent ∷ [])) (line (codes "target spfm transient" ∷ v.spfm_transient ∷ []))
        (line (codes "target lfm" ∷ v.lfm ∷ [])) (line (codes "target term" ∷ v.term ∷ [])) faults end;
  }

-- ---- in the text of `progress`

bounds_inside : (a b c d e f g h i j k : Bytes) → a ++ b ++ (c ++ 10 ∷ []) ++ d ++ e ++ f ++ g ++ h ++ i ++ j ++ k
    ≡ (a ++ b ++ c) ++ 10 ∷ [] ++ (d ++ e ++ f ++ g) ++ (h ++ i ++ j ++ k)
bounds_inside a b c d e f g h i j k = simp append_assoc refl

standings_inside : (a b c d e f g h i j k : Bytes) → a ++ b ++ c ++ d ++ e ++ f ++ (g ++ 10 ∷ []) ++ h ++ i ++ j ++ k
    ≡ (a ++ b ++ c ++ d ++ e ++ f ++ g) ++ 10 ∷ [] ++ (h ++ i ++ j ++ k) ++ []
standings_inside a b c d e f g h i j k = simp (append_assoc, append-nil) refl

module _ (p : Analysis) (entries : List Entry) where
  abbrev ends : EndSums
  ends = end_sums p entries

  abbrev share_words : Bytes → (part whole : ℕ) → List Bytes
  share_words label part whole = label ∷ decimal part ∷ codes "of" ∷ decimal whole ∷ []

  abbrev rows_line : Bytes
  rows_line = line (share_words (codes "rows") (length entries) (batch_count p))

  abbrev permanent_judged : List Bytes
  permanent_judged = share_words (codes "judged permanent") (total p entries).permanent_all ends.best.permanent_all

  abbrev transient_judged : List Bytes
  transient_judged = share_words (codes "judged transient") (total p entries).transient_all ends.best.transient_all

  abbrev b : Bounds
  b = bounds_of ends

  abbrev bound_words : Bytes → Bytes → Bytes → List Bytes
  bound_words label from to = label ∷ codes "from" ∷ from ∷ codes "to" ∷ to ∷ []

  abbrev w : Verdicts
  w = standings_of p.settings.asil ends

  abbrev permanent_bounds : Bytes
  permanent_bounds = line (bound_words (codes "spfm permanent") (fraction_word b.spfm_permanent.least) (fraction_word b.spfm_permanent.greatest))

  abbrev transient_bounds : Bytes
  transient_bounds = line (bound_words (codes "spfm transient") (fraction_word b.spfm_transient.least) (fraction_word b.spfm_transient.greatest))

  abbrev lfm_bounds : Bytes
  lfm_bounds = line (bound_words (codes "lfm") (fraction_word b.lfm.least) (fraction_word b.lfm.greatest))

  abbrev term_words : List Bytes
  term_words = bound_words (codes "term") (decimal b.least_term) (decimal b.greatest_term)

  pub progress_prints_bounds : Prints (progress p entries) (bounds_text (bounds_of ends))
  unfolding progress
  progress_prints_bounds = record {
    before = rows_line ++ line permanent_judged ++ spaced transient_judged;
    after = line (codes "target spfm permanent" ∷ w.spfm_permanent ∷ []) ++ line (codes "target spfm transient" ∷ w.spfm_transient ∷ [])
        ++ line (codes "target lfm" ∷ w.lfm ∷ []) ++ line (codes "target term" ∷ w.term ∷ []);
    is = bounds_inside rows_line (line permanent_judged) (spaced transient_judged) permanent_bounds transient_bounds lfm_bounds (line term_words)
        (line (codes "target spfm permanent" ∷ w.spfm_permanent ∷ [])) (line (codes "target spfm transient" ∷ w.spfm_transient ∷ []))
        (line (codes "target lfm" ∷ w.lfm ∷ [])) (line (codes "target term" ∷ w.term ∷ []));
  }

  pub progress_prints_verdicts : Prints (progress p entries) (verdicts_text (standings_of p.settings.asil ends))
  unfolding progress
  progress_prints_verdicts = record {
    before = rows_line ++ line permanent_judged ++ line transient_judged ++ permanent_bounds ++ transient_bounds ++ lfm_bounds ++ spaced term_words;
    after = [];
    is = standings_inside rows_line (line permanent_judged) (line transient_judged) permanent_bounds transient_bounds lfm_bounds (spaced term_words)
        (line (codes "target spfm permanent" ∷ w.spfm_permanent ∷ [])) (line (codes "target spfm transient" ∷ w.spfm_transient ∷ []))
        (line (codes "target lfm" ∷ w.lfm ∷ [])) (line (codes "target term" ∷ w.term ∷ []));
  }
