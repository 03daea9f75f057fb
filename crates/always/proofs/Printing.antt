-- Where the lines of the metrics stand in the texts.
use Rattle.std.proofs.Common.{◌≡◌, ◌∙◌, ℕ, List, [], ◌∷◌, ◌++◌, append_assoc, append-nil, ap, sym, subst, refl}
use Rattle.std.specs.Prelude.{Some, codes, count_by, decimal, filter, flat_map, length, nat_lt, option_map, ◌==◌}
use Rattle.always_answers.specs.declared.answers.PartAnswer.{PartAnswer}
use Rattle.campaign_plan.specs.Analysis.{Analysis, fault_count, fault_numbered, part_count, part_numbered, part_of}
use Rattle.campaign_plan.specs.Batches.{true_planes}
use Rattle.circuit.specs.Circuit.{Circuit}
use Rattle.claim_laws.specs.Metrics.{open_sums, true_sums}
use Rattle.fm_base.specs.Lists.{below}
use Rattle.fm_base.specs.Names.{Bytes}
use Rattle.fm_base.specs.Text.{line, spaced}
use Rattle.fmeda_report.specs.Report.{fault_line, metric_lines, part_line as report_part, report, sizes_line as report_sizes, true_report}
use Rattle.fmeda_report.specs.Words.{covering_word, fraction_word, target_word}
use Rattle.metric_sums.specs.Words.{role_word}
use Rattle.metric_sums.specs.declared.Asil.{Asil}
use Rattle.metric_sums.specs.declared.Sums.{Sums}
use Rattle.metric_sums.specs.Metrics.{lfm, lfm_target, meets, pmhf_target, spfm_permanent, spfm_target, spfm_transient, term}
use Rattle.always.specs.Laws.{Prints}
use Rattle.always.specs.Text.{always_with, assumes_line, held_line, least_line, least_lines, named_line, part_answer, part_line, sizes_line, standing_word, terms_lines, whole_word, window_line, window_word}
use Rattle.always.specs.Verdict.{Terms, is_covered, is_covered_later, is_verdict}
use Rattle.always.specs.declared.verdict.Verdict.{Verdict}
use Rattle.always.specs.declared.verdict.Verdict.TheVariants.{NoPath, Alarmed, Early, Open}

-- ---- texts that end with the end of a line

abbrev EndsLine : Bytes → Type 0
EndsLine text = (before : Bytes) × (text ≡ before ++ 10 ∷ [])

line_ends : (words : List Bytes) → EndsLine (line words)
line_ends words = (spaced words, refl)

after_ends : (a b : Bytes) → EndsLine b → EndsLine (a ++ b)
after_ends a b e = (a ++ e.0, ap (λ text. a ++ text) e.1 ∙ sym (append_assoc a e.0 (10 ∷ [])))

lines_end : (f : ℕ → Bytes) → ((k : ℕ) → EndsLine (f k)) → (a : Bytes) → EndsLine a → (xs : List ℕ) → EndsLine (a ++ flat_map f xs)
lines_end f each a ends [] = subst EndsLine (sym (append-nil a)) ends
lines_end f each a ends (x ∷ xs) = subst EndsLine (append_assoc a (f x) (flat_map f xs)) (lines_end f each (a ++ f x) (after_ends a (f x) (each x)) xs)

part_ends : (p : Analysis) (verdict : ℕ → Verdict) (answer : PartAnswer) (k : ℕ) → EndsLine (part_line p verdict answer k)
unfolding part_line
part_ends p verdict answer k =
    let own = part_numbered p k in
    let faults : List ℕ = filter (λ i. part_of p (fault_numbered p i) == k) (below (fault_count p)) in
    let count : Verdict → Bytes = λ kind. decimal (count_by (λ i. is_verdict (verdict i) kind) faults) in
    line_ends (codes "part" ∷ own.name ∷ role_word own.role ∷ covering_word own.covered ∷ codes "whole" ∷ whole_word answer ∷ codes "window" ∷ window_word answer
    ∷ codes "faults" ∷ decimal (length faults) ∷ codes "no-path" ∷ count NoPath ∷ codes "alarmed" ∷ count Alarmed ∷ codes "early" ∷ count Early
    ∷ codes "open" ∷ count Open ∷ [])

assumes_end : (from : ℕ) → EndsLine (assumes_line from)
assumes_end from = line_ends (codes "assumes no alarm without a fault from cycle" ∷ decimal from ∷ codes "on" ∷ [])

terms_end : (c : Circuit) (terms : Terms) → EndsLine (terms_lines c terms)
unfolding terms_lines
terms_end c terms = after_ends (flat_map (held_line c) terms.held ++ window_line terms.window terms.ahead) (assumes_line terms.from) (assumes_end terms.from)

-- ---- in the text

last_line : (b p a : Bytes) → ((b ++ 10 ∷ []) ++ p) ++ a ≡ b ++ 10 ∷ [] ++ p ++ a
last_line b p a = simp append_assoc refl

inside : (h p l e o d : Bytes) → ((((h ++ p) ++ l) ++ e) ++ o) ++ d ≡ (h ++ p) ++ (((l ++ e) ++ o) ++ d)
inside h p l e o d = simp append_assoc refl

inside_later : (h a b l e o d : Bytes) → ((((h ++ (a ++ (b ++ 10 ∷ []))) ++ l) ++ e) ++ o) ++ d ≡ ((h ++ a) ++ b) ++ 10 ∷ [] ++ l ++ ((e ++ o) ++ d)
inside_later h a b l e o d = simp append_assoc refl

module _ (p : Analysis) (terms : Terms) (verdict : ℕ → Verdict) (parts : List PartAnswer) where
  abbrev asil : Asil
  asil = p.settings.asil

  abbrev title : Bytes
  title = line (codes "fmeda-always" ∷ codes "1" ∷ [])

  abbrev head : Bytes
  head = ((title ++ sizes_line p) ++ terms_lines p.circuit terms) ++ flat_map (λ k. part_line p verdict (part_answer parts k) k) (below (part_count p))

  abbrev first_sums : Sums
  first_sums = open_sums p (λ i. is_covered (verdict i))

  abbrev later_sums : Sums
  later_sums = open_sums p (λ i. is_covered_later (verdict i))

  abbrev early_lines : Bytes
  early_lines = flat_map (named_line p verdict Early (codes "early")) (below (fault_count p))

  abbrev open_lines : Bytes
  open_lines = flat_map (named_line p verdict Open (codes "open")) (below (fault_count p))

  abbrev end : Bytes
  end = line (codes "end" ∷ [])

  abbrev permanent : ℕ → Sums → Bytes
  permanent since sums = least_line (codes "permanent") since (spfm_target asil) (spfm_permanent sums)

  abbrev transient : ℕ → Sums → Bytes
  transient since sums = least_line (codes "transient") since (spfm_target asil) (spfm_transient sums)

  abbrev since_words : ℕ → Sums → Bytes
  since_words since sums =
      spaced (codes "spfm" ∷ codes "transient" ∷ codes "since" ∷ decimal since ∷ codes "at-least" ∷ fraction_word (spfm_transient sums) ∷ codes "target"
      ∷ standing_word (option_map (meets (spfm_target asil)) (spfm_transient sums)) ∷ [])

  abbrev printed : ℕ → Sums → Bytes
  printed since sums = permanent since sums ++ transient since sums

  text_is : always_with p terms verdict parts ≡ ((((head ++ printed 0 first_sums) ++ printed terms.from later_sums) ++ early_lines) ++ open_lines) ++ end
  unfolding always_with least_lines
  text_is = refl

  head_ends : EndsLine head
  head_ends =
      lines_end (λ k. part_line p verdict (part_answer parts k) k) (λ k. part_ends p verdict (part_answer parts k) k) ((title ++ sizes_line p) ++ terms_lines p.circuit terms)
      (after_ends (title ++ sizes_line p) (terms_lines p.circuit terms) (terms_end p.circuit terms)) (below (part_count p))

  abbrev behind : Bytes
  behind = ((printed terms.from later_sums ++ early_lines) ++ open_lines) ++ end

  pub told : Prints (always_with p terms verdict parts) (printed 0 first_sums)
  told = record {
    before = head_ends.0;
    after = behind;
    is = text_is ∙ inside head (printed 0 first_sums) (printed terms.from later_sums) early_lines open_lines end
        ∙ ap (λ (own : Bytes). (own ++ printed 0 first_sums) ++ behind) head_ends.1 ∙ last_line head_ends.0 (printed 0 first_sums) behind;
  }

  pub told_later : Prints (always_with p terms verdict parts) (printed terms.from later_sums)
  told_later = record {
    before = (head ++ permanent 0 first_sums) ++ since_words 0 first_sums;
    after = (early_lines ++ open_lines) ++ end;
    is = text_is ∙ inside_later head (permanent 0 first_sums) (since_words 0 first_sums) (printed terms.from later_sums) early_lines open_lines end;
  }

-- ---- in the report

inside_report : (title sizes parts s t a b c d e f g h faults end : Bytes)
    → title ++ sizes ++ parts ++ (s ++ (t ++ 10 ∷ []) ++ a ++ b ++ c ++ d ++ e ++ f ++ g ++ h) ++ faults ++ end
    ≡ (title ++ sizes ++ parts ++ s ++ t) ++ 10 ∷ [] ++ (a ++ b) ++ (c ++ d ++ e ++ f ++ g ++ h ++ faults ++ end)
inside_report title sizes parts s t a b c d e f g h faults end = simp append_assoc refl

module _ (p : Analysis) where
  abbrev s : Sums
  s = true_sums p

  abbrev report_title : Bytes
  report_title = line (codes "fmeda-report" ∷ codes "1" ∷ [])

  abbrev report_parts : Bytes
  report_parts = flat_map (report_part p (true_planes p)) (below (length p.rates.parts))

  abbrev report_faults : Bytes
  report_faults = flat_map (fault_line p (true_planes p)) (below (fault_count p))

  abbrev spfm_lines : Bytes
  spfm_lines = line (codes "spfm permanent" ∷ fraction_word (spfm_permanent s) ∷ []) ++ line (codes "spfm transient" ∷ fraction_word (spfm_transient s) ∷ [])

  abbrev permanent_line : Bytes
  permanent_line =
      line (codes "permanent all" ∷ decimal s.permanent_all ∷ codes "danger" ∷ decimal s.permanent_danger ∷ codes "latent" ∷ decimal s.latent ∷ [])

  abbrev transient_words : Bytes
  transient_words = spaced (codes "transient all" ∷ decimal s.transient_all ∷ codes "danger" ∷ decimal s.transient_danger ∷ [])

  abbrev target_line : Bytes → Bytes → Bytes
  target_line label word = line (label ∷ word ∷ [])

  pub reported : Prints (true_report p) spfm_lines
  unfolding report metric_lines
  reported = record {
    before = report_title ++ report_sizes p ++ report_parts ++ permanent_line ++ transient_words;
    after = line (codes "lfm" ∷ fraction_word (lfm s) ∷ []) ++ line (codes "term" ∷ decimal (term s) ∷ [])
        ++ target_line (codes "target spfm permanent") (target_word (option_map (meets (spfm_target p.settings.asil)) (spfm_permanent s)))
        ++ target_line (codes "target spfm transient") (target_word (option_map (meets (spfm_target p.settings.asil)) (spfm_transient s)))
        ++ target_line (codes "target lfm") (target_word (option_map (meets (lfm_target p.settings.asil)) (lfm s)))
        ++ target_line (codes "target term") (target_word (Some (nat_lt (term s) (pmhf_target p.settings.asil)))) ++ report_faults ++ line (codes "end" ∷ []);
    is = inside_report report_title (report_sizes p) report_parts permanent_line transient_words
        (line (codes "spfm permanent" ∷ fraction_word (spfm_permanent s) ∷ [])) (line (codes "spfm transient" ∷ fraction_word (spfm_transient s) ∷ []))
        (line (codes "lfm" ∷ fraction_word (lfm s) ∷ [])) (line (codes "term" ∷ decimal (term s) ∷ []))
        (target_line (codes "target spfm permanent") (target_word (option_map (meets (spfm_target p.settings.asil)) (spfm_permanent s))))
        (target_line (codes "target spfm transient") (target_word (option_map (meets (spfm_target p.settings.asil)) (spfm_transient s))))
        (target_line (codes "target lfm") (target_word (option_map (meets (lfm_target p.settings.asil)) (lfm s))))
        (target_line (codes "target term") (target_word (Some (nat_lt (term s) (pmhf_target p.settings.asil))))) report_faults (line (codes "end" ∷ []));
  }
