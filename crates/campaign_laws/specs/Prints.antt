-- The lines of `report` and of `progress` on metrics and targets, by the numbers and words in them. The metrics are those of
-- ISO 26262-5:2018.
use Rattle.std.specs.Prelude.{◌≡◌, ℕ, [], ◌∷◌, ◌++◌, Option, codes, decimal}
use Rattle.metric_sums.specs.declared.Fraction.{Fraction}
use Rattle.fm_base.specs.Names.{Bytes}
use Rattle.fm_base.specs.Text.{line}
use Rattle.fmeda_report.specs.Words.{fraction_word}
use Rattle.metric_bounds.specs.declared.Ends.{Ends}

-- the lines stand in the text, behind the end of a line
pub record Prints (text lines : Bytes) : Type 0 where
  pub before : Bytes
  pub after : Bytes
  pub is : text ≡ before ++ 10 ∷ [] ++ lines ++ after

-- the metrics that a report prints; the term is in units of 10^-6 FIT
pub record Metrics : Type 0 where
  pub spfm_permanent : Option Fraction
  pub spfm_transient : Option Fraction
  pub lfm : Option Fraction
  pub term : ℕ

abbrev pub metrics_text : Metrics → Bytes
metrics_text m =
    line (codes "spfm permanent" ∷ fraction_word m.spfm_permanent ∷ [])
    ++ line (codes "spfm transient" ∷ fraction_word m.spfm_transient ∷ [])
    ++ line (codes "lfm" ∷ fraction_word m.lfm ∷ [])
    ++ line (codes "term" ∷ decimal m.term ∷ [])

-- the two numbers that `progress` prints for each
pub record Bounds : Type 0 where
  pub spfm_permanent : Ends
  pub spfm_transient : Ends
  pub lfm : Ends
  pub least_term : ℕ
  pub greatest_term : ℕ

abbrev pub bounds_text : Bounds → Bytes
bounds_text b =
    line (codes "spfm permanent from" ∷ fraction_word b.spfm_permanent.least ∷ codes "to" ∷ fraction_word b.spfm_permanent.greatest ∷ [])
    ++ line (codes "spfm transient from" ∷ fraction_word b.spfm_transient.least ∷ codes "to" ∷ fraction_word b.spfm_transient.greatest ∷ [])
    ++ line (codes "lfm from" ∷ fraction_word b.lfm.least ∷ codes "to" ∷ fraction_word b.lfm.greatest ∷ [])
    ++ line (codes "term from" ∷ decimal b.least_term ∷ codes "to" ∷ decimal b.greatest_term ∷ [])

-- the words on the four targets that both print: `met`, `missed` or `-`, and `open` in `progress` alone
pub record Verdicts : Type 0 where
  pub spfm_permanent : Bytes
  pub spfm_transient : Bytes
  pub lfm : Bytes
  pub term : Bytes

abbrev pub verdicts_text : Verdicts → Bytes
verdicts_text v =
    line (codes "target spfm permanent" ∷ v.spfm_permanent ∷ [])
    ++ line (codes "target spfm transient" ∷ v.spfm_transient ∷ [])
    ++ line (codes "target lfm" ∷ v.lfm ∷ [])
    ++ line (codes "target term" ∷ v.term ∷ [])
