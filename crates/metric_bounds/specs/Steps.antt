-- Shapes of steps: the ends of each metric by themselves, and the lines of the text in groups. `coverage` cites `is_on_mechanism` and
-- `standing_word`; nothing else that is public cites them.
use Rattle.std.specs.Prelude.{ℕ, Bool, [], ◌∷◌, ◌++◌, Option, Some, None, codes, decimal}
use Rattle.metric_sums.specs.declared.Asil.{Asil}
use Rattle.metric_sums.specs.declared.Sums.{Sums}
use Rattle.metric_sums.specs.Classes.{is_mechanism}
use Rattle.metric_sums.specs.Metrics.{lfm_target, spfm_permanent, spfm_target, spfm_transient, term}
use Rattle.fm_base.specs.Names.{Bytes}
use Rattle.fm_base.specs.Text.{line}
use Rattle.campaign_plan.specs.Analysis.{Analysis, fault_numbered, part_numbered, part_of}
use Rattle.fmeda_report.specs.Words.{fraction_word}
use Rattle.metric_bounds.specs.declared.Ends.{Ends}
use Rattle.metric_bounds.specs.declared.EndSums.{EndSums}
use Rattle.metric_bounds.specs.declared.Standing.{Standing}
use Rattle.metric_bounds.specs.Bounds.{lfm_ends, spfm_ends, standing_of, term_standing}
use Rattle.metric_bounds.specs.declared.Standing.TheVariants.{Met, Missed, Open}

-- the fault is on a net of a safety mechanism
abbrev pub is_on_mechanism : Analysis → ℕ → Bool
is_on_mechanism p i = is_mechanism (part_numbered p (part_of p (fault_numbered p i))).role

-- the ends of each single-point fault metric
abbrev pub spfm_permanent_ends : EndSums → Ends
spfm_permanent_ends s = spfm_ends spfm_permanent s

abbrev pub spfm_transient_ends : EndSums → Ends
spfm_transient_ends s = spfm_ends spfm_transient s

-- the least and the greatest single-point and residual term, in units of 10^-6 FIT
abbrev pub least_term : EndSums → ℕ
least_term s = term s.best

abbrev pub greatest_term : EndSums → ℕ
greatest_term s = term s.worst

-- so much of so much
abbrev pub share_line : Bytes → (part whole : ℕ) → Bytes
share_line label part whole = line (label ∷ decimal part ∷ codes "of" ∷ decimal whole ∷ [])

-- the ends of a metric
abbrev pub ends_line : Bytes → Ends → Bytes
ends_line label ends = line (label ∷ codes "from" ∷ fraction_word ends.least ∷ codes "to" ∷ fraction_word ends.greatest ∷ [])

-- those of the term
abbrev pub term_line : (least greatest : ℕ) → Bytes
term_line least greatest = line (codes "term" ∷ codes "from" ∷ decimal least ∷ codes "to" ∷ decimal greatest ∷ [])

-- how a target stands, or `-` where the metric has no value
abbrev pub standing_word : Option Standing → Bytes
standing_word None = codes "-"
standing_word (Some Met) = codes "met"
standing_word (Some Missed) = codes "missed"
standing_word (Some Open) = codes "open"

-- a target
abbrev pub standing_line : Bytes → Option Standing → Bytes
standing_line label stands = line (codes "target" ∷ label ∷ standing_word stands ∷ [])

-- the kept rows, and the weights without class outside: of the kept batches, and of all
unfoldable pub judged_lines : (rows batches : ℕ) → (judged all : Sums) → Bytes
judged_lines rows batches judged all =
    share_line (codes "rows") rows batches
    ++ share_line (codes "judged permanent") judged.permanent_all all.permanent_all
    ++ share_line (codes "judged transient") judged.transient_all all.transient_all

-- the bounds of the metrics
unfoldable pub bound_lines : EndSums → Bytes
bound_lines s =
    ends_line (codes "spfm permanent") (spfm_permanent_ends s)
    ++ ends_line (codes "spfm transient") (spfm_transient_ends s)
    ++ ends_line (codes "lfm") (lfm_ends s)
    ++ term_line (least_term s) (greatest_term s)

-- how the targets stand
unfoldable pub standing_lines : Asil → EndSums → Bytes
standing_lines asil s =
    standing_line (codes "spfm permanent") (standing_of (spfm_target asil) (spfm_permanent_ends s))
    ++ standing_line (codes "spfm transient") (standing_of (spfm_target asil) (spfm_transient_ends s))
    ++ standing_line (codes "lfm") (standing_of (lfm_target asil) (lfm_ends s))
    ++ standing_line (codes "term") (Some (term_standing asil s))
