-- Shapes of private steps: the text of `breakdown`, reading by reading.
use Rattle.std.specs.Prelude.{◌≡◌, ◌<◌, ℕ, List, ◌∷◌, ◌++◌, length, slice_index_or, codes}
use Rattle.fm_base.specs.Names.{Bytes}
use Rattle.fm_base.specs.Text.{line}
use Rattle.metric_sums.specs.declared.Sums.{Sums}
use Rattle.metric_sums.specs.Totals.{no_sums}
use Rattle.campaign_plan.specs.Analysis.{Analysis}
use Rattle.campaign_plan.specs.Batches.{true_planes}
use Rattle.fmeda_report.specs.Report.{all_sums, metric_lines}
use Rattle.reading_planes.specs.Folded.{reading_at}
use Rattle.reading_planes.specs.Readings.{plan_by, words_by}
use Rattle.reading_planes.specs.declared.reading.Reading.{Reading}

-- the five sums by a reading: those of its plan, where each fault is judged alone
abbrev pub sums_by_reading : Analysis → Reading → Sums
sums_by_reading p reading = all_sums (plan_by p reading) (true_planes (plan_by p reading))

-- the line of a reading, and the lines of these sums
abbrev pub reading_lines : Analysis → Reading → Sums → Bytes
reading_lines p reading sums = line (codes "reading" ∷ words_by p reading) ++ metric_lines p.settings.asil sums

-- the lines of a reading by its own sums
abbrev pub lines_by : Analysis → Reading → Bytes
lines_by p reading = reading_lines p reading (sums_by_reading p reading)

-- sums by their number
abbrev pub sums_at : List Sums → ℕ → Sums
sums_at sums r = slice_index_or sums r no_sums

-- these are the sums by each of these readings, in order
pub record AreReadingSums (p : Analysis) (readings : List Reading) (sums : List Sums) : Type 0 where
  pub count : length sums ≡ length readings
  pub each : (r : ℕ) → r < length readings → sums_at sums r ≡ sums_by_reading p (reading_at readings r)
