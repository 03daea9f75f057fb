-- The counts of a report's part lines. The classes are kinds of faults of ISO 26262-1:2018.
use Rattle.std.specs.Prelude.{◌≡◌, ℕ, ◌+◌, ◌<◌, [], ◌∷◌, sum_by, Option, if◌then◌else◌, codes, decimal}
use Rattle.metric_sums.specs.declared.Fraction.{Fraction}
use Rattle.rate_table.specs.declared.Part.{Part}
use Rattle.fm_base.specs.Lists.{below}
use Rattle.fm_base.specs.Names.{Bytes}
use Rattle.fm_base.specs.Text.{line}
use Rattle.campaign_plan.specs.Analysis.{Analysis, fault_count, part_count, part_numbered}
use Rattle.campaign_plan.specs.Kept.{IsPlan}
use Rattle.fmeda_report.specs.Report.{part_line}
use Rattle.result_file.specs.RowPlanes.{Planes}
use Rattle.fmeda_report.specs.Words.{fraction_word}
use Rattle.metric_sums.specs.Words.{role_word}

-- how many faults there are in all, and of each class
pub record PartCounts : Type 0 where
  pub faults : ℕ
  pub safe : ℕ
  pub detected : ℕ
  pub residual : ℕ
  pub single_point : ℕ
  pub latent : ℕ
  pub outside : ℕ

-- the line of a part with these counts and this coverage
abbrev pub line_with : Part → PartCounts → Option Fraction → Bytes
line_with part c coverage = line (codes "part" ∷ part.name ∷ role_word part.role ∷ (if part.covered then codes "covered" else codes "uncovered")
    ∷ codes "permanent" ∷ decimal part.permanent ∷ codes "transient" ∷ decimal part.transient ∷ codes "faults" ∷ decimal c.faults
    ∷ codes "safe" ∷ decimal c.safe ∷ codes "detected" ∷ decimal c.detected ∷ codes "residual" ∷ decimal c.residual
    ∷ codes "single-point" ∷ decimal c.single_point ∷ codes "latent" ∷ decimal c.latent ∷ codes "outside" ∷ decimal c.outside
    ∷ codes "coverage" ∷ fraction_word coverage ∷ [])

-- tells: the line of the part tells these counts
-- add_up: the six counts of the classes add up to the part's faults
pub record AddUp (part : Part) (text : Bytes) (c : PartCounts) : Type 0 where
  pub coverage : Option Fraction
  pub tells : text ≡ line_with part c coverage
  pub add_up : c.safe + c.detected + c.residual + c.single_point + c.latent + c.outside ≡ c.faults

-- each: so in the line of each part
-- all: the faults of all parts add up to those of the plan
pub record PartsAddUp (p : Analysis) (planes : Planes) : Type 0 where
  pub counts : ℕ → PartCounts
  pub each : (k : ℕ) → k < part_count p → AddUp (part_numbered p k) (part_line p planes k) (counts k)
  pub all : sum_by (λ k. (counts k).faults) (below (part_count p)) ≡ fault_count p

-- THE COUNTS ADD UP, whatever the planes
abbrev pub CountsAddUp : Type 0
CountsAddUp = (p : Analysis) → IsPlan p → (planes : Planes) → PartsAddUp p planes
