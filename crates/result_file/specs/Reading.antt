-- What reading back asks of a plan.
use Rattle.std.specs.Prelude.{List}
use Rattle.metric_sums.specs.Totals.{AreSmall}
use Rattle.campaign_plan.specs.Analysis.{Analysis}
use Rattle.campaign_plan.specs.Batches.{Entry, total, AreDistinct}

-- the sums over distinct batches with any planes are at most the rates of all parts, so they are small
abbrev pub HasSmallSums : Analysis → Type 0
HasSmallSums p = (entries : List Entry) → AreDistinct p entries → AreSmall (total p entries)
