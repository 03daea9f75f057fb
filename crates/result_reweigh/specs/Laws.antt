-- The laws of rows by other failure rates.
use Rattle.std.specs.Prelude.{◌≡◌, ℕ, List, map}
use Rattle.campaign_plan.specs.Analysis.{Analysis}
use Rattle.campaign_plan.specs.Batches.{Entry, AreDistinct, AreTrue, HasEach, in_order, true_planes}
use Rattle.result_file.specs.declared.Row.{Row}
use Rattle.result_file.specs.ResultText.{result_rows}
use Rattle.result_file.specs.KeptRows.{entry_of}
use Rattle.result_file.specs.RowPlanes.{planes_in}
use Rattle.result_reweigh.specs.Reweighed.{reweighed}

-- two plans that differ in nothing but their rates
pub record DifferInRates (p q : Analysis) : Type 0 where
  pub circuit : p.circuit ≡ q.circuit
  pub runs : p.runs ≡ q.runs
  pub points : p.points ≡ q.points
  pub settings : p.settings ≡ q.settings

-- entries, planes: each row keeps its batch and its planes, whatever they are
-- distinct, each, true: batches that stand once, all batches, and the planes that each batch truly has are so with all rates
-- run: the rows of a whole campaign in rising order, as one worker leaves them, become those of the campaign with these rates
-- back: rows with the sums of their own plan come back by its rates
pub record ReweighLaws (p q : Analysis) : Type 0 where
  pub entries : (rows : List Row) → map entry_of (reweighed q rows) ≡ map entry_of rows
  pub planes : (rows : List Row) (batch : ℕ) → planes_in (reweighed q rows) batch ≡ planes_in rows batch
  pub distinct : (entries : List Entry) → AreDistinct p entries → AreDistinct q entries
  pub each : (entries : List Entry) → HasEach p entries → HasEach q entries
  pub true : (entries : List Entry) → AreTrue p entries → AreTrue q entries
  pub run : (rows : List Row) → rows ≡ result_rows p (in_order p (true_planes p)) → reweighed q rows ≡ result_rows q (in_order q (true_planes q))
  pub back : (rows : List Row) → rows ≡ result_rows p (map entry_of rows) → reweighed p (reweighed q rows) ≡ rows

-- NO PLANE HANGS ON A RATE: so of any two plans that differ in their rates alone
abbrev pub ReweighsAreLawful : Type 0
ReweighsAreLawful = (p q : Analysis) → DifferInRates p q → ReweighLaws p q
