-- The rows of a result file by other failure rates. This project's own rule: planes hang on no rate, and sums on nothing but planes and rates.
use Rattle.std.specs.Prelude.{List, map}
use Rattle.campaign_plan.specs.Analysis.{Analysis}
use Rattle.result_file.specs.declared.Row.{Row}
use Rattle.result_file.specs.ResultText.{result_rows}
use Rattle.result_file.specs.KeptRows.{entry_of}

-- THE ROWS BY THE WEIGHTS OF A PLAN: of each row, in order, its batch and its planes, with the sums of this and all earlier ones from scratch
abbrev pub reweighed : Analysis → List Row → List Row
reweighed p rows = result_rows p (map entry_of rows)
