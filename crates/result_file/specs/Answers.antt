-- What the rows of a file give.
use Rattle.std.specs.Prelude.{◌≡◌, List, map, Result, Ok, Err, Some, None}
use Rattle.fm_base.specs.Firsts.{first_fault}
use Rattle.fm_base.specs.Names.{Bytes}
use Rattle.fm_base.specs.declared.refusal.Refusal.{Refusal}
use Rattle.fm_base.specs.declared.refusal.Refusal.TheVariants.{Fault, Memory}
use Rattle.campaign_plan.specs.Analysis.{Analysis}
use Rattle.result_file.specs.declared.Row.{Row}
use Rattle.result_file.specs.declared.ResultRefusal.{ResultRefusal}
use Rattle.result_file.specs.declared.ResultRefusal.TheVariants.{Foreign, BadRow}
use Rattle.result_file.specs.KeptRows.{row_read, row_fault}

-- all rows, or the first bad one, or there was no memory
abbrev pub RowsGive : Analysis → List Bytes → Result (List Row) (Refusal ResultRefusal) → Type 0
RowsGive p pieces (Ok rows) = (first_fault (row_fault p) pieces ≡ None) × (rows ≡ map row_read pieces)
RowsGive p pieces (Err (Fault (BadRow number fault))) = first_fault (row_fault p) pieces ≡ Some (number, fault)
RowsGive p pieces (Err (Fault (Foreign found own))) = ⊥
RowsGive p pieces (Err (Memory no_room)) = Unit {0}
