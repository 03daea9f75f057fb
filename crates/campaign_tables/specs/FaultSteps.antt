-- Shapes of private steps: how the fields of a row are written one by one. Nothing public cites them.
use Rattle.std.specs.Prelude.{ℕ, ◌%◌, Bool, ◌||◌, ◌==◌, List, [], ◌∷◌, Option, Some, None, if◌then◌else◌, codes, decimal}
use Rattle.std.specs.Str.{byte}
use Rattle.circuit.specs.Names.{net_name}
use Rattle.metric_sums.specs.declared.Class.{Class}
use Rattle.fm_base.specs.Names.{Bytes}
use Rattle.fm_base.specs.Planes.{lanes, bit}
use Rattle.fault_list.specs.Faults.{net_of_fault}
use Rattle.campaign_plan.specs.declared.Outcome.{Outcome}
use Rattle.campaign_plan.specs.Analysis.{Analysis, fault_numbered, part_numbered, part_of}
use Rattle.campaign_plan.specs.Batches.{class_with}
use Rattle.campaign_plan.specs.Weights.{weight}
use Rattle.metric_sums.specs.Words.{role_word, class_word}
use Rattle.campaign_tables.specs.FaultTable.{fault_row}
use Rattle.campaign_tables.specs.Words.{kind_word, covered_word, bit_word}

-- a byte that calls for quotes: a comma, a quote, a carriage return or a line feed
abbrev pub calls_for_quotes : ℕ → Bool
calls_for_quotes b = b == byte "," || b == byte "\"" || b == 13 || b == 10

-- a byte between quotes: a quote is doubled
abbrev pub between_quotes : ℕ → Bytes
between_quotes b = if b == byte "\"" then b ∷ b ∷ [] else b ∷ []

-- the names of the columns
abbrev pub column_names : List Bytes
column_names =
    codes "fault" ∷ codes "net" ∷ codes "kind" ∷ codes "part" ∷ codes "role" ∷ codes "covered" ∷ codes "class" ∷ codes "dangerous"
    ∷ codes "noticed" ∷ codes "weight" ∷ []

-- the fields of fault i behind its name, where it has this class
abbrev pub fields_by : Analysis → Outcome → ℕ → Class → List Bytes
fields_by p planes i class =
    let fault = fault_numbered p i in
    let part = part_numbered p (part_of p fault) in
    net_name p.circuit (net_of_fault p.circuit fault) ∷ kind_word fault ∷ part.name ∷ role_word part.role ∷ covered_word part.covered
    ∷ class_word class ∷ bit_word (bit planes.danger (i % lanes)) ∷ bit_word (bit planes.noticed (i % lanes)) ∷ decimal (weight p i) ∷ []

-- these fields, with the class that its bits give
abbrev pub further_fields : Analysis → Outcome → ℕ → List Bytes
further_fields p planes i = fields_by p planes i (class_with p i (bit planes.danger (i % lanes)) (bit planes.noticed (i % lanes)))

-- the row of fault i where its batch has planes, and else nothing
abbrev pub row_if_kept : Analysis → Option Outcome → ℕ → Bytes
row_if_kept p kept i = elim kept [ Some planes ↦ fault_row p planes i | None ↦ [] ]
