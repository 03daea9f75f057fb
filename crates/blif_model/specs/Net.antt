-- The fault of a netlist file, or its netlist. Source: BLIF of SIS, by this project's profile.
use Rattle.std.specs.Prelude.{ℕ, Bool, true, ◌==◌, List, [], ◌∷◌, ◌++◌, map, flat_map, filter_map, Option, Some, None, bytes_eq, if◌then◌else◌, codes, Result, Ok, Err}
use Rattle.std.specs.Str.{byte}
use Rattle.circuit.specs.declared.parts.Driver.TheVariants.{Input, Table as FromTable, Latch as FromLatch}
use Rattle.circuit.specs.declared.parts.Lit.{Lit}
use Rattle.circuit.specs.declared.parts.Lit.TheVariants.{Zero, One, Any}
use Rattle.circuit.specs.declared.parts.Table.{Table}
use Rattle.circuit.specs.declared.parts.Latch.{Latch}
use Rattle.circuit.specs.Circuit.{Circuit}
use Rattle.blif_text.specs.declared.NetlistFault.{NetlistFault}
use Rattle.fm_base.specs.Firsts.{first_answer}
use Rattle.blif_model.specs.LineFault.{said_lines, line_fault, row_output}
use Rattle.blif_model.specs.ModelFault.{model_faults, model_fault}
use Rattle.blif_model.specs.Models.{models_of, file_models}
use Rattle.blif_model.specs.Statement.{LatchLine}
use Rattle.blif_model.specs.Walk.{takes, gives, flat_table, flat_latch, Step, walk, nets_of, unclocked}
use Rattle.blif_model.specs.WalkFault.{walk_faults, walk_fault}
use Rattle.fm_base.specs.Names.{Name, distinct, Bytes}
use Rattle.net_names.specs.Nets.{net_id, with_drivers, driver_of}

-- the netlist of a walk; a net is driven by an input, by a table or by a latch, and each output stands once
unfoldable pub circuit_of : List Step → Circuit
circuit_of steps =
    let nets = nets_of steps in
    let ids = map (net_id nets) in
    let ins = flat_map (λ s. elim s.act [ takes names ↦ unclocked steps names | _ ↦ [] ]) steps in
    let outs = distinct (flat_map (λ s. elim s.act [ gives names ↦ names | _ ↦ [] ]) steps) in
    let table_nets = flat_map (λ s. elim s.act [ flat_table ins out rows ↦ out ∷ [] | _ ↦ [] ]) steps in
    let latch_nets = flat_map (λ s. elim s.act [ flat_latch l ↦ l.to ∷ [] | _ ↦ [] ]) steps in
    let driven = with_drivers Input ins ++ with_drivers FromTable table_nets ++ with_drivers FromLatch latch_nets in
    -- a row has a literal for each input; the plane is the output of the first row, and a table without rows has it true
    let lit = λ (b : ℕ). if b == byte "0" then Zero else if b == byte "1" then One else Any in
    let lits : List Name → List Lit = elim [ cells ∷ output ∷ _ ↦ map lit cells | _ ↦ [] ] in
    let plane : List (List Name) → Bool = elim [ [] ↦ true | first ∷ _ ↦ bytes_eq (row_output first) (codes "1") ] in
    let table : List Name → List (List Name) → Table = λ ins rows. record { ins = ids ins; rows = map lits rows; on = plane rows } in
    let tables : List Table = filter_map (λ s. elim s.act [ flat_table ins out rows ↦ Some (table ins rows) | _ ↦ None ]) steps in
    let latch : LatchLine → Latch = λ l. record { from = net_id nets l.from; to = net_id nets l.to; start = l.start } in
    let latches : List Latch = filter_map (λ s. elim s.act [ flat_latch l ↦ Some (latch l) | _ ↦ None ]) steps in
    record { names = nets; drivers = map (driver_of driven) nets; tables = tables; latches = latches; inputs = ids ins; outputs = ids outs }

-- the netlist of a file's bytes, or the line and the kind for which they are refused
unfoldable pub netlist_of : Bytes → Result Circuit NetlistFault
netlist_of bytes =
    let lines = said_lines bytes in
    let models = models_of lines in
    let steps = walk models in
    elim (first_answer (line_fault lines ∷ first_answer (model_faults models) ∷ first_answer (walk_faults steps) ∷ []))
    [ Some fault ↦ Err fault | None ↦ Ok (circuit_of steps) ]

-- ---- shapes of private steps: the parts of the netlist, and the fault of a file

-- the literals of a row, one for each input
abbrev pub lits_of : List Name → List Lit
lits_of = elim [ cells ∷ output ∷ _ ↦ map (λ b. if b == byte "0" then Zero else if b == byte "1" then One else Any) cells | _ ↦ [] ]

-- the plane of a table
abbrev pub table_plane : List (List Name) → Bool
table_plane = elim [ [] ↦ true | first ∷ _ ↦ bytes_eq (row_output first) (codes "1") ]

-- the nets that are inputs, in the order of the walk
unfoldable pub input_names_of : List Step → List Name
input_names_of steps = flat_map (λ s. elim s.act [ takes names ↦ unclocked steps names | _ ↦ [] ]) steps

-- the nets that tables drive, likewise
unfoldable pub table_names_of : List Step → List Name
table_names_of steps = flat_map (λ s. elim s.act [ flat_table ins out rows ↦ out ∷ [] | _ ↦ [] ]) steps

-- those that latches drive
unfoldable pub latch_names_of : List Step → List Name
latch_names_of steps = flat_map (λ s. elim s.act [ flat_latch l ↦ l.to ∷ [] | _ ↦ [] ]) steps

-- the outputs, each once
unfoldable pub output_names_of : List Step → List Name
output_names_of steps = distinct (flat_map (λ s. elim s.act [ gives names ↦ names | _ ↦ [] ]) steps)

unfoldable pub bad_net : Bytes → Option NetlistFault
bad_net bytes = first_answer (line_fault (said_lines bytes) ∷ model_fault (file_models bytes) ∷ walk_fault (walk (file_models bytes)) ∷ [])
