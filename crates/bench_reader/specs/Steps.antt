-- Shapes of private steps: what the code and its proofs name of the definitions beside. Nothing public cites them.
use Rattle.std.specs.Prelude.{ℕ, ◌*◌, false, Bool, List, [], ◌∷◌, count_by, ◌%◌, ◌==◌, filter_map, flat_map, length, map, Option, Some, None, if◌then◌else◌, codes, Result, Ok, Err}
use Rattle.std.specs.Option.{option_map, option_or}
use Rattle.circuit.specs.declared.parts.Latch.{Latch}
use Rattle.circuit.specs.declared.parts.Lit.{Lit}
use Rattle.circuit.specs.declared.parts.Table.{Table}
use Rattle.circuit.specs.Circuit.{Circuit}
use Rattle.fm_base.specs.Firsts.{first_answer, given}
use Rattle.fm_base.specs.Names.{Name, distinct}
use Rattle.net_names.specs.Nets.{driver_of, net_id}
use Rattle.bench_reader.specs.declared.BenchFault.{BenchFault}
use Rattle.bench_reader.specs.declared.BenchKind.{BenchKind}
use Rattle.bench_reader.specs.declared.BenchKind.TheVariants.{BadLine, BadGate, BadCount, TooWide}
use Rattle.bench_reader.specs.declared.gate.Gate.{Gate}
use Rattle.bench_reader.specs.Gates.{GateRule, gate_named, gate_rule, is_one_cell, is_word, takes}
use Rattle.bench_reader.specs.LineFault.{Said, at_line, line_fault}
use Rattle.bench_reader.specs.Net.{drivers_of, inputs_of, nets_of}
use Rattle.bench_reader.specs.NetFault.{too_large, two_drivers, undriven}
use Rattle.bench_reader.specs.Statement.{Statement, input, output, table, latch, wrong, more_names}
use Rattle.bench_reader.specs.Tokens.{Token, closing, comma}

-- ---- tokens and lines

-- the kind of a faulty line
abbrev pub kind_of : Said → Option BenchKind
kind_of line = elim line.says [ wrong kind ↦ Some kind | _ ↦ given line.wide TooWide ]

-- the fault of a line
abbrev pub fault_of : Said → Option BenchFault
fault_of line = option_map (at_line line.number) (kind_of line)

-- ---- statements

-- the names behind an opening bracket: the same as behind commas where one is put in front, or none
abbrev pub names_in : List Token → Option (List Name)
names_in tokens = elim tokens [ closing ∷ [] ↦ Some [] | others ↦ more_names (comma ∷ others) ]

-- `word(net)`
abbrev pub port_line : Name → Name → Statement
port_line word net = if is_word (codes "INPUT") word then input net else if is_word (codes "OUTPUT") word then output net else wrong BadLine

-- `out = DFF(ins)`
abbrev pub latch_line : Name → List Name → Statement
latch_line out (from ∷ []) = latch out from
latch_line out _ = wrong BadCount

-- `out = word(ins)` with another word
abbrev pub table_line : Name → Option GateRule → List Name → Statement
table_line out word ins = elim word [
  | Some gate ↦ if takes gate (length ins) then table out gate ins else wrong BadCount
  | None ↦ wrong BadGate
]

-- `out = word(ins)`, where the names in the brackets are well-formed
abbrev pub driver_line : (out word : Name) → Option (List Name) → Statement
driver_line out word None = wrong BadLine
driver_line out word (Some ins) = if is_word (codes "DFF") word then latch_line out ins else table_line out (gate_named word) ins

-- ---- gates

-- the number of ones is odd
abbrev pub is_odd_row : List Lit → Bool
is_odd_row row = count_by is_one_cell row % 2 == 1

-- the most inputs that a gate may have
abbrev pub most_inputs : Gate → ℕ
most_inputs gate = (gate_rule gate).most

-- the rows of a gate's table
abbrev pub gate_rows : Gate → ℕ → List (List Lit)
gate_rows gate = (gate_rule gate).rows

-- ---- what one line brings

-- the net that is an input
abbrev pub input_at : Statement → List Name
input_at (input net) = net ∷ []
input_at _ = []

-- the net that is an output
abbrev pub output_at : Statement → List Name
output_at (output net) = net ∷ []
output_at _ = []

-- the net that a table drives
abbrev pub table_net : Statement → List Name
table_net (table out gate ins) = out ∷ []
table_net _ = []

-- the net that a latch drives
abbrev pub latch_net : Statement → List Name
latch_net (latch out from) = out ∷ []
latch_net _ = []

-- the table of a line, if it has one
abbrev pub table_on_line : List Name → Statement → Option Table
table_on_line nets (table out gate ins) =
    Some (record { ins = map (net_id nets) ins; rows = gate.rows (length ins); on = gate.on })
table_on_line nets _ = None

-- the latch of a line, if it has one
abbrev pub latch_on_line : List Name → Statement → Option Latch
latch_on_line nets (latch out from) = Some (record { from = net_id nets from; to = net_id nets out; start = false })
latch_on_line nets _ = None

-- the cells of a line's table
abbrev pub cells_at : Statement → ℕ
cells_at (table out gate ins) = length (gate.rows (length ins)) * length ins
cells_at _ = 0

-- ---- what all lines bring

-- the outputs, each once
unfoldable pub outputs_of : List Said → List Name
outputs_of lines = distinct (flat_map (λ line. output_at line.says) lines)

-- the nets that tables drive
unfoldable pub table_nets_of : List Said → List Name
table_nets_of lines = flat_map (λ line. table_net line.says) lines

-- the nets that latches drive
unfoldable pub latch_nets_of : List Said → List Name
latch_nets_of lines = flat_map (λ line. latch_net line.says) lines

-- the netlist of lines
abbrev pub numbered_circuit : List Said → Circuit
numbered_circuit lines = record {
  names = nets_of lines;
  drivers = map (driver_of (drivers_of lines)) (nets_of lines);
  tables = filter_map (λ line. table_on_line (nets_of lines) line.says) lines;
  latches = filter_map (λ line. latch_on_line (nets_of lines) line.says) lines;
  inputs = map (net_id (nets_of lines)) (inputs_of lines);
  outputs = map (net_id (nets_of lines)) (outputs_of lines);
}

-- the first fault of all lines together
abbrev pub net_fault : List Said → Option BenchFault
net_fault lines = first_answer (too_large lines ∷ two_drivers lines ∷ undriven lines ∷ [])

-- the first fault
abbrev pub bad_bench : List Said → Option BenchFault
bad_bench lines = option_or (line_fault lines) (net_fault lines)

-- the netlist of lines, unless there is a fault
abbrev pub bench_unless : Option BenchFault → List Said → Result Circuit BenchFault
bench_unless fault lines = elim fault [ Some fault ↦ Err fault | None ↦ Ok (numbered_circuit lines) ]
