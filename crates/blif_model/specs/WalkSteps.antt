-- Shapes of private steps: the walk item by item, what each line of it brings, and the netlist part by part.
use Rattle.std.specs.Prelude.{ℕ, ◌+◌, ◌==◌, Bool, List, [], ◌∷◌, ◌++◌, map, Option, Some, None, codes, decimal, if◌then◌else◌, Result, Ok, Err}
use Rattle.std.specs.Option.{option_map, option_to_list}
use Rattle.std.specs.Str.{byte}
use Rattle.circuit.specs.declared.parts.Lit.{Lit}
use Rattle.circuit.specs.declared.parts.Lit.TheVariants.{Zero, One, Any}
use Rattle.circuit.specs.declared.parts.Table.{Table}
use Rattle.circuit.specs.declared.parts.Latch.{Latch}
use Rattle.circuit.specs.Circuit.{Circuit}
use Rattle.fm_base.specs.Names.{Name, is_one_of}
use Rattle.net_names.specs.Nets.{net_id}
use Rattle.blif_text.specs.declared.NetlistFault.{NetlistFault}
use Rattle.blif_model.specs.Models.{Item}
use Rattle.blif_model.specs.Net.{circuit_of, lits_of, table_plane}
use Rattle.blif_model.specs.Statement.{Binding, LatchLine, Statement, instance}
use Rattle.blif_model.specs.Walk.{Act, takes, gives, clocks, visits, flat_table, flat_latch, Scope, top, inside, Step, Visit, clock_names, acts_of, net_of, unclocked}

-- the path of instance j
abbrev pub path_of : ℕ → Scope → Name
path_of j = elim [ top ↦ codes "u" ++ decimal j | inside path bound ↦ path ++ codes ".u" ++ decimal j ]

-- the scope of instance j
abbrev pub scope_of : Scope → ℕ → List Binding → Scope
scope_of scope j bindings =
    inside (path_of j scope) (map (λ b. record { formal = b.formal; actual = net_of scope b.actual }) bindings)

-- a line of ports means something of its own in the main model alone
abbrev pub port : (List Name → Act) → List Name → Scope → Act
port own names scope = let net = net_of scope in elim scope [ top ↦ own names | inside path bound ↦ visits (map net names) ]

-- a latch line with net names
abbrev pub flat_latch_of : Scope → LatchLine → LatchLine
flat_latch_of scope l =
    let net = net_of scope in
    record { from = net l.from; to = net l.to; edge = l.edge; control = option_map net l.control; start = l.start }

-- behind a `.subckt` line comes the walk of its instance, which is instance j
abbrev pub inner_steps : (Scope → Name → List Step) → Scope → ℕ → Statement → List Step
inner_steps enter scope j (instance name bindings) = enter (scope_of scope j bindings) name
inner_steps enter scope j _ = []

-- the `.subckt` lines of a model are numbered from 0
abbrev pub next : ℕ → Statement → ℕ
next j (instance name bindings) = j + 1
next j _ = j

-- the walk of one item; `enter` walks the model of a name in a scope
abbrev pub steps_of : (Scope → Name → List Step) → Scope → ℕ → Item → List Step
steps_of enter scope j item =
    map (λ act. record { line = item.line; act = act }) (acts_of scope item.says item.rows) ++ inner_steps enter scope j item.says

-- ---- names of a line

-- names that stand at one line
abbrev pub names_at : ℕ → List Name → List Visit
names_at line names = map (λ name. record { name = name; line = line }) names

-- the name is a clock name
abbrev pub is_clock : List Step → Name → Bool
is_clock steps name = is_one_of (clock_names steps) name

-- the nets that a line drives: inputs that are no clock names, the output of a table, and that of a latch
abbrev pub driven_nets : List Step → Act → List Name
driven_nets steps = elim [ takes names ↦ unclocked steps names | flat_table ins out rows ↦ out ∷ [] | flat_latch l ↦ l.to ∷ [] | _ ↦ [] ]

-- the clock names that a line brings
abbrev pub clocked : Act → List Name
clocked (clocks names) = names
clocked (flat_latch l) = option_to_list l.control
clocked _ = []

-- the type of a latch, if it has one
abbrev pub edge_of : Act → List Name
edge_of (flat_latch l) = option_to_list l.edge
edge_of _ = []

-- the names on an `.inputs` or `.clock` line of the main model
abbrev pub input_nets : Act → List Name
input_nets (takes names) = names
input_nets (clocks names) = names
input_nets _ = []

-- the net of a latch's control
abbrev pub control_of : Act → List Name
control_of (flat_latch l) = option_to_list l.control
control_of _ = []

-- what a table or a latch reads, and what the main model has as outputs
abbrev pub read : Act → List Name
read (flat_table ins out rows) = ins
read (flat_latch l) = l.from ∷ []
read (gives names) = names
read _ = []

-- the inputs that a line brings, clock names aside
abbrev pub taken : List Step → Act → List Name
taken steps (takes names) = unclocked steps names
taken steps _ = []

-- the net that a table drives
abbrev pub table_net : Act → List Name
table_net (flat_table ins out rows) = out ∷ []
table_net _ = []

-- the net that a latch drives
abbrev pub latch_net : Act → List Name
latch_net (flat_latch l) = l.to ∷ []
latch_net _ = []

-- the outputs that a line brings
abbrev pub outputs_at : Act → List Name
outputs_at (gives names) = names
outputs_at _ = []

-- ---- parts of the netlist

-- the literal of a cell
abbrev pub lit_of : ℕ → Lit
lit_of b = if b == byte "0" then Zero else if b == byte "1" then One else Any

-- the table of a line, if it is one
abbrev pub table_of : List Name → Act → Option Table
table_of nets (flat_table ins out rows) = Some (record { ins = map (net_id nets) ins; rows = map lits_of rows; on = table_plane rows })
table_of nets _ = None

-- the latch of a line, if it is one
abbrev pub latch_of : List Name → Act → Option Latch
latch_of nets (flat_latch l) = Some (record { from = net_id nets l.from; to = net_id nets l.to; start = l.start })
latch_of nets _ = None

-- the netlist, unless there is a fault
abbrev pub netlist_unless : List Step → Option NetlistFault → Result Circuit NetlistFault
netlist_unless steps (Some fault) = Err fault
netlist_unless steps None = Ok (circuit_of steps)
