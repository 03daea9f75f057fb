-- What is gathered of the lines of a file, one after the other.
use Rattle.std.specs.Prelude.{◌≡◌, ℕ, ◌+◌, ◌*◌, ◌^◌, Bool, true, false, ◌||◌, List, [], ◌∷◌, ◌++◌, fold, if◌then◌else◌, length, nat_lt, None, is_none}
use Rattle.std.specs.List.{AllByRecursion}
use Rattle.std.specs.Option.{option_or}
use Rattle.circuit.specs.declared.parts.Latch.{Latch}
use Rattle.circuit.specs.declared.parts.NetId.{NetId}
use Rattle.circuit.specs.declared.parts.Table.{Table}
use Rattle.fm_base.specs.Firsts.{given}
use Rattle.fm_base.specs.Names.{Name}
use Rattle.net_names.specs.Nets.{net_id}
use Rattle.bench_reader.specs.declared.gather.Gathered.{Gathered}
use Rattle.bench_reader.specs.declared.parts.Parts.{Parts}
use Rattle.bench_reader.specs.Gates.{GateRule, takes}
use Rattle.bench_reader.specs.LineFault.{Said}
use Rattle.bench_reader.specs.Marks.{NetMarks, ids_from, is_driven, is_given, mention, mention_all, no_nets, with_driven, with_given}
use Rattle.bench_reader.specs.Statement.{Statement, input, output, table, latch}

-- a table has as many inputs as its gate allows, and a cell for each in each row
abbrev pub StatementFits : Statement → Type 0
StatementFits (table out gate ins) = (takes gate (length ins) ≡ true) × AllByRecursion (λ row. length row ≡ length ins) (gate.rows (length ins))
StatementFits _ = Unit {0}

abbrev pub no_parts : Parts
no_parts = record { inputs = []; outputs = []; tables = []; table_nets = []; latches = []; latch_nets = [] }

-- nothing is gathered
abbrev pub no_lines : Gathered
no_lines = record { nets = no_nets; parts = no_parts; cells = 0; second = None }

-- there are too many nets or cells
abbrev pub is_full : Gathered → Bool
is_full g = nat_lt (2 ^ 18) (length g.nets.names) || nat_lt (2 ^ 24) g.cells

-- a net is driven at a line
abbrev pub driven_at : Gathered → ℕ → NetId → Gathered
driven_at g line net = record g { nets = with_driven g.nets net; second = option_or g.second (given (is_driven g.nets net) line) }

-- a part that a driven net brings, where no net is driven a second time
abbrev pub with_part : Gathered → (Parts → Parts) → Gathered
with_part g add = if is_none g.second then record g { parts = add g.parts } else g

-- the same nets and one more line's names
abbrev pub with_nets : Gathered → NetMarks → Gathered
with_nets g nets = record g { nets = nets }

abbrev pub add_input : Gathered → ℕ → Name → Gathered
add_input g line name =
    let nets = mention line g.nets name in
    let net = net_id nets.names name in
    with_part (driven_at (with_nets g nets) line net) (λ p. record p { inputs = p.inputs ++ net ∷ [] })

abbrev pub add_output : Gathered → ℕ → Name → Gathered
add_output g line name =
    let nets = mention line g.nets name in
    let net = net_id nets.names name in
    let p = g.parts in
    record g { nets = with_given nets net; parts = if is_given nets net then p else record p { outputs = p.outputs ++ net ∷ [] } }

abbrev pub add_latch : Gathered → ℕ → Name → Name → Gathered
add_latch g line out from =
    let nets = mention line g.nets out in
    let both = mention line nets from in
    let to = net_id nets.names out in
    let held : Latch = record { from = net_id both.names from; to = to; start = false } in
    with_part (driven_at (with_nets g both) line to) (λ p. record p { latches = p.latches ++ held ∷ []; latch_nets = p.latch_nets ++ to ∷ [] })

-- the table of a gate
abbrev pub gate_table : GateRule → List NetId → Table
gate_table gate ins = record { ins = ins; rows = gate.rows (length ins); on = gate.on }

abbrev pub add_table : Gathered → ℕ → Name → GateRule → List Name → Gathered
add_table g line out gate ins =
    let nets = mention line g.nets out in
    let all = mention_all line nets ins in
    let to = net_id nets.names out in
    let made = gate_table gate (ids_from line nets ins) in
    let counted = record g { nets = all; cells = g.cells + length made.rows * length made.ins } in
    with_part (driven_at counted line to) (λ p. record p { tables = p.tables ++ made ∷ []; table_nets = p.table_nets ++ to ∷ [] })

-- what a statement adds
abbrev pub add_statement : Gathered → ℕ → Statement → Gathered
add_statement g line (input net) = add_input g line net
add_statement g line (output net) = add_output g line net
add_statement g line (table out gate ins) = add_table g line out gate ins
add_statement g line (latch out from) = add_latch g line out from
add_statement g line _ = g

-- nothing is added once there are too many nets or cells
abbrev pub add_said : Gathered → Said → Gathered
add_said g line = if is_full g then g else add_statement g line.number line.says

-- what lines bring
abbrev pub gathered_from : Gathered → List Said → Gathered
gathered_from g lines = fold add_said g lines
