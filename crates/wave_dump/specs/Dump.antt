-- The value change dump of one run. Source: the four-state value change dump of IEEE 1364-2005, clause 18, of which it has scalar wires
-- and the values 0 and 1 alone.
use Rattle.std.specs.Prelude.{ℕ, zero, suc, ◌+◌, ◌-◌, ◌*◌, ◌/◌, ◌%◌, Bool, false, not, ◌||◌, List, [], ◌∷◌, ◌++◌, length, flat_map, Option, is_some, slice_get, slice_index, if◌then◌else◌, ◌==◌, nat_lt, codes, decimal}
use Rattle.std.specs.Option.{option_map_or}
use Rattle.std.specs.Str.{byte}
use Rattle.circuit.specs.declared.parts.Fault.{Fault}
use Rattle.circuit.specs.Circuit.{Circuit}
use Rattle.circuit.specs.Names.{net_name}
use Rattle.circuit.specs.Trace.{trace}
use Rattle.workload.specs.declared.run.Run.{Run}
use Rattle.workload.specs.Runs.{cycles_of}
use Rattle.fm_base.specs.Firsts.{given}
use Rattle.fm_base.specs.Lists.{below, same_bit}
use Rattle.fm_base.specs.Names.{Bytes, Name}
use Rattle.fm_base.specs.Text.{line}

-- what is dumped: a run of a circuit, without faults and, where there is a fault, with this one alone; and the nets that are shown, by their numbers
pub record Waves : Type 0 where
  pub circuit : Circuit
  pub run : Run
  pub fault : Option Fault
  pub nets : List ℕ

-- the fault alone, where there is one
abbrev pub alone : Option Fault → List Fault
alone fault = option_map_or (λ f. f ∷ []) fault []

-- ---- scopes and their variables

-- scope 0 is the run without faults; scope 1, which stands where there is a fault, is the run with it alone
abbrev pub scope_count : Waves → ℕ
scope_count w = if is_some w.fault then 2 else 1

abbrev pub scope_name : ℕ → Bytes
scope_name scope = if scope == 0 then codes "golden" else codes "faulty"

abbrev pub scope_faults : Waves → ℕ → List Fault
scope_faults w scope = if scope == 0 then [] else alone w.fault

-- the variable of the net at a place of the nets that are shown: in each scope one for each of them, numbered through from 0
abbrev pub variable : Waves → ℕ → ℕ → ℕ
variable w scope place = scope * length w.nets + place

-- its value at a cycle: that of its net in the run of its scope
abbrev pub value_at : Waves → ℕ → ℕ → ℕ → Bool
value_at w scope place t = trace w.circuit (scope_faults w scope) w.run.vectors t (slice_index w.nets place)

-- the identifier code of a variable, least character first: the characters from ! to ~ are the digits 1 to 94. Three of them number
-- 839,514 variables, and there are at most 524,288
unfoldable pub code_within : ℕ → ℕ → Bytes
code_within zero n = []
code_within (suc more) n = (33 + n % 94) ∷ (if nat_lt n 94 then [] else code_within more (n / 94 - 1))

abbrev pub identifier_code : ℕ → Bytes
identifier_code n = code_within 3 n

-- a net's name, as the netlist has it; behind a backslash, as Verilog's escaped identifiers are, where it begins with `$` or with a
-- backslash (92), so that none is taken for a keyword
abbrev pub reference : Name → Bytes
reference name = if option_map_or (λ b. (b == byte "$") || (b == 92)) (slice_get name 0) false then 92 ∷ name else name

-- ---- the text

-- the declarations of a scope: a wire of one bit for each net
unfoldable pub declared_scope : Waves → ℕ → Bytes
declared_scope w scope =
    let wire : ℕ → Bytes = λ place. line (
    codes "$var wire 1" ∷ identifier_code (variable w scope place) ∷ reference (net_name w.circuit (slice_index w.nets place)) ∷ codes "$end" ∷ [])
    in
    line (codes "$scope module" ∷ scope_name scope ∷ codes "$end" ∷ []) ++ flat_map wire (below (length w.nets)) ++ line (codes "$upscope $end" ∷ [])

-- what a cycle prints of a variable: its value, in cycle 0 and where it isn't that of the cycle before
abbrev pub printed : Waves → ℕ → ℕ → ℕ → Option Bool
printed w scope place t = given ((t == 0) || not (same_bit (value_at w scope place t) (value_at w scope place (t - 1)))) (value_at w scope place t)

-- the line of a value: the bit and the variable's code
abbrev pub value_line : ℕ → Bool → Bytes
value_line variable bit = (if bit then byte "1" else byte "0") ∷ identifier_code variable ++ 10 ∷ []

-- the values that a cycle prints in a scope
unfoldable pub scope_values : Waves → ℕ → ℕ → Bytes
scope_values w t scope = flat_map (λ place. option_map_or (value_line (variable w scope place)) (printed w scope place t) []) (below (length w.nets))

-- a moment: cycle t is the time t
abbrev pub moment : ℕ → Bytes
moment t = byte "#" ∷ decimal t ++ 10 ∷ []

-- a cycle: its moment, whether a value is printed or none, and the values in each scope
unfoldable pub cycle_values : Waves → ℕ → Bytes
cycle_values w t = moment t ++ flat_map (scope_values w t) (below (scope_count w))

-- THE TEXT of `trace`: declarations, each cycle, and the moment at which the run has ended
unfoldable pub dump_text : Waves → Bytes
dump_text w =
    codes "$version fmeda trace $end\n$timescale 1 ns $end\n"
    ++ flat_map (declared_scope w) (below (scope_count w))
    ++ codes "$enddefinitions $end\n"
    ++ flat_map (cycle_values w) (below (cycles_of w.run))
    ++ moment (cycles_of w.run)
