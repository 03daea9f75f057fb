-- `.bench` files of a few lines, and what they mean by the definitions: each is computed.
use Rattle.std.specs.Prelude.{◌≡◌, ℕ, Bool, true, false, List, [], ◌∷◌, codes, length, map, refl, replicate, Option, Some, None, option_map, Result, Ok, Err}
use Rattle.circuit.specs.declared.parts.Driver.TheVariants.{Input, Table as FromTable, Latch as FromLatch}
use Rattle.circuit.specs.declared.parts.Lit.{Lit}
use Rattle.circuit.specs.declared.parts.Lit.TheVariants.{Zero, One}
use Rattle.circuit.specs.declared.parts.NetId.{NetId}
use Rattle.circuit.specs.declared.parts.Table.{Table}
use Rattle.circuit.specs.Circuit.{Circuit}
use Rattle.circuit.specs.Table.{table_value}
use Rattle.bench_reader.specs.declared.gate.Gate.{Gate}
use Rattle.bench_reader.specs.declared.gate.Gate.TheVariants.{And, Nand, Or, Nor, Xor, Xnor, Not, Buffer}
use Rattle.bench_reader.specs.declared.BenchFault.{BenchFault}
use Rattle.bench_reader.specs.declared.BenchKind.TheVariants.{BadLine, BadGate, BadCount, TooWide, TwoDrivers, Undriven}
use Rattle.bench_reader.specs.Bench.{bench_of}
use Rattle.bench_reader.specs.Gates.{gate_rule, odd_rows, takes_inputs}
use Rattle.bench_reader.specs.Tokens.{opening, closing, comma, equals, name, tokens_of}
use Rattle.test_definitions.specs.Opened.{opened}

-- the fault of a file
fault_in : Result Circuit BenchFault → Option BenchFault
fault_in (Ok c) = None
fault_in (Err fault) = Some fault

refused : List ℕ → Option BenchFault
unfolding opened fault_in
refused bytes = fault_in (bench_of bytes)

-- the netlist of a file
circuit_in : Result Circuit BenchFault → Option Circuit
circuit_in (Ok c) = Some c
circuit_in (Err fault) = None

accepted : List ℕ → Option Circuit
unfolding opened circuit_in
accepted bytes = circuit_in (bench_of bytes)

-- the names of its nets
names_of : List ℕ → Option (List (List ℕ))
unfolding accepted
names_of bytes = option_map (λ c. c.names) (accepted bytes)

net : ℕ → NetId
net n = record { 0 = n }

-- ---- tokens

-- white space is free between tokens, and marks end names
tokens-free : tokens_of (codes " y=\tAND ( a,b_1 )\r") ≡ name (codes "y") ∷ equals ∷ name (codes "AND") ∷ opening ∷ name (codes "a") ∷ comma ∷ name (codes "b_1") ∷ closing ∷ []
unfolding opened
tokens-free = refl

-- names have all other bytes
tokens-names : tokens_of (codes "G10.a[3]/q-1 ;?") ≡ name (codes "G10.a[3]/q-1") ∷ name (codes ";?") ∷ []
unfolding opened
tokens-names = refl

-- ---- gates

-- the rows of an exclusive OR of two and of three, as rising binary numbers with the first input highest
rows-xor : (odd_rows 2 ≡ (Zero ∷ One ∷ []) ∷ (One ∷ Zero ∷ []) ∷ []) × (odd_rows 3 ≡ (Zero ∷ Zero ∷ One ∷ []) ∷ (Zero ∷ One ∷ Zero ∷ []) ∷ (One ∷ Zero ∷ Zero ∷ []) ∷ (One ∷ One ∷ One ∷ []) ∷ [])
unfolding opened
rows-xor = (refl, refl)

-- of one input it is a copy, and of eight it has 128 rows
rows-ends : (odd_rows 1 ≡ (One ∷ []) ∷ []) × (length (odd_rows 8) ≡ 128)
unfolding opened
rows-ends = (refl, refl)

-- the value of a gate on bits
value : Gate → List Bool → Bool
unfolding opened
value gate bits = let rule = gate_rule gate in table_value (record { ins = []; rows = rule.rows (length bits); on = rule.on }) bits

-- each gate on 00, 01, 10 and 11
abbrev on_pairs : Gate → List Bool
on_pairs gate = value gate (false ∷ false ∷ []) ∷ value gate (false ∷ true ∷ []) ∷ value gate (true ∷ false ∷ []) ∷ value gate (true ∷ true ∷ []) ∷ []

pairs : (on_pairs And ≡ false ∷ false ∷ false ∷ true ∷ []) × (on_pairs Nand ≡ true ∷ true ∷ true ∷ false ∷ [])
    × (on_pairs Or ≡ false ∷ true ∷ true ∷ true ∷ []) × (on_pairs Nor ≡ true ∷ false ∷ false ∷ false ∷ [])
    × (on_pairs Xor ≡ false ∷ true ∷ true ∷ false ∷ []) × (on_pairs Xnor ≡ true ∷ false ∷ false ∷ true ∷ [])
unfolding value opened
pairs = (refl, refl, refl, refl, refl, refl)

-- and on 0 and 1
abbrev on_bits : Gate → List Bool
on_bits gate = value gate (false ∷ []) ∷ value gate (true ∷ []) ∷ []

singles : (on_bits Not ≡ true ∷ false ∷ []) × (on_bits Buffer ≡ false ∷ true ∷ []) × (on_bits And ≡ false ∷ true ∷ []) × (on_bits Nor ≡ true ∷ false ∷ []) × (on_bits Xnor ≡ true ∷ false ∷ [])
unfolding value opened
singles = (refl, refl, refl, refl, refl)

-- the exclusive OR of eight on eight ones, and on seven
eight : (value Xor (replicate 8 true) ≡ false) × (value Xor (false ∷ replicate 7 true) ≡ true)
unfolding value opened
eight = (refl, refl)

-- 1,024 inputs are taken, and 1,025 aren't
counts : (takes_inputs And 1024 ≡ true) × (takes_inputs And 1025 ≡ false) × (takes_inputs Xnor 8 ≡ true) × (takes_inputs Xnor 9 ≡ false) × (takes_inputs Nor 0 ≡ false)
counts = (refl, refl, refl, refl, refl)

-- ---- netlists

abbrev dup : List ℕ
dup = codes "INPUT(a)\nINPUT(b)\nOUTPUT(y)\nOUTPUT(al)\ny = AND(a, b)\nz = and(a,b)\nal = XOR(y, z)\n"

-- the duplicated AND with its comparator
accepts-dup : accepted dup ≡ Some (record {
  names = codes "a" ∷ codes "b" ∷ codes "y" ∷ codes "al" ∷ codes "z" ∷ [];
  drivers = Input 0 ∷ Input 1 ∷ FromTable 0 ∷ FromTable 2 ∷ FromTable 1 ∷ [];
  tables = record { ins = net 0 ∷ net 1 ∷ []; rows = (One ∷ One ∷ []) ∷ []; on = true }
      ∷ record { ins = net 0 ∷ net 1 ∷ []; rows = (One ∷ One ∷ []) ∷ []; on = true }
      ∷ record { ins = net 2 ∷ net 4 ∷ []; rows = (Zero ∷ One ∷ []) ∷ (One ∷ Zero ∷ []) ∷ []; on = true } ∷ [];
  latches = [];
  inputs = net 0 ∷ net 1 ∷ [];
  outputs = net 2 ∷ net 3 ∷ [];
})
unfolding accepted net
accepts-dup = refl

-- outputs and gates may stand before what drives them; nets are numbered from left to right, outputs of gates first
accepts-order : names_of (codes "y = NAND(b, a)\nOUTPUT(q)\nq = DFF(y)\nINPUT(a)\nINPUT(b)\n") ≡ Some (codes "y" ∷ codes "b" ∷ codes "a" ∷ codes "q" ∷ [])
unfolding names_of
accepts-order = refl

-- a flip-flop is a latch that starts at 0, here with a way back to itself
accepts-latch : accepted (codes "q = dff(d)\nd = Not( q )\nOUTPUT(q)\n") ≡ Some (record {
  names = codes "q" ∷ codes "d" ∷ [];
  drivers = FromLatch 0 ∷ FromTable 0 ∷ [];
  tables = record { ins = net 0 ∷ []; rows = (Zero ∷ []) ∷ []; on = true } ∷ [];
  latches = record { from = net 1; to = net 0; start = false } ∷ [];
  inputs = [];
  outputs = net 0 ∷ [];
})
unfolding accepted net
accepts-latch = refl

-- the rows and the planes of its tables
rows_and_planes : Circuit → List (List (List Lit) × Bool)
rows_and_planes c = map (λ (t : Table). (t.rows, t.on)) c.tables

-- words in letters of either case, and both words of a buffer
accepts-case : option_map rows_and_planes (accepted (codes "input(a)\nOutput(y)\ny = Buf(a)\nz = bUFF(a)\nx = nAnD(a)\n"))
    ≡ Some (((One ∷ []) ∷ [], true) ∷ ((One ∷ []) ∷ [], true) ∷ ((One ∷ []) ∷ [], false) ∷ [])
unfolding accepted rows_and_planes
accepts-case = refl

-- a net may be named as a word is
accepts-words : names_of (codes "INPUT(a)\nINPUT = AND(a)\nDFF = OR(INPUT)\nOUTPUT(OUTPUT)\nOUTPUT = NOT(DFF)\n") ≡ Some (codes "a" ∷ codes "INPUT" ∷ codes "DFF" ∷ codes "OUTPUT" ∷ [])
unfolding names_of
accepts-words = refl

-- an output that is named twice is taken once, at its first line
accepts-outputs : option_map (λ c. c.outputs) (accepted (codes "OUTPUT(b)\nOUTPUT(a)\nOUTPUT(b)\nINPUT(a)\nINPUT(b)\n")) ≡ Some (net 0 ∷ net 1 ∷ [])
unfolding accepted net
accepts-outputs = refl

-- comments, empty lines, carriage returns, and no line feed at the end
accepts-comments : names_of (codes "# c17\r\n\r\n  INPUT(a) # first\r\n#OUTPUT(z)\nOUTPUT(a)") ≡ Some (codes "a" ∷ [])
unfolding names_of
accepts-comments = refl

-- one net may stand at several inputs of a gate
accepts-twice : option_map (λ c. map (λ (t : Table). t.ins) c.tables) (accepted (codes "INPUT(a)\ny = XNOR(a, a)\n")) ≡ Some ((net 0 ∷ net 0 ∷ []) ∷ [])
unfolding accepted net
accepts-twice = refl

-- the empty file is the netlist without nets
accepts-empty : names_of (codes "") ≡ Some []
unfolding names_of
accepts-empty = refl

-- a loop is no fault of the file
accepts-loop : names_of (codes "y = NOT(y)\n") ≡ Some (codes "y" ∷ [])
unfolding names_of
accepts-loop = refl

-- a name of 255 bytes
accepts-wide : option_map (λ c. length c.drivers) (accepted (codes "INPUT(wwwwwwwwwwwwwwwwwwwwwwwwwwwwwwwwwwwwwwwwwwwwwwwwwwwwwwwwwwwwwwwwwwwwwwwwwwwwwwwwwwwwwwwwwwwwwwwwwwwwwwwwwwwwwwwwwwwwwwwwwwwwwwwwwwwwwwwwwwwwwwwwwwwwwwwwwwwwwwwwwwwwwwwwwwwwwwwwwwwwwwwwwwwwwwwwwwwwwwwwwwwwwwwwwwwwwwwwwwwwwwwwwwwwwwwwwwwwwwwwwwwwwwwwwwwwwww)\n")) ≡ Some 1
unfolding accepted
accepts-wide = refl

-- ---- refusals

-- a gate word of another dialect
refuses-maj : refused (codes "y = MAJ(a, b, c)\n") ≡ Some (record { line = 1; kind = BadGate })
unfolding refused
refuses-maj = refl

-- an output that nothing drives
refuses-undriven : refused (codes "OUTPUT(y)\n") ≡ Some (record { line = 1; kind = Undriven (codes "y") })
unfolding refused
refuses-undriven = refl

-- a word alone
refuses-word : refused (codes "INPUT(a)\nOUTPUT a\n") ≡ Some (record { line = 2; kind = BadLine })
unfolding refused
refuses-word = refl

-- two ports on one line
refuses-two_ports : refused (codes "INPUT(a) INPUT(b)\n") ≡ Some (record { line = 1; kind = BadLine })
unfolding refused
refuses-two_ports = refl

-- a port of two nets
refuses-port_list : refused (codes "INPUT(a, b)\n") ≡ Some (record { line = 1; kind = BadLine })
unfolding refused
refuses-port_list = refl

-- a port without a net
refuses-no_port : refused (codes "INPUT()\n") ≡ Some (record { line = 1; kind = BadLine })
unfolding refused
refuses-no_port = refl

-- a gate without an output
refuses-other_port : refused (codes "AND(a)\n") ≡ Some (record { line = 1; kind = BadLine })
unfolding refused
refuses-other_port = refl

-- a driver without a word
refuses-no_gate : refused (codes "y = (a)\n") ≡ Some (record { line = 1; kind = BadLine })
unfolding refused
refuses-no_gate = refl

-- a driver without brackets
refuses-copy : refused (codes "y = a\n") ≡ Some (record { line = 1; kind = BadLine })
unfolding refused
refuses-copy = refl

-- a comma behind the last input
refuses-trailing : refused (codes "y = AND(a,)\n") ≡ Some (record { line = 1; kind = BadLine })
unfolding refused
refuses-trailing = refl

-- a comma before the first
refuses-leading : refused (codes "y = AND(,a)\n") ≡ Some (record { line = 1; kind = BadLine })
unfolding refused
refuses-leading = refl

-- two inputs without a comma
refuses-no_comma : refused (codes "y = AND(a b)\n") ≡ Some (record { line = 1; kind = BadLine })
unfolding refused
refuses-no_comma = refl

-- no closing bracket
refuses-unclosed : refused (codes "y = AND(a, b\n") ≡ Some (record { line = 1; kind = BadLine })
unfolding refused
refuses-unclosed = refl

-- a statement over two lines
refuses-joined : refused (codes "y = AND(a,\nb)\n") ≡ Some (record { line = 1; kind = BadLine })
unfolding refused
refuses-joined = refl

-- more behind the closing bracket
refuses-behind : refused (codes "y = AND(a, b) ;\n") ≡ Some (record { line = 1; kind = BadLine })
unfolding refused
refuses-behind = refl

-- a comment takes the closing bracket
refuses-commented : refused (codes "y = AND(a, b #)\n") ≡ Some (record { line = 1; kind = BadLine })
unfolding refused
refuses-commented = refl

-- a malformed list goes before an unknown word
refuses-unknown_list : refused (codes "y = MAJ(a,)\n") ≡ Some (record { line = 1; kind = BadLine })
unfolding refused
refuses-unknown_list = refl

-- an unknown word goes before a wrong number of inputs
refuses-unknown_none : refused (codes "y = VDD()\n") ≡ Some (record { line = 1; kind = BadGate })
unfolding refused
refuses-unknown_none = refl

-- a gate without inputs
refuses-none : refused (codes "y = AND()\n") ≡ Some (record { line = 1; kind = BadCount })
unfolding refused
refuses-none = refl

-- an inverter of two
refuses-not_two : refused (codes "y = NOT(a, b)\n") ≡ Some (record { line = 1; kind = BadCount })
unfolding refused
refuses-not_two = refl

-- a buffer of none
refuses-buff_none : refused (codes "y = BUFF( )\n") ≡ Some (record { line = 1; kind = BadCount })
unfolding refused
refuses-buff_none = refl

-- a flip-flop of two
refuses-dff_two : refused (codes "q = DFF(a, b)\n") ≡ Some (record { line = 1; kind = BadCount })
unfolding refused
refuses-dff_two = refl

-- a flip-flop of none
refuses-dff_none : refused (codes "q = DFF()\n") ≡ Some (record { line = 1; kind = BadCount })
unfolding refused
refuses-dff_none = refl

-- an exclusive OR of nine
refuses-xor_nine : refused (codes "y = XOR(a, a, a, a, a, a, a, a, a)\n") ≡ Some (record { line = 1; kind = BadCount })
unfolding refused
refuses-xor_nine = refl

-- a name of 256 bytes
refuses-wide : refused (codes "INPUT(a)\nINPUT(wwwwwwwwwwwwwwwwwwwwwwwwwwwwwwwwwwwwwwwwwwwwwwwwwwwwwwwwwwwwwwwwwwwwwwwwwwwwwwwwwwwwwwwwwwwwwwwwwwwwwwwwwwwwwwwwwwwwwwwwwwwwwwwwwwwwwwwwwwwwwwwwwwwwwwwwwwwwwwwwwwwwwwwwwwwwwwwwwwwwwwwwwwwwwwwwwwwwwwwwwwwwwwwwwwwwwwwwwwwwwwwwwwwwwwwwwwwwwwwwwwwwwwwwwwwwwwww)\n") ≡ Some (record { line = 2; kind = TooWide })
unfolding refused
refuses-wide = refl

-- a wide word is first of all an unknown one
refuses-wide_word : refused (codes "y = wwwwwwwwwwwwwwwwwwwwwwwwwwwwwwwwwwwwwwwwwwwwwwwwwwwwwwwwwwwwwwwwwwwwwwwwwwwwwwwwwwwwwwwwwwwwwwwwwwwwwwwwwwwwwwwwwwwwwwwwwwwwwwwwwwwwwwwwwwwwwwwwwwwwwwwwwwwwwwwwwwwwwwwwwwwwwwwwwwwwwwwwwwwwwwwwwwwwwwwwwwwwwwwwwwwwwwwwwwwwwwwwwwwwwwwwwwwwwwwwwwwwwwwwwwwwwwww(a)\n") ≡ Some (record { line = 1; kind = BadGate })
unfolding refused
refuses-wide_word = refl

-- a wrong number of inputs goes before a wide name
refuses-wide_count : refused (codes "y = NOT(a, wwwwwwwwwwwwwwwwwwwwwwwwwwwwwwwwwwwwwwwwwwwwwwwwwwwwwwwwwwwwwwwwwwwwwwwwwwwwwwwwwwwwwwwwwwwwwwwwwwwwwwwwwwwwwwwwwwwwwwwwwwwwwwwwwwwwwwwwwwwwwwwwwwwwwwwwwwwwwwwwwwwwwwwwwwwwwwwwwwwwwwwwwwwwwwwwwwwwwwwwwwwwwwwwwwwwwwwwwwwwwwwwwwwwwwwwwwwwwwwwwwwwwwwwwwwwwwww)\n") ≡ Some (record { line = 1; kind = BadCount })
unfolding refused
refuses-wide_count = refl

-- the first faulty line decides, whatever its kind
refuses-first_line : refused (codes "INPUT(wwwwwwwwwwwwwwwwwwwwwwwwwwwwwwwwwwwwwwwwwwwwwwwwwwwwwwwwwwwwwwwwwwwwwwwwwwwwwwwwwwwwwwwwwwwwwwwwwwwwwwwwwwwwwwwwwwwwwwwwwwwwwwwwwwwwwwwwwwwwwwwwwwwwwwwwwwwwwwwwwwwwwwwwwwwwwwwwwwwwwwwwwwwwwwwwwwwwwwwwwwwwwwwwwwwwwwwwwwwwwwwwwwwwwwwwwwwwwwwwwwwwwwwwwwwwwwww)\n?\n") ≡ Some (record { line = 1; kind = TooWide })
unfolding refused
refuses-first_line = refl

-- faults of lines go before those of all lines together
refuses-line_first : refused (codes "INPUT(a)\nINPUT(a)\ny = NOT()\n") ≡ Some (record { line = 3; kind = BadCount })
unfolding refused
refuses-line_first = refl

-- an input twice
refuses-two_inputs : refused (codes "INPUT(a)\n\nINPUT(a)\n") ≡ Some (record { line = 3; kind = TwoDrivers })
unfolding refused
refuses-two_inputs = refl

-- a net of two gates
refuses-two_gates : refused (codes "INPUT(a)\ny = NOT(a)\ny = BUFF(a)\n") ≡ Some (record { line = 3; kind = TwoDrivers })
unfolding refused
refuses-two_gates = refl

-- a gate that drives an input
refuses-input_gate : refused (codes "y = NOT(a)\nINPUT(a)\nINPUT(y)\n") ≡ Some (record { line = 3; kind = TwoDrivers })
unfolding refused
refuses-input_gate = refl

-- a second driver goes before an undriven net on an earlier line
refuses-drivers_first : refused (codes "OUTPUT(y)\nINPUT(a)\nINPUT(a)\n") ≡ Some (record { line = 3; kind = TwoDrivers })
unfolding refused
refuses-drivers_first = refl

-- the first undriven net of a line
refuses-undriven_in : refused (codes "INPUT(a)\ny = AND(a, c, b)\n") ≡ Some (record { line = 2; kind = Undriven (codes "c") })
unfolding refused
refuses-undriven_in = refl

-- an undriven net is told at its first appearance
refuses-undriven_first : refused (codes "z = NOT(b)\nOUTPUT(b)\n") ≡ Some (record { line = 1; kind = Undriven (codes "b") })
unfolding refused
refuses-undriven_first = refl

-- names of nets keep their case
refuses-case : refused (codes "INPUT(A)\ny = NOT(a)\n") ≡ Some (record { line = 2; kind = Undriven (codes "a") })
unfolding refused
refuses-case = refl
