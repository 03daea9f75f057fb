-- What a reader answers of what it has gathered.
use Rattle.std.specs.Prelude.{◌≡◌, ℕ, ◌≤◌, ◌^◌, List, length, Option, Some, None, if◌then◌else◌, Result, Ok, Err}
use Rattle.std.specs.Option.{option_map, option_or}
use Rattle.fm_base.specs.declared.refusal.Refusal.{Refusal}
use Rattle.fm_base.specs.declared.refusal.Refusal.TheVariants.{Fault, Memory}
use Rattle.fm_base.specs.Names.{Bytes}
use Rattle.circuit.specs.Circuit.{Circuit}
use Rattle.circuit.specs.Sound.{IsNetlist}
use Rattle.net_names.specs.Drivers.{drivers_by}
use Rattle.bench_reader.specs.declared.BenchFault.{BenchFault}
use Rattle.bench_reader.specs.declared.BenchKind.TheVariants.{TooLarge, TwoDrivers}
use Rattle.bench_reader.specs.declared.gather.Gathered.{Gathered}
use Rattle.bench_reader.specs.Gather.{add_said, gathered_from, is_full, no_lines}
use Rattle.bench_reader.specs.LineFault.{Said, at_line, line_fault, said, numbered_lines}
use Rattle.bench_reader.specs.Marks.{first_loose}
use Rattle.bench_reader.specs.Steps.{fault_of, kind_of}

-- the fault of all lines together
abbrev pub fault_in : Gathered → Option BenchFault
fault_in g =
    if is_full g then Some (at_line 1 TooLarge)
    else option_or (option_map (λ line. at_line line TwoDrivers) g.second) (first_loose g.nets)

-- the netlist
abbrev pub circuit_from : Gathered → Circuit
circuit_from g = record {
  names = g.nets.names;
  drivers = drivers_by g.parts.inputs g.parts.table_nets g.parts.latch_nets (length g.nets.names);
  tables = g.parts.tables;
  latches = g.parts.latches;
  inputs = g.parts.inputs;
  outputs = g.parts.outputs;
}

-- it is one, and its parts are few
pub record IsSmallNetlist (g : Gathered) : Type 0 where
  pub inputs : length g.parts.inputs ≤ 2 ^ 18
  pub tables : length g.parts.table_nets ≤ 2 ^ 18
  pub latches : length g.parts.latch_nets ≤ 2 ^ 18
  pub sound : IsNetlist (circuit_from g)

-- the netlist, unless there is a fault
abbrev pub circuit_unless : Option BenchFault → Gathered → Result Circuit BenchFault
circuit_unless (Some fault) g = Err fault
circuit_unless None g = Ok (circuit_from g)

abbrev pub answer_of : Gathered → Result Circuit BenchFault
answer_of g = circuit_unless (fault_in g) g

-- what lines bring, unless one has a fault of its own
abbrev pub gathered_unless : Option BenchFault → List Said → Result Gathered BenchFault
gathered_unless (Some fault) lines = Err fault
gathered_unless None lines = Ok (gathered_from no_lines lines)

abbrev pub gathered_of : Bytes → Result Gathered BenchFault
gathered_of bytes = gathered_unless (line_fault (numbered_lines bytes)) (numbered_lines bytes)

-- what a line brings, or its fault; want of memory is free
abbrev pub LineGives : Gathered → Gathered → ℕ → Bytes → Result (Unit {0}) (Refusal BenchFault) → Type 0
LineGives before now number text (Ok _) = (kind_of (said (number, text)) ≡ None) × (now ≡ add_said before (said (number, text)))
LineGives before now number text (Err (Fault fault)) = fault_of (said (number, text)) ≡ Some fault
LineGives before now number text (Err (Memory no_room)) = Unit {0}
