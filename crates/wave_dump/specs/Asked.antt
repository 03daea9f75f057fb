-- What is dumped, by the words of a command: the number of the run, from 1; the fault by its name; and which nets are shown. Both may not be given.
use Rattle.std.specs.Prelude.{ℕ, ◌-◌, Bool, true, false, not, ◌&&◌, List, [], length, take, filter, find, Option, None, is_none, is_some, Result, Ok, Err, if◌then◌else◌, ◌==◌, nat_le, codes, Some}
use Rattle.std.specs.List.{last_or}
use Rattle.std.specs.Option.{option_map_or}
use Rattle.std.specs.Str.{bytes_eq, byte}
use Rattle.circuit.specs.declared.parts.Fault.{Fault}
use Rattle.circuit.specs.Circuit.{Circuit}
use Rattle.circuit.specs.Names.{net_name}
use Rattle.circuit.specs.Trace.{trace}
use Rattle.fault_list.specs.Faults.{fault_name, faults_of}
use Rattle.rate_table.specs.declared.Pattern.{Pattern}
use Rattle.rate_table.specs.Table.{matches}
use Rattle.workload.specs.declared.run.Run.{Run}
use Rattle.workload.specs.Runs.{cycles_of, run_at}
use Rattle.fm_base.specs.Lists.{below, same_bit, some_below}
use Rattle.fm_base.specs.Names.{Bytes, Name}
use Rattle.wave_dump.specs.declared.DumpFault.{DumpFault}
use Rattle.wave_dump.specs.declared.DumpFault.TheVariants.{NoRun, NoFault, NoNet}
use Rattle.wave_dump.specs.Dump.{Waves, alone}

-- the fault of the list that has a name
abbrev pub fault_named : Circuit → List Fault → Name → Option Fault
fault_named c faults name = find (λ f. bytes_eq (fault_name c f) name) faults

-- the same of a name that may not be given
abbrev pub fault_given : Circuit → List Fault → Option Name → Option Fault
fault_given c faults None = None
fault_given c faults (Some name) = fault_named c faults name

-- the fault changes the net at some cycle of the run; without a fault none is changed
abbrev pub changes_net : Circuit → Run → Option Fault → ℕ → Bool
changes_net c run fault net =
    some_below (cycles_of run) (λ t. not (same_bit (trace c (alone fault) run.vectors t net) (trace c [] run.vectors t net)))

-- the pattern of a text, as the rates file has it: a star at its end stands for whatever follows
abbrev pub name_pattern : Bytes → Pattern
name_pattern text =
    let star = option_map_or (λ b. b == byte "*") (last_or None text) false in
    record { name = if star then take (length text - 1) text else text; star = star; part = 0 }

-- the words that are no pattern: `all`; `differing`; and where no word is given, `differing` where there is a fault and else `all`
abbrev pub wants_all : Option Fault → Option Bytes → Bool
wants_all fault None = is_none fault
wants_all fault (Some word) = bytes_eq word (codes "all")

abbrev pub wants_changed : Option Fault → Option Bytes → Bool
wants_changed fault None = is_some fault
wants_changed fault (Some word) = bytes_eq word (codes "differing")

abbrev pub is_pattern : Option Fault → Option Bytes → Bool
is_pattern fault word = not (wants_all fault word) && not (wants_changed fault word)

-- the pattern that is given matches a name
abbrev pub is_matched : Option Bytes → Name → Bool
is_matched None name = false
is_matched (Some word) name = matches (name_pattern word) name

-- the net is shown
abbrev pub is_shown : Circuit → Run → Option Fault → Option Bytes → ℕ → Bool
is_shown c run fault word net =
    if wants_all fault word then true else if wants_changed fault word then changes_net c run fault net else is_matched word (net_name c net)

-- the nets that are shown, in order
unfoldable pub nets_shown : Circuit → Run → Option Fault → Option Bytes → List ℕ
nets_shown c run fault word = filter (is_shown c run fault word) (below (length c.drivers))

-- what is dumped, or the first of what refuses it: there is no such run; a name is given, and no fault of the netlist with flips and
-- pulses in these cycles has it; no net matches a pattern
unfoldable pub waves_asked : Circuit → List Run → List ℕ → List ℕ → ℕ → Option Name → Option Bytes → Result Waves DumpFault
waves_asked c runs flips pulses number name word =
    let run = run_at runs (number - 1) in
    let fault = fault_given c (faults_of c flips pulses) name in
    let nets = nets_shown c run fault word in
    if not (nat_le 1 number && nat_le number (length runs)) then Err NoRun
    else if is_none fault && is_some name then Err NoFault
    else if (length nets == 0) && is_pattern fault word then Err NoNet
    else Ok (record { circuit = c; run = run; fault = fault; nets = nets })
