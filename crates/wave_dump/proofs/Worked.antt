-- A dump that was worked by hand: a latch q that toggles where the input e is 1, with a flip of it in cycle 1. No function cites it.
use Rattle.std.proofs.Common.{◌≡◌, refl, ℕ, true, false, [], ◌∷◌, codes, Ok, Err}
use Rattle.std.specs.Prelude.{None, Some}
use Rattle.std.specs.Fmt.{digits}
use Rattle.circuit.specs.Circuit.{Circuit}
use Rattle.circuit.specs.Trace.{raw_state}
use Rattle.circuit.specs.Value.{val}
use Rattle.circuit.specs.declared.parts.Driver.TheVariants.{Input, Table as FromTable, Latch as FromLatch}
use Rattle.circuit.specs.declared.parts.Fault.TheVariants.{Flip}
use Rattle.circuit.specs.declared.parts.Lit.TheVariants.{Zero, One}
use Rattle.circuit.specs.declared.parts.NetId.{NetId}
use Rattle.fault_list.specs.Faults.{faults_for}
use Rattle.workload.specs.declared.run.Kind.TheVariants.{Mission}
use Rattle.workload.specs.declared.run.Run.{Run}
use Rattle.fm_base.specs.Lists.{below, some_below}
use Rattle.wave_dump.specs.declared.DumpFault.TheVariants.{NoRun, NoFault, NoNet}
use Rattle.wave_dump.specs.Asked.{nets_shown, waves_asked}
use Rattle.wave_dump.specs.Dump.{Waves, code_within, cycle_values, declared_scope, dump_text, scope_values}

pub net : ℕ → NetId
net n = record { 0 = n }

-- y is 1 where exactly one of e and q is, and q takes y
pub toggle : Circuit
unfolding net
toggle = record {
  names = codes "e" ∷ codes "y" ∷ codes "q" ∷ [];
  drivers = Input 0 ∷ FromTable 0 ∷ FromLatch 0 ∷ [];
  tables = record { ins = net 0 ∷ net 2 ∷ []; rows = (One ∷ Zero ∷ []) ∷ (Zero ∷ One ∷ []) ∷ []; on = true } ∷ [];
  latches = record { from = net 1; to = net 2; start = false } ∷ [];
  inputs = net 0 ∷ [];
  outputs = net 1 ∷ net 2 ∷ [];
}

-- e is 1, 1 and 0
pub run : Run
run = record { kind = Mission; vectors = (true ∷ []) ∷ (true ∷ []) ∷ (false ∷ []) ∷ [] }

pub flipped : Waves
unfolding toggle run
flipped = record { circuit = toggle; run = run; fault = Some (Flip 0 1); nets = 1 ∷ 2 ∷ [] }

-- without the flip y is 1, 0, 0 and q is 0, 1, 0; with it y is 1, 1, 1 and q is 0, 0, 1
pub text : dump_text flipped ≡ codes "$version fmeda trace $end\n$timescale 1 ns $end\n$scope module golden $end\n$var wire 1 ! y $end\n$var wire 1 \" q $end\n$upscope $end\n$scope module faulty $end\n$var wire 1 # y $end\n$var wire 1 $ q $end\n$upscope $end\n$enddefinitions $end\n#0\n1!\n0\"\n1#\n0$\n#1\n0!\n1\"\n#2\n0\"\n1$\n#3\n"
unfolding net toggle run flipped digits raw_state val below code_within scope_values cycle_values declared_scope dump_text
text = refl

-- the flip by its name, which changes y and q
pub asked : waves_asked toggle (run ∷ []) (1 ∷ []) [] 1 (Some (codes "q^1")) None ≡ Ok flipped
unfolding net toggle run flipped digits raw_state val below some_below faults_for nets_shown waves_asked
asked = refl

pub no_run : waves_asked toggle (run ∷ []) (1 ∷ []) [] 2 None None ≡ Err NoRun
unfolding net toggle run waves_asked
no_run = refl

-- in cycle 2 there is no flip
pub no_fault : waves_asked toggle (run ∷ []) (1 ∷ []) [] 1 (Some (codes "q^2")) None ≡ Err NoFault
unfolding net toggle run digits below faults_for waves_asked
no_fault = refl

pub no_net : waves_asked toggle (run ∷ []) (1 ∷ []) [] 1 (Some (codes "q^1")) (Some (codes "z*")) ≡ Err NoNet
unfolding net toggle run digits below faults_for nets_shown waves_asked
no_net = refl
