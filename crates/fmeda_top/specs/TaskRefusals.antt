-- What a task itself refuses of what its files stand for, behind all checks of the files.
use Rattle.std.specs.Prelude.{List, Option, Some, None, option_map, Result, Ok, Err}
use Rattle.circuit.specs.declared.parts.NetId.{NetId}
use Rattle.pair_list.specs.Chosen.{pair_refusal}
use Rattle.row_audit.specs.Audited.{first_false}
use Rattle.wave_dump.specs.Asked.{waves_asked}
use Rattle.wave_dump.specs.declared.DumpFault.{DumpFault}
use Rattle.wave_dump.specs.declared.DumpFault.TheVariants as dump
use Rattle.always.specs.Asked.{asked_fault}
use Rattle.always.specs.declared.asked.AskedFault.{AskedFault}
use Rattle.always.specs.declared.asked.AskedFault.TheVariants.{LongWindow, NoAlarm}
use Rattle.commands.specs.declared.command.Task.{Task}
use Rattle.commands.specs.declared.command.Task.TheVariants as task
use Rattle.commands.specs.declared.command.Which.TheVariants as which
use Rattle.commands.specs.Commands.{Command, kind_of}
use Rattle.refusals.specs.declared.status.Status.{Status}
use Rattle.refusals.specs.declared.status.Status.TheVariants as status
use Rattle.command_reads.specs.Files.{Reads}
use Rattle.command_reads.specs.FirstRefusal.{◌>>=◌, Judged, Begun, Driven, Supposed, judge, unless}

-- the status of a run, a fault or a net that isn't there
abbrev pub not_there : DumpFault → Status
not_there = elim [ dump.NoRun ↦ status.NoRun | dump.NoFault ↦ status.NoFault | dump.NoNet ↦ status.NoNet ]

-- the status of points without an alarm, or of a window that is too long
abbrev pub not_asked : AskedFault → Status
not_asked = elim [ NoAlarm ↦ status.NoAlarm | LongWindow window least ↦ status.LongWindow window least ]

-- the refusal, if there is one
abbrev pub refusal_in : {A : Type 0} → (DumpFault → Status) → Result A DumpFault → Option Status
refusal_in told answer = elim answer [ Ok x ↦ None | Err why ↦ Some (told why) ]

-- AUDIT: the first of each N-th row that isn't true. PAIRS: a batch has no row, or there are too many pairs. TRACE: a run, a fault or a net that
-- isn't there. ALWAYS: there is no alarm point, or the given window is longer than the least interval
abbrev pub task_refusal : Task → Judged → Option Status
task_refusal (task.Audit every by) (Begun p k) = option_map status.Disagrees (first_false p every k.rows)
task_refusal (task.Pairs workers) (Begun p k) = option_map status.Pairs (pair_refusal p k.rows)
task_refusal (task.Trace run fault nets) (Driven c runs set) = refusal_in not_there (waves_asked c runs set.flips set.pulses run fault nets)
task_refusal (task.Always window ahead) (Supposed p held) = option_map not_asked (asked_fault p window)
task_refusal _ _ = None

-- what a command's files stand for, or the first refusal of the command
abbrev pub judged : Option (List NetId) → Command → Reads → Result Judged Status
judged walk command reads = do
  made ← judge (command.files which.Netlist) walk command.settings reads (kind_of command.task)
  unless (task_refusal command.task made) made
