-- WHAT IS PROMISED OF A CALL OF THE PROGRAM, of the command that its words are. Counts of faults are compared with the call's own entry.
use Rattle.std.specs.Prelude.{◌≡◌, ◌⊎◌, List, Option, MatchResult, codes}
use Rattle.fm_base.specs.Names.{Bytes}
use Rattle.fm_shelf.specs.Outside.{Outside}
use Rattle.circuit.specs.declared.parts.NetId.{NetId}
use Rattle.circuit.specs.Circuit.{Circuit}
use Rattle.commands.specs.declared.command.Which.TheVariants as which
use Rattle.commands.specs.Commands.{Command, kind_of}
use Rattle.command_line.specs.Words.{IsAlone, IsCommand}
use Rattle.refusals.specs.declared.status.Status.{Status}
use Rattle.refusals.specs.declared.status.Status.TheVariants as status
use Rattle.refusals.specs.RefusalLines.{refusal_line}
use Rattle.refusals.specs.WantOfMemory.{IsMemory}
use Rattle.room.specs.Refused.{WasRefused}
use Rattle.command_reads.specs.Files.{Reads, WereRead}
use Rattle.command_reads.specs.FirstRefusal.{IsLoopAnswer}
use Rattle.fmeda_top.specs.TaskRefusals.{judged}
use Rattle.fmeda_top.specs.Ends.{IsDoneOrFailed, RefusedAs}

-- WHAT IS PROMISED OF A COMMAND: its files were read; the first refusal of what was read is the answer, or it is done, or a write has failed
abbrev pub CommandEnds : Command → Status → (before after : Outside) → Type 0
CommandEnds command ended before after =
    (reads : Reads) × WereRead before.shelf after.shelf command.files reads (kind_of command.task)
    × ((c : Circuit) × (walk : Option (List NetId)) × IsLoopAnswer (command.files which.Netlist) reads c walk
    × MatchResult (judged walk command reads)
    (λ made. IsDoneOrFailed command made reads ended before after)
    (λ why. (ended ≡ why) × RefusedAs (refusal_line command.files c why) before after))

-- MEMORY RAN OUT: the allocator has refused a request, before a file was changed; none was, and the line of this was written
abbrev pub RanOut : Status → (before after : Outside) → Type 0
RanOut ended before after = IsMemory ended × WasRefused × RefusedAs (codes "refused: out of memory\n") before after

-- WHAT IS PROMISED OF A CALL: its words are one command, and this is promised of it; or they are none, which is Usage; or memory ran out
abbrev pub Promises : (words : List Bytes) → (ended : Status) → (before after : Outside) → Type 0
Promises words ended before after =
    ((command : Command) × IsCommand words command × IsAlone words command × CommandEnds command ended before after)
    ⊎ ((((command : Command) → ¬ (IsCommand words command)) × (ended ≡ status.Usage) × RefusedAs (codes "refused: usage\n") before after)
    ⊎ RanOut ended before after)
