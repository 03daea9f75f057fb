-- The line of a refusal, as it is told by its status and by the nets of the netlist.
use Rattle.std.specs.Prelude.{◌≡◌, Ok}
use Rattle.circuit.specs.Circuit.{Circuit}
use Rattle.fm_shelf.specs.Content.{Content, Held}
use Rattle.fm_shelf.specs.Sink.{SinkState}
use Rattle.refusals.specs.declared.status.Status.{Status}
use Rattle.refusals.specs.declared.status.Status.TheVariants as status
use Rattle.commands.specs.declared.command.Which.{Which}
use Rattle.commands.specs.declared.command.Which.TheVariants as which
use Rattle.refusals.specs.declared.refused.Refused.{Refused}
use Rattle.refusals.specs.declared.refused.Refused.TheVariants.{By, Looped}
use Rattle.refusals.specs.Said.{IsSaid}
use Rattle.refusals.specs.RefusalLines.{refusal_line}
use Rattle.fm_base.specs.Names.{Bytes}
use Rattle.refusals.specs.NetlistFile.{netlist_in}

-- the circuit that the netlist stands for, a file of this name, where its bytes are known
abbrev pub IsCircuitOf : Bytes → Content → Circuit → Type 0
IsCircuitOf netlist held c = (bytes : Bytes) → held ≡ Held bytes → (d : Circuit) → netlist_in netlist bytes ≡ Ok d → c ≡ d

-- the status that a refusal is told as
abbrev pub status_of : Refused → Status
status_of (By ended) = ended
status_of (Looped walk net) = status.Loop walk

-- a refusal whose line names no net of the netlist
abbrev pub IsPlain : Status → Type 0
IsPlain (status.Loop walk) = ⊥
IsPlain status.Done = ⊥
IsPlain status.ResultFault = ⊥
IsPlain status.OutFault = ⊥
IsPlain _ = Unit {0}

-- the nets of a loop are those of the netlist that the file of this name holds
abbrev pub HasItsNets : Bytes → Content → Refused → Type 0
HasItsNets netlist held (By ended) = IsPlain ended
HasItsNets netlist held (Looped walk net) = IsCircuitOf netlist held net

-- the line of a refusal went out, by the nets of the netlist as far as it is known
abbrev pub IsSaidOf : (netlist : Content) → (before after : SinkState) → (Which → Bytes) → Status → Type 0
IsSaidOf netlist before after names ended =
    (c : Circuit) × IsCircuitOf (names which.Netlist) netlist c × IsSaid before after (refusal_line names c ended)
