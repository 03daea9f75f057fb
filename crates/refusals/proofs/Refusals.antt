-- The line of a refusal, whatever the circuit, and that of a loop.
use Rattle.std.proofs.Common.{◌≡◌, ◌∙◌, ap, sym, refl, subst, List, [], Ok, Err}
use Rattle.std.specs.Prelude.{Result}
use Rattle.fm_base.specs.Names.{Bytes}
use Rattle.fm_shelf.specs.Content.{Content, Unknown, Absent, Held, bytes_of}
use Rattle.fm_shelf.specs.Sink.{SinkState}
use Rattle.circuit.specs.Circuit.{Circuit}
use Rattle.circuit.specs.declared.parts.NetId.{NetId}
use Rattle.refusals.specs.NetlistFile.{netlist_in}
use Rattle.refusals.specs.declared.status.Status.{Status}
use Rattle.refusals.specs.declared.status.Status.TheVariants as status
use Rattle.commands.specs.declared.command.Which.{Which}
use Rattle.commands.specs.declared.command.Which.TheVariants as which
use Rattle.refusals.specs.declared.refused.Refused.{Refused}
use Rattle.refusals.specs.declared.refused.Refused.TheVariants.{By, Looped}
use Rattle.refusals.specs.RefusalLines.{refusal_line}
use Rattle.refusals.specs.Said.{IsSaid}
use Rattle.refusals.specs.Refusals.{IsCircuitOf, status_of, HasItsNets, IsPlain, IsSaidOf}

-- what an answer gives
abbrev value_or : {A E : Type 0} → A → Result A E → A
value_or default (Ok x) = x
value_or default (Err e) = default

pub ok_same : {A E : Type 0} (r : Result A E) (x y : A) → r ≡ Ok x → r ≡ Ok y → x ≡ y
ok_same r x y a b = ap (value_or x) (sym a ∙ b)

-- a circuit without nets
abbrev pub no_circuit : Circuit
no_circuit = record { names = []; drivers = []; tables = []; latches = []; inputs = []; outputs = [] }

-- the circuit that a netlist's file stands for, or any other
pub some_circuit : (netlist : Bytes) (held : Content) → (c : Circuit) × IsCircuitOf netlist held c
some_circuit netlist Unknown = (no_circuit, λ bytes e d got. let bad : Unknown ≡ Held bytes = e in cc bad)
some_circuit netlist Absent = (no_circuit, λ bytes e d got. let bad : Absent ≡ Held bytes = e in cc bad)
some_circuit netlist (Held held) = by_netlist (netlist_in netlist held) refl
  where
    by_netlist : (r : Result Circuit Status) → netlist_in netlist held ≡ r → (c : Circuit) × IsCircuitOf netlist (Held held) c
    by_netlist (Ok c) is =
        (c, λ bytes e d got. let same : held ≡ bytes = ap bytes_of e in ok_same (netlist_in netlist held) c d is (ap (netlist_in netlist) same ∙ got))
    by_netlist (Err ended) is = (
      no_circuit,
      λ bytes e d got.
          let same : held ≡ bytes = ap bytes_of e in let bad : Err ended ≡ Ok d = sym is ∙ ap (netlist_in netlist) same ∙ got in cc bad,
    )

-- the line of a plain refusal is the same for every circuit
plain_line : (file : Which → Bytes) (c d : Circuit) (ended : Status) → IsPlain ended → refusal_line file c ended ≡ refusal_line file d ended
unfolding refusal_line
plain_line file c d (status.Loop walk) plain = absurd plain
plain_line file c d _ plain = refl

-- the line of a plain refusal, whatever the circuit
pub said_plain : (held : Content) (before after : SinkState) (file : Which → Bytes) (ended : Status) → IsPlain ended
    → ((c : Circuit) → c.names ≡ [] → IsSaid before after (refusal_line file c ended)) → IsSaidOf held before after file ended
said_plain held before after file ended plain said =
    let some = some_circuit (file which.Netlist) held in
    (some.0, some.1, subst (λ text. IsSaid before after text) (plain_line file no_circuit some.0 ended plain) (said no_circuit refl))

-- the line of a refusal by its status
pub said_by : (held : Content) (before after : SinkState) (file : Which → Bytes) (refused : Refused) (ended : Status) → refused ≡ By ended → HasItsNets (file which.Netlist) held refused
    → ((c : Circuit) → c.names ≡ [] → IsSaid before after (refusal_line file c ended)) → IsSaidOf held before after file (status_of refused)
said_by held before after file refused ended is nets said =
    subst (λ r. IsSaidOf held before after file (status_of r)) (sym is) (said_plain held before after file ended (subst (HasItsNets (file which.Netlist) held) is nets) said)

-- the line of a loop
pub said_looped : (held : Content) (before after : SinkState) (file : Which → Bytes) (refused : Refused) (walk : List NetId) (net : Circuit) → refused ≡ Looped walk net
    → HasItsNets (file which.Netlist) held refused → ((c : Circuit) → c.names ≡ net.names → IsSaid before after (refusal_line file c (status.Loop walk)))
    → IsSaidOf held before after file (status_of refused)
said_looped held before after file refused walk net is nets said =
    subst (λ r. IsSaidOf held before after file (status_of r)) (sym is) (net, subst (HasItsNets (file which.Netlist) held) is nets, said net refl)
