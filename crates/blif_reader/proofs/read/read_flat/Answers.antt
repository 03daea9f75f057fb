use Rattle.std.proofs.Common.{refl, sym, ◌∙◌}
use Rattle.blif_reader.proofs.read.read_flat.Goals as goal

pub flat_netlist-requires-clause-sound : goal.flat_netlist-requires-clause-sound
flat_netlist-requires-clause-sound c =
    c.requires _ (rw (sym c.has_many_nets.ensures ∙ c.if-has_many_nets.false, sym c.in_ok-fault.ensures ∙ c.in-None.is) refl)
