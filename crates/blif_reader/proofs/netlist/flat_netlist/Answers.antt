use Rattle.std.proofs.Common.{◌∙◌, ap, length, List}
use Rattle.fm_base.specs.Names.{Name}
use Rattle.blif_model.specs.Net.{latch_names_of, table_names_of}
use Rattle.blif_flatten.specs.Flattened.{flat_steps}
use Rattle.blif_reader.proofs.Built.{built, few_driven}
use Rattle.blif_reader.proofs.netlist.flat_netlist.Goals as goal

pub drivers_of-requires-clause-inputs : goal.drivers_of-requires-clause-inputs
drivers_of-requires-clause-inputs c =
    rw (c.as_slice-6.ensures ∙ c.in_ok-inputs.ensures) (few_driven (flat_steps c.args.flat.now) c.requires.unfaulted c.requires.few).0

pub drivers_of-requires-clause-tables : goal.drivers_of-requires-clause-tables
unfolding table_names_of
drivers_of-requires-clause-tables c =
    rw (c.as_slice-7.ensures ∙ c.in_ok-table_nets.ensures) (few_driven (flat_steps c.args.flat.now) c.requires.unfaulted c.requires.few).1

pub drivers_of-requires-clause-latches : goal.drivers_of-requires-clause-latches
unfolding latch_names_of
drivers_of-requires-clause-latches c =
    rw (c.as_slice-8.ensures ∙ c.in_ok-latch_nets.ensures) (few_driven (flat_steps c.args.flat.now) c.requires.unfaulted c.requires.few).2

pub invariant_of-result : goal.invariant_of-result
unfolding table_names_of latch_names_of
invariant_of-result c =
    let count = c.len.ensures ∙ ap (λ (names : List Name). length names) c.in_ok-names.ensures in
    let drivers = rw (c.as_slice-6.ensures ∙ c.in_ok-inputs.ensures, c.as_slice-7.ensures ∙ c.in_ok-table_nets.ensures, c.as_slice-8.ensures ∙ c.in_ok-latch_nets.ensures, count) at c.in_ok-drivers.ensures in
    rw (built (flat_steps c.args.flat.now) c.requires.unfaulted _ c.in_ok-names.ensures drivers c.in_ok-tables.ensures.tables c.in_ok-tables.ensures.latches c.in_ok-inputs.ensures c.in_ok-outputs.ensures)
    c.requires.sound

pub returns : goal.returns
unfolding table_names_of latch_names_of
returns c =
    let count = c.len.ensures ∙ ap (λ (names : List Name). length names) c.in_ok-names.ensures in
    let drivers = rw (c.as_slice-6.ensures ∙ c.in_ok-inputs.ensures, c.as_slice-7.ensures ∙ c.in_ok-table_nets.ensures, c.as_slice-8.ensures ∙ c.in_ok-latch_nets.ensures, count) at c.in_ok-drivers.ensures in
    built (flat_steps c.args.flat.now) c.requires.unfaulted _ c.in_ok-names.ensures drivers c.in_ok-tables.ensures.tables c.in_ok-tables.ensures.latches c.in_ok-inputs.ensures c.in_ok-outputs.ensures
