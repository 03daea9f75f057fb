use Rattle.std.proofs.Common.{List, subst}
use Rattle.circuit.specs.declared.parts.NetId.{NetId}
use Rattle.region_search.proofs.PlacedTables.{is_placed_table}
use Rattle.region_search.specs.Truth.{AreReads}
use Rattle.region_search.proofs.truth.placed_table.Goals as goal

pub returns : goal.returns
returns c =
    is_placed_table c.args.netlist.now c.args.own c.in-Table.k c.reads_of-reads.result.count c.in_ok-truth.truth c.table-table.result.now c.reads_of-reads.result.nets
    c.requires.own c.requires.apart c.in-Table.ensures.value c.table-table.ensures.value c.table-table.ensures.fits
    (subst (λ (ins : List NetId). AreReads ins c.reads_of-reads.result.count c.reads_of-reads.result.nets) c.as_slice.ensures c.reads_of-reads.ensures) c.in_ok-truth.ensures
