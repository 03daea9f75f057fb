use Rattle.std.proofs.Common.{◌≡◌, ◌-◌, vec_len, length, arith}
use Rattle.std.proofs.lemmas.Grind.{common_steps}
use Rattle.blif_hierarchy.proofs.OpenNodes.{numbered, top_fits}
use Rattle.blif_hierarchy.proofs.search.number_nodes.Goals as goal

pub index_mut-requires : goal.index_mut-requires
index_mut-requires c =
    let size : vec_len c.nodes.nodes ≡ length c.nodes.nodes.items = grind (arith, common_steps) in
    let fits = top_fits c.nodes.invariant (c.len-top.result - 1) c.index.result.now (omega arith) (omega arith) c.index.ensures in
    grind (arith, common_steps)

pub nodes-preserved : goal.nodes-preserved
nodes-preserved c =
    let size : vec_len c.nodes.nodes ≡ length c.nodes.nodes.items = grind (arith, common_steps) in
    rw c.truncate.ensures.items
    (numbered c.nodes.invariant (c.len-top.result - 1) c.index.result.now (omega arith) (omega arith) c.index.ensures)
