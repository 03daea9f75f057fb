use Rattle.std.proofs.Common.{◌≡◌, length, arith}
use Rattle.std.proofs.lemmas.Grind.{common_steps}
use Rattle.std.proofs.lemmas.List.{length_push}
use Rattle.blif_hierarchy.proofs.SearchSteps.{close_search}
use Rattle.blif_hierarchy.proofs.search.Search.close.Goals as goal

pub returns-clause-search : goal.returns-clause-search
returns-clause-search c = λ edges s finished.
    let size : c.len-number.result ≡ length c.args.self.now.roots.items = grind (arith, common_steps) in
    let f = c.number_nodes.ensures in
    rw (c.in_ok-push.ensures.items, length_push) (close_search s finished c.requires.low f.stack f.nodes (rw size at f.marks) f.sized)
