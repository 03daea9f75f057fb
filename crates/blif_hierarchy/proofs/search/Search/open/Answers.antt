use Rattle.std.proofs.Common.{◌≡◌, length, arith}
use Rattle.std.proofs.lemmas.Grind.{common_steps}
use Rattle.blif_hierarchy.proofs.SearchSteps.{open_search, reversed}
use Rattle.blif_hierarchy.proofs.search.Search.open.Goals as goal

pub returns-clause-search : goal.returns-clause-search
returns-clause-search c = λ edges s reaches.
    let size : c.len-place.result ≡ length c.args.self.now.nodes.items = grind (arith, common_steps) in
    rw (c.in_ok-push.ensures.items, c.in_ok-push-2.ensures.items, reversed, size) (open_search s c.requires.new c.requires.fits reaches)
