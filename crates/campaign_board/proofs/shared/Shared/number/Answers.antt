use Rattle.std.proofs.Common.{◌∙◌}
use Rattle.campaign_board.proofs.Searching.{searched_number, not_missed}
use Rattle.campaign_board.proofs.shared.Shared.number.Goals as goal

pub unreachable-requires : goal.unreachable-requires
unreachable-requires g c =
    let todo = c.as_slice.ensures ∙ c.self.invariant.0 in
    not_missed g.N.Origin.start c.args.batch c.as_slice.result.now c.binary_search.result c.in_default.field-0 todo c.requires c.in_default.is c.binary_search.ensures.position

pub returns : goal.returns
returns g c =
    let todo = c.as_slice.ensures ∙ c.self.invariant.0 in
    searched_number g.N.Origin.start c.args.batch c.as_slice.result.now c.binary_search.result c.in-Ok.number todo c.requires c.in-Ok.is c.binary_search.ensures.position
