use Rattle.std.proofs.Common.{◌≡◌, ℕ, Bool, Some, refl}
use Rattle.coverage_claim.specs.Rules.{Sets, only}
use Rattle.pair_sets.specs.Pairs.{has}
use Rattle.region_search.proofs.CutSets.{only_as}
use Rattle.region_search.proofs.Refuting.{kept_holds}
use Rattle.region_search.specs.BeginSteps.{allows}
use Rattle.region_search.specs.Going.{sets_of}
use Rattle.region_search.proofs.search.Search.keep.Goals as goal

pub returns-clause-goes_on : goal.returns-clause-goes_on
returns-clause-goes_on c = λ s bounds q sites goes none.
    let frame = c.args.frame in
    let net = c.args.net.0 in
    let half : Sets = sets_of c.args.self.now.sets in
    let left : Sets = sets_of c.narrow.new.self.sets in
    let cut : (i n : ℕ) (x y : Bool) → left i n x y ≡ only half frame net (allows (Some c.args.golden)) i n x y =
    only_as half left frame net net (has c.golden_pairs.result) (allows (Some c.args.golden)) refl c.golden_pairs.ensures c.narrow.ensures.sets in
    c.settle.ensures.goes_on s bounds sites (c.narrow.ensures.anew s bounds bounds q goes (kept_holds s bounds half left frame net c.args.golden cut goes.going.search.holds none))
