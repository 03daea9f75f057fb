use Rattle.std.proofs.Common.{◌≡◌, ℕ, Bool, Some, refl}
use Rattle.coverage_claim.specs.Rules.{Sets, only}
use Rattle.pair_sets.specs.Pairs.{has}
use Rattle.region_search.proofs.CutSets.{only_as}
use Rattle.region_search.proofs.Refuting.{alone_holds, copy_goes_on, none_have_golden}
use Rattle.region_search.specs.BeginSteps.{allows}
use Rattle.region_search.specs.Going.{sets_of}
use Rattle.region_search.proofs.search.Search.lacks.Goals as goal

pub returns-clause-none : goal.returns-clause-none
returns-clause-none c = λ e s bounds q sites goes.
    let frame = c.args.frame in
    let net = c.args.net.0 in
    let half : Sets = sets_of c.copy_from.new.self.sets in
    let left : Sets = sets_of c.narrow.new.self.sets in
    let others : Sets = only bounds frame net (allows (Some c.args.golden)) in
    let cut : (i n : ℕ) (x y : Bool) → left i n x y ≡ only half frame net (allows (Some c.args.golden)) i n x y =
    only_as half left frame net net (has c.golden_pairs.result) (allows (Some c.args.golden)) refl c.golden_pairs.ensures c.narrow.ensures.sets in
    let copied = copy_goes_on c.args.watchers.now s bounds q c.copy_from.new.self c.args.self.now c.copy_from.ensures goes in
    let narrowed = c.narrow.ensures.anew s bounds others q copied (alone_holds s bounds half left frame net (allows (Some c.args.golden)) cut copied.going.search.holds) in
    let settled = c.settle.ensures.goes_on s others sites narrowed in
    none_have_golden s bounds (sets_of c.settle.new.self.sets) frame net c.args.golden settled.going.search.holds (settled.going.noted.none e)
