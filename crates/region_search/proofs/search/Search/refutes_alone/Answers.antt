use Rattle.std.proofs.Common.{◌≡◌, ℕ, Bool, refl, arith}
use Rattle.coverage_claim.specs.Rules.{Sets, only, this_pair}
use Rattle.pair_sets.specs.Pairs.{has}
use Rattle.region_search.proofs.CutSets.{only_as}
use Rattle.region_search.proofs.Refuting.{alone_holds, copy_goes_on, none_have, not_refuted}
use Rattle.region_search.specs.Going.{sets_of}
use Rattle.region_search.proofs.search.Search.refutes_alone.Goals as goal

pub returns-clause-refuted : goal.returns-clause-refuted
returns-clause-refuted c = λ e s bounds q sites goes.
    let pair = c.args.pair in
    let half : Sets = sets_of c.copy_from.new.self.sets in
    let left : Sets = sets_of c.narrow.new.self.sets in
    let others : Sets = only bounds pair.frame pair.net.0 (this_pair pair.golden pair.faulty) in
    let cut : (i n : ℕ) (x y : Bool) → left i n x y ≡ only half pair.frame pair.net.0 (this_pair pair.golden pair.faulty) i n x y =
    only_as half left pair.frame pair.net.0 pair.net.0 (has c.pair-alone.result) (this_pair pair.golden pair.faulty) refl c.pair-alone.ensures c.narrow.ensures.sets in
    let copied = copy_goes_on c.args.watchers.now s bounds q c.copy_from.new.self c.args.self.now c.copy_from.ensures goes in
    let narrowed = c.narrow.ensures.anew s bounds others q copied (alone_holds s bounds half left pair.frame pair.net.0 (this_pair pair.golden pair.faulty) cut copied.going.search.holds) in
    let settled = c.settle.ensures.goes_on s others sites narrowed in
    none_have s bounds (sets_of c.settle.new.self.sets) pair.frame pair.net.0 pair.golden pair.faulty settled.going.search.holds (settled.going.noted.none e)

pub returns-clause-open : goal.returns-clause-open
returns-clause-open c = λ e s bounds q sites goes.
    let pair = c.args.pair in
    let half : Sets = sets_of c.copy_from.new.self.sets in
    let left : Sets = sets_of c.narrow.new.self.sets in
    let others : Sets = only bounds pair.frame pair.net.0 (this_pair pair.golden pair.faulty) in
    let cut : (i n : ℕ) (x y : Bool) → left i n x y ≡ only half pair.frame pair.net.0 (this_pair pair.golden pair.faulty) i n x y =
    only_as half left pair.frame pair.net.0 pair.net.0 (has c.pair-alone.result) (this_pair pair.golden pair.faulty) refl c.pair-alone.ensures c.narrow.ensures.sets in
    let copied = copy_goes_on c.args.watchers.now s bounds q c.copy_from.new.self c.args.self.now c.copy_from.ensures goes in
    let narrowed = c.narrow.ensures.anew s bounds others q copied (alone_holds s bounds half left pair.frame pair.net.0 (this_pair pair.golden pair.faulty) cut copied.going.search.holds) in
    let settled = c.settle.ensures.goes_on s others sites narrowed in
    not_refuted s bounds half left pair.frame pair.net.0 pair.golden pair.faulty cut (sets_of c.settle.new.self.sets) (omega (arith, c.requires.frame, goes.frames))
    (c.settle.ensures.among s others sites narrowed) (c.settle.ensures.settled e s others sites narrowed) (settled.going.noted.some e)

pub returns-clause-goes_on : goal.returns-clause-goes_on
returns-clause-goes_on c = λ s bounds q sites goes.
    let pair = c.args.pair in
    let half : Sets = sets_of c.copy_from.new.self.sets in
    let left : Sets = sets_of c.narrow.new.self.sets in
    let others : Sets = only bounds pair.frame pair.net.0 (this_pair pair.golden pair.faulty) in
    let cut : (i n : ℕ) (x y : Bool) → left i n x y ≡ only half pair.frame pair.net.0 (this_pair pair.golden pair.faulty) i n x y =
    only_as half left pair.frame pair.net.0 pair.net.0 (has c.pair-alone.result) (this_pair pair.golden pair.faulty) refl c.pair-alone.ensures c.narrow.ensures.sets in
    let copied = copy_goes_on c.args.watchers.now s bounds q c.copy_from.new.self c.args.self.now c.copy_from.ensures goes in
    let narrowed = c.narrow.ensures.anew s bounds others q copied (alone_holds s bounds half left pair.frame pair.net.0 (this_pair pair.golden pair.faulty) cut copied.going.search.holds) in
    c.settle.ensures.goes_on s others sites narrowed
