use Rattle.std.proofs.Common.{◌≡◌, ◌+◌, true, get_or, subst, ◌∙◌, arith}
use Rattle.std.proofs.lemmas.List.{get_or_default}
use Rattle.std.proofs.lemmas.List.Elements.{Contains-get_or}
use Rattle.place_set.specs.Places.{has}
use Rattle.region_search.proofs.watch.wake_all.Goals as goal

pub put-requires : goal.put-requires
put-requires c =
    let inside = c.requires.inside (get_or c.args.readers.now c.loop-reader.reader-index 0) (Contains-get_or c.args.readers.now c.loop-reader.reader-index 0 c.loop-reader-test.true) in
    omega (arith, inside, c.loop-reader.invariant.bound)

pub returns-clause-woken : goal.returns-clause-woken
returns-clause-woken c = λ place there.
    let same : get_or c.args.readers.now there.0 0 ≡ place = get_or_default c.args.readers.now there.0 0 place there.1 ∙ there.2 in
    subst (λ n. has c.loop-reader.waiting (c.args.first + n) ≡ true) same
    (c.loop-reader.invariant.woken there.0 (omega (arith, there.1, c.loop-reader-test.false)))
