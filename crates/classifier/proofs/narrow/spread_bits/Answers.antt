use Rattle.std.proofs.Common.{◌≡◌, ◌+◌, ◌*◌, ◌<◌, length, ◌∙◌, arith, length-set}
use Rattle.differential_kernel.specs.Picked.{bit_at_place, place_in}
use Rattle.fm_base.specs.Planes.{bit}
use Rattle.classifier.proofs.EachWord.{each_set_one}
use Rattle.classifier.proofs.narrow.spread_bits.Goals as goal

pub loop-word-preserved : goal.loop-word-preserved
loop-word-preserved c =
    let i = c.loop-word.word in
    let planes = c.loop-word.planes in
    let inv = c.loop-word.invariant in
    let own = c.spread.result in
    let inside : i < length planes = omega (arith, c.loop-word-test.true, inv.count) in
    record {
      count = length-set planes i own ∙ inv.count;
      done = λ word k lt lane.
          each_set_one (λ j p. bit p k ≡ bit_at_place c.args.bits (place_in c.args.picks.now (j * 64 + k))) planes i own 0 inside (c.spread.ensures.bits k lane) word
          (λ apart. inv.done word k (omega (arith, lt, apart)) lane);
    }

pub returns-clause-bits : goal.returns-clause-bits
returns-clause-bits c = λ word k lt lane. c.loop-word.invariant.done word k (omega (arith, lt, c.loop-word-test.false)) lane
