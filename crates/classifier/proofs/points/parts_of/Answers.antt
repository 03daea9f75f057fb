use Rattle.std.proofs.Common.{◌≡◌, ◌+◌, ◌*◌, ◌<◌, length, ◌∙◌, arith, length-set}
use Rattle.fm_base.specs.Planes.{bit}
use Rattle.classifier.proofs.EachWord.{each_set_one}
use Rattle.classifier.proofs.points.parts_of.Goals as goal

pub loop-word-preserved : goal.loop-word-preserved
loop-word-preserved g c =
    let i = c.loop-word.word in
    let planes = c.loop-word.planes in
    let inv = c.loop-word.invariant in
    let own = c.part.result in
    let inside : i < length planes = omega (arith, c.loop-word-test.true, c.words-word-end.ensures.few, c.words-word-end.ensures.count, inv.count) in
    record {
      count = length-set planes i own ∙ inv.count;
      done = λ word k lt lane.
          each_set_one (λ j p. bit p k ≡ g.W.Word.lane_bit c.args.lanes (j * 64 + k)) planes i own 0 inside (c.part.ensures k lane) word
          (λ apart. inv.done word k (omega (arith, lt, apart)) lane);
    }

pub returns : goal.returns
returns g c = λ word k lt lane. c.loop-word.invariant.done word k (omega (arith, lt, c.loop-word-test.false, c.words-word-end.ensures.count)) lane
