use Rattle.std.proofs.Common.{◌≡◌, ◌+◌, ◌*◌, ◌<◌, [], length, ◌∙◌, arith, length-set}
use Rattle.fm_base.specs.Planes.{bit}
use Rattle.classifier.specs.Noise.{noise_at}
use Rattle.classifier.specs.declared.noise.Noise.{Noise}
use Rattle.classifier.proofs.EachWord.{each_set_one}
use Rattle.classifier.proofs.points.noise_of.Goals as goal

pub loop-word-preserved : goal.loop-word-preserved
loop-word-preserved g c =
    let i = c.loop-word.word in
    let noise = c.loop-word.noise in
    let inv = c.loop-word.invariant in
    let none : Noise = noise_at [] 0 in
    let own : Noise = record { raised = c.part.result; silenced = c.part-in-loop-word.result } in
    let inside : i < length noise = omega (arith, c.loop-word-test.true, c.words-word-end.ensures.few, c.words-word-end.ensures.count, inv.count) in
    record {
      count = length-set noise i own ∙ inv.count;
      raised = λ word k lt lane.
          each_set_one (λ j (n : Noise). bit n.raised k ≡ g.W.Word.lane_bit c.args.heard.now.raised (j * 64 + k)) noise i own none inside (c.part.ensures k lane) word
          (λ apart. inv.raised word k (omega (arith, lt, apart)) lane);
      silenced = λ word k lt lane.
          each_set_one (λ j (n : Noise). bit n.silenced k ≡ g.W.Word.lane_bit c.args.heard.now.silenced (j * 64 + k)) noise i own none inside (c.part-in-loop-word.ensures k lane) word
          (λ apart. inv.silenced word k (omega (arith, lt, apart)) lane);
    }

pub returns-clause-raised : goal.returns-clause-raised
returns-clause-raised g c = λ word k lt lane.
    c.loop-word.invariant.raised word k (omega (arith, lt, c.loop-word-test.false, c.words-word-end.ensures.count)) lane

pub returns-clause-silenced : goal.returns-clause-silenced
returns-clause-silenced g c = λ word k lt lane.
    c.loop-word.invariant.silenced word k (omega (arith, lt, c.loop-word-test.false, c.words-word-end.ensures.count)) lane
