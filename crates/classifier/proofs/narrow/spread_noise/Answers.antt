use Rattle.std.proofs.Common.{◌≡◌, ◌+◌, ◌*◌, ◌<◌, [], length, ◌∙◌, arith, length-set}
use Rattle.differential_kernel.specs.Picked.{bit_at_place, place_in}
use Rattle.fm_base.specs.Planes.{bit}
use Rattle.classifier.specs.Noise.{noise_at}
use Rattle.classifier.specs.declared.noise.Noise.{Noise}
use Rattle.classifier.proofs.EachWord.{each_set_one}
use Rattle.classifier.proofs.narrow.spread_noise.Goals as goal

pub loop-word-preserved : goal.loop-word-preserved
loop-word-preserved c =
    let i = c.loop-word.word in
    let noise = c.loop-word.noise in
    let inv = c.loop-word.invariant in
    let picks = c.args.picks.now in
    let none : Noise = noise_at [] 0 in
    let own : Noise = record { raised = c.spread.result; silenced = c.spread-in-loop-word.result } in
    let inside : i < length noise = omega (arith, c.loop-word-test.true, inv.count) in
    record {
      count = length-set noise i own ∙ inv.count;
      raised = λ word k lt lane.
          each_set_one (λ j (n : Noise). bit n.raised k ≡ bit_at_place c.args.heard.now.raised (place_in picks (j * 64 + k))) noise i own none inside (c.spread.ensures.bits k lane) word
          (λ apart. inv.raised word k (omega (arith, lt, apart)) lane);
      silenced = λ word k lt lane.
          each_set_one (λ j (n : Noise). bit n.silenced k ≡ bit_at_place c.args.heard.now.silenced (place_in picks (j * 64 + k))) noise i own none inside (c.spread-in-loop-word.ensures.bits k lane) word
          (λ apart. inv.silenced word k (omega (arith, lt, apart)) lane);
    }

pub returns-clause-raised : goal.returns-clause-raised
returns-clause-raised c = λ word k lt lane. c.loop-word.invariant.raised word k (omega (arith, lt, c.loop-word-test.false)) lane

pub returns-clause-silenced : goal.returns-clause-silenced
returns-clause-silenced c = λ word k lt lane. c.loop-word.invariant.silenced word k (omega (arith, lt, c.loop-word-test.false)) lane
