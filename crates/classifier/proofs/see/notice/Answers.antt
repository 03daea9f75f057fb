use Rattle.std.proofs.Common.{◌≡◌, ◌<◌, ◌&&◌, ◌||◌, length, ap, ◌∙◌, arith, length-set}
use Rattle.workload.specs.Runs.{is_test}
use Rattle.fm_base.specs.Planes.{bit}
use Rattle.classifier.specs.Noise.{noise_at}
use Rattle.classifier.specs.Seen.{left_at}
use Rattle.classifier.proofs.EachWord.{each_set_one}
use Rattle.classifier.proofs.see.notice.Goals as goal

pub loop-word-preserved : goal.loop-word-preserved
loop-word-preserved c =
    let i = c.loop-word.word in
    let seen = c.loop-word.seen in
    let inv = c.loop-word.invariant in
    let left = c.args.left.now in
    let noise = c.args.noise.now in
    let own = c.either_lanes.result in
    let inside : i < length seen = omega (arith, c.loop-word-test.true, c.requires, inv.count) in
    record {
      count = length-set seen i own ∙ inv.count;
      done = λ word k lt.
          each_set_one (λ j p. bit p k ≡ (bit (left_at left j) k || (bit (noise_at noise j).raised k || (is_test c.args.kind && bit (noise_at noise j).silenced k)))) seen i own 0 inside
          (c.either_lanes.ensures k ∙ ap (λ b. bit (left_at left i) k || b) (c.noticed_by.ensures k)) word
          (λ apart. inv.done word k (omega (arith, lt, apart)));
    }

pub returns : goal.returns
returns c = λ word k lt. c.loop-word.invariant.done word k (omega (arith, lt, c.loop-word-test.false))
