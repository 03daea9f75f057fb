use Rattle.std.proofs.Common.{◌≡◌, ◌≢◌, ◌+◌, ◌*◌, ◌<◌, ℕ, [], length, inl, inr, ap, sym, ◌∙◌, arith, length-set}
use Rattle.std.proofs.lemmas.Bool.{cases_eq}
use Rattle.testbench.specs.Load.{lane_faults, load_of}
use Rattle.classifier.specs.Simulator.{listed}
use Rattle.classifier.specs.OutOfReach.{AreOutOfReach, reach_at}
use Rattle.classifier.specs.declared.reached.OutOfReach.{OutOfReach}
use Rattle.classifier.proofs.EachWord.{each_set_one}
use Rattle.classifier.proofs.Following.{elsewhere}
use Rattle.classifier.proofs.PlaneBits.{reach_alike}
use Rattle.classifier.proofs.simulator.load_lists.Goals as goal

pub loop-word-preserved : goal.loop-word-preserved
loop-word-preserved c =
    let i = c.loop-word.word in
    let inv = c.loop-word.invariant in
    let net = c.args.bench.now.circuit in
    let points = c.args.bench.now.points in
    let before = lane_faults (load_of c.loop-word.lanes) in
    let after = lane_faults (load_of c.load.new.self) in
    let fit = c.load.ensures.made in
    let others : (word k : ℕ) → word ≢ i → k < 64 → after word k ≡ before word k = λ word k apart lane. c.load.ensures.others (word * 64 + k) (elsewhere word i k lane apart) in
    let none : OutOfReach = reach_at [] 0 in
    let inside : i < length c.loop-word.reach = omega (arith, inv.count, c.loop-word-test.true) in
    record {
      made = record { circuit = fit.circuit ∙ inv.made.circuit; order = fit.order ∙ inv.made.order };
      loads = λ word k lt lane.
          elim (cases_eq word i) as (λ _. after word k ≡ listed c.args.lists.now word k) [
            | inl same ↦ ap (λ j. after j k) same ∙ c.load.ensures.loads k lane ∙ sym (ap (λ j. listed c.args.lists.now j k) same)
            | inr apart ↦ others word k apart lane ∙ inv.loads word k (omega (arith, lt, apart)) lane
          ];
      count = length-set c.loop-word.reach i c.out_of_reach.result ∙ inv.count;
      reach = λ word lt.
          each_set_one (λ j r. AreOutOfReach net points (after j) r) c.loop-word.reach i c.out_of_reach.result none inside
          (c.out_of_reach.ensures (after i) (λ k lane. c.load.ensures.loads k lane)) word
          (λ apart. reach_alike net points (before word) (after word) (reach_at c.loop-word.reach word) (λ k lane. others word k apart lane) (inv.reach word (omega (arith, apart, lt))));
    }
