use Rattle.std.proofs.Common.{◌≡◌, ℕ, true, get_or, ap, sym, take_all, arith}
use Rattle.std.specs.Prelude.{count_by, nat_lt}
use Rattle.std.proofs.lemmas.List.Sums.{count_by_more_yes}
use Rattle.metric_coverage.proofs.Upsetting.{at_least_place, stops_there}
use Rattle.metric_coverage.proofs.upsets.cycles_below.Goals as goal

pub loop-k-preserved : goal.loop-k-preserved
loop-k-preserved c =
    let cycles = c.args.cycles.now in
    let k : ℕ = c.loop-k.k in
    let below : nat_lt (get_or cycles k 0) c.args.bound ≡ true = grind (arith, c.if-cycle-bound.false) in
    record {
      count = omega (arith, count_by_more_yes (λ cycle. nat_lt cycle c.args.bound) cycles k 0 c.loop-k-test.true below, c.loop-k.invariant.count);
      few = omega (arith, at_least_place cycles c.requires k c.loop-k-test.true, c.if-cycle-bound.false);
    }

pub returns-then-cycle-bound : goal.returns-then-cycle-bound
returns-then-cycle-bound c = record {
  count = sym (stops_there c.args.cycles.now c.args.bound c.loop-k.k c.requires c.loop-k-test.true c.loop-k.invariant.count c.if-cycle-bound.true);
  few = c.loop-k.invariant.few;
}

pub returns : goal.returns
returns c =
    let all = ap (count_by (λ cycle. nat_lt cycle c.args.bound)) (take_all c.loop-k.k c.args.cycles.now (omega (arith, c.loop-k-test.false))) in
    record {
      count = omega (arith, all, c.loop-k.invariant.count, c.loop-k-test.false);
      few = omega (arith, c.loop-k.invariant.few);
    }
