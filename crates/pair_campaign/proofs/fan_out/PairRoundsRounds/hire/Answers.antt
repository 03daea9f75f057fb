use Rattle.std.proofs.Common.{ℕ, subst, arith}
use Rattle.pair_campaign.specs.Work.{IsEquippedFor}
use Rattle.pair_campaign.proofs.fan_out.PairRoundsRounds.hire.Goals as goal

pub returns : goal.returns
returns c = λ number. record {
  equipped =
      subst (λ (planes : ℕ). IsEquippedFor c.args.self.now.plan.now c.args.self.now.bench.now planes c.in_ok-worker.worker) c.planes_for.ensures.planes
      c.in_ok-worker.ensures;
  own = λ q lt mine less. absurd (omega (arith, less));
}
