use Rattle.metric_coverage.proofs.free.free_sums.Goals as goal

pub returns-clause-sums : goal.returns-clause-sums
returns-clause-sums c = λ i. record { best = c.sums_at.ensures.sums i; worst = c.sums_at-2.ensures.sums i; most_latent = c.sums_at-3.ensures.sums i }
