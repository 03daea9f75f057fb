-- The most steps that the simulation of one of each group of equal faults takes.
use Rattle.std.proofs.Common.{◌≡◌, ◌++◌, [], refl, codes}
use Rattle.std.specs.Prelude.{decimal, flat_map}
use Rattle.test_definitions.specs.Opened.{opened}
use Rattle.fm_base.specs.Lists.{below}
use Rattle.campaign_plan.specs.Analysis.{Analysis}
use Rattle.fault_collapse.specs.Outcomes.{most_steps}
use Rattle.test_definitions.specs.Circuits.{chain, dup}
use Rattle.test_definitions.specs.Files.{plan_of, chain_workload, chain_rates, chain_points, dup_workload, dup_rates, dup_points}

-- a chain of 33 nets, of which the last is observed: two faults are left of 66, one pass over 32 tables in each of two cycles
pub plan : Analysis
unfolding opened
plan = plan_of (chain 32) chain_workload (chain_rates 33) (chain_points 32) 0 []

pub one_pass : most_steps plan ≡ 64
unfolding plan opened
one_pass = refl

-- the same chain with each net observed: all 66 faults are left, which are one pass with 256 at once
pub all_observed : Analysis
unfolding opened
all_observed =
    plan_of (chain 32) chain_workload (chain_rates 33) (codes "kind,net\n" ++ flat_map (λ k. codes "observe,n" ++ decimal k ++ codes "\n") (below 33)) 0 []

pub one_wide_pass : most_steps all_observed ≡ 64
unfolding all_observed opened
one_wide_pass = refl

-- the duplicated AND, four cycles of three tables
pub plan_dup : Analysis
unfolding opened
plan_dup = plan_of dup dup_workload dup_rates dup_points 0 []

pub dup_steps : most_steps plan_dup ≡ 12
unfolding plan_dup opened
dup_steps = refl
