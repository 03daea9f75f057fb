-- Weights, classes and targets.
use Rattle.std.proofs.Common.{◌≡◌, ℕ, List, [], ◌∷◌, map, refl, codes}
use Rattle.std.specs.Prelude.{true, false, Some, None}
use Rattle.test_definitions.specs.Opened.{opened}
use Rattle.metric_sums.specs.declared.Role.TheVariants.{Mission, Mechanism, Other}
use Rattle.metric_sums.specs.declared.Class.TheVariants.{Safe, Detected, Residual, SinglePoint, Latent, Outside}
use Rattle.metric_sums.specs.declared.Asil.TheVariants.{B, D}
use Rattle.metric_sums.specs.Classes.{class_of}
use Rattle.metric_sums.specs.Metrics.{spfm_permanent, targets_of}
use Rattle.fm_base.specs.Lists.{below}
use Rattle.campaign_plan.specs.declared.PlanRefusal.TheVariants.{MissingRate, IdleRate}
use Rattle.campaign_plan.specs.Analysis.{Analysis}
use Rattle.campaign_plan.specs.PlanFaults.{plan_refusal}
use Rattle.campaign_plan.specs.Weights.{weight}
use Rattle.campaign_plan.specs.Batches.{true_planes, total, in_order}
use Rattle.test_definitions.specs.Circuits.{dup, chain, net}
use Rattle.test_definitions.specs.Files.{plan_of, dup_workload, dup_points, chain_workload, chain_points}

abbrev rates : List ℕ
rates = codes "pattern,part,role,covered,permanent,transient\n*,all,other,no,0.000010,0\n"

pub plan : Analysis
unfolding opened
plan = plan_of (chain 1) chain_workload rates (chain_points 1) 0 []

-- 10 units over 4 faults
pub weights : map (weight plan) (below 4) ≡ 3 ∷ 3 ∷ 2 ∷ 2 ∷ []
unfolding plan opened
weights = refl

-- a part of role `other` adds nothing
pub outside : total plan (in_order plan (true_planes plan)) ≡ record { permanent_all = 0; permanent_danger = 0; latent = 0; transient_all = 0; transient_danger = 0 }
unfolding plan opened
outside = refl

pub no_spfm : spfm_permanent (record { permanent_all = 0; permanent_danger = 0; latent = 0; transient_all = 0; transient_danger = 0 }) ≡ None
unfolding opened
no_spfm = refl

pub idle : plan_refusal (plan_of dup dup_workload (codes "pattern,part,role,covered,permanent,transient\na,in,mission,yes,4,0\nb,in,mission,yes,4,0\ny,out,mission,yes,2,1\nal,dup,mechanism,no,4,0\nz,dup,mechanism,no,4,0\n") dup_points 0 []) ≡ Some (IdleRate (codes "out") false)
unfolding opened
idle = refl

pub missing : plan_refusal (plan_of dup dup_workload (codes "pattern,part,role,covered,permanent,transient\na,in,mission,yes,4,0\nb,in,mission,yes,4,0\ny,out,mission,yes,2,0\nal,dup,mechanism,no,4,0\n") dup_points 0 []) ≡ Some (MissingRate (net 4) (codes "z"))
unfolding opened
missing = refl

-- a row for each line of the definition, and the least that is told apart
pub classes :
    class_of true true Other true true ∷ class_of true true Mission true false ∷ class_of true true Mechanism false true ∷ class_of false true Mechanism true true
    ∷ class_of false false Mechanism false true ∷ class_of false false Mechanism false false ∷ class_of false false Mission true true ∷ []
    ≡ Outside ∷ Residual ∷ SinglePoint ∷ Detected ∷ Latent ∷ Safe ∷ Safe ∷ []
unfolding opened
classes = refl

-- SPFM 90 per cent, LFM 60, and 1 FIT, by two levels
pub missed_at_d : targets_of D (record { permanent_all = 10000000; permanent_danger = 1000000; latent = 3600000; transient_all = 0; transient_danger = 0 })
    ≡ record { spfm_permanent = Some false; spfm_transient = None; lfm = Some false; term = true }
unfolding opened
missed_at_d = refl

pub met_at_b : targets_of B (record { permanent_all = 10000000; permanent_danger = 1000000; latent = 3600000; transient_all = 0; transient_danger = 0 })
    ≡ record { spfm_permanent = Some true; spfm_transient = None; lfm = Some true; term = true }
unfolding opened
met_at_b = refl

pub targets_b : (targets_of B (record { permanent_all = 10; permanent_danger = 0; latent = 4; transient_all = 0; transient_danger = 0 })).lfm ≡ Some true
unfolding opened
targets_b = refl

pub targets_d : (targets_of D (record { permanent_all = 10; permanent_danger = 10000000; latent = 0; transient_all = 0; transient_danger = 0 })).term ≡ false
unfolding opened
targets_d = refl
