-- A flip of a latch.
use Rattle.std.proofs.Common.{◌≡◌, [], ◌∷◌, refl, codes}
use Rattle.test_definitions.specs.Opened.{opened}
use Rattle.campaign_plan.specs.Analysis.{Analysis}
use Rattle.campaign_plan.specs.Batches.{true_planes, total, in_order}
use Rattle.result_file.specs.ResultText.{settings_line}
use Rattle.test_definitions.specs.Circuits.{chain_latch}
use Rattle.test_definitions.specs.Files.{plan_of}

pub plan : Analysis
unfolding opened
plan = plan_of (chain_latch 31) (codes "workload,kind,n0\nw,mission,0\nw,mission,1\nw,mission,0\n") (codes "pattern,part,role,covered,permanent,transient\n*,all,mission,no,64,1\n") (codes "kind,net\nobserve,n31\n") 0 (0 ∷ [])

pub flip : true_planes plan 1 ≡ record { danger = 0x1; noticed = 0x0 }
unfolding plan opened
flip = refl

pub first_batch : true_planes plan 0 ≡ record { danger = 0xffffffffffffffff; noticed = 0x0 }
unfolding plan opened
first_batch = refl

pub sums : total plan (in_order plan (true_planes plan)) ≡ record { permanent_all = 0x3d09000; permanent_danger = 0x3d09000; latent = 0; transient_all = 0xf4240; transient_danger = 0xf4240 }
unfolding plan opened
sums = refl

pub settings : settings_line (plan.settings) ≡ codes "fmeda-settings 1 0 0\n"
unfolding plan opened
settings = refl
