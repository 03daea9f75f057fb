-- Weights of a sample of several batches.
use Rattle.std.proofs.Common.{◌≡◌, [], ◌∷◌, map, refl}
use Rattle.test_definitions.specs.Opened.{opened}
use Rattle.campaign_plan.specs.Analysis.{Analysis, fault_count}
use Rattle.campaign_plan.specs.Weights.{weight}
use Rattle.sample_gen.specs.Sample.{workload_text, rates_text, points_text}
use Rattle.test_definitions.specs.Circuits.{pipe}
use Rattle.test_definitions.specs.Files.{plan_of}

pub plan30 : Analysis
unfolding opened
plan30 = plan_of (pipe 30) (workload_text 30) rates_text points_text 0 (1 ∷ [])

pub sizes_30 : fault_count plan30 ≡ 306
unfolding plan30 opened
sizes_30 = refl

pub weights_30 : map (weight plan30) (4 ∷ 5 ∷ 122 ∷ []) ≡ 49181 ∷ 49181 ∷ 49180 ∷ []
unfolding plan30 opened
weights_30 = refl
