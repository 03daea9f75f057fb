-- An alarm behind a latch, a test run, and the interval alone.
use Rattle.std.proofs.Common.{◌≡◌, ℕ, zero, suc, List, [], ◌∷◌, refl}
use Rattle.std.specs.Prelude.{Bool, true, false}
use Rattle.test_definitions.specs.Opened.{opened}
use Rattle.alarm_points.specs.Interval.{goes_unalarmed}
use Rattle.campaign_plan.specs.Analysis.{Analysis}
use Rattle.campaign_plan.specs.Batches.{true_planes}
use Rattle.test_definitions.specs.Circuits.{dupl, dupt}
use Rattle.test_definitions.specs.Files.{plan_of, dup_workload, dup_points, dupl_rates, five_vectors, dupt_rates, dupt_workload}

pub plan0 : Analysis
unfolding opened
plan0 = plan_of dupl five_vectors dupl_rates dup_points 0 []

pub plan1 : Analysis
unfolding opened
plan1 = plan_of dupl five_vectors dupl_rates dup_points 1 []

pub plan_short : Analysis
unfolding opened
plan_short = plan_of dupl dup_workload dupl_rates dup_points 1 []

pub plan_test : Analysis
unfolding opened
plan_test = plan_of dupt dupt_workload dupt_rates dup_points 0 []

-- an alarm one cycle late is too late
pub at_0 : true_planes plan0 0 ≡ record { danger = 0x3f; noticed = 0xbb0 }
unfolding plan0 opened
at_0 = refl

-- an alarm that stands exactly at t + ftti counts
pub at_1 : true_planes plan1 0 ≡ record { danger = 0xf; noticed = 0xbb0 }
unfolding plan1 opened
at_1 = refl

-- a run that ends before the alarm has none
pub short : true_planes plan_short 0 ≡ record { danger = 0x1f; noticed = 0xaa0 }
unfolding plan_short opened
short = refl

-- a silenced alarm of a test run is noticed
pub test_run : true_planes plan_test 0 ≡ record { danger = 0xf; noticed = 0xff0 }
unfolding plan_test opened
test_run = refl

abbrev read_bit : ℕ → List Bool → Bool
read_bit t [] = false
read_bit zero (b ∷ bs) = b
read_bit (suc t) (b ∷ bs) = read_bit t bs

pub window_late : goes_unalarmed 1 3 (λ t. read_bit t (true ∷ false ∷ false ∷ [])) (λ t. read_bit t (false ∷ false ∷ true ∷ [])) ≡ true
unfolding opened
window_late = refl

pub window_in_time : goes_unalarmed 1 2 (λ t. read_bit t (true ∷ false ∷ [])) (λ t. read_bit t (false ∷ true ∷ [])) ≡ false
unfolding opened
window_in_time = refl
