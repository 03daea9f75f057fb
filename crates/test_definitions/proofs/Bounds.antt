-- The bounds of a campaign over DUP.
use Rattle.std.proofs.Common.{◌≡◌, [], ◌∷◌, refl, codes}
use Rattle.test_definitions.specs.Opened.{opened}
use Rattle.campaign_plan.specs.Analysis.{Analysis}
use Rattle.metric_bounds.specs.Progress.{progress}
use Rattle.test_definitions.specs.Circuits.{dup}
use Rattle.test_definitions.specs.Files.{plan_of, dup_workload, dup_rates, dup_points}

pub plan : Analysis
unfolding opened
plan = plan_of dup dup_workload dup_rates dup_points 0 []

-- with no row anything may come: at worst all faults are dangerous, or the 6 FIT of the mission are and the 4 FIT of the mechanism are latent
pub none : progress plan [] ≡ codes "rows 0 of 1\njudged permanent 0 of 10000000\njudged transient 0 of 0\nspfm permanent from 0/10000000 to 10000000/10000000\nspfm transient from - to -\nlfm from 0/4000000 to 10000000/10000000\nterm from 0 to 10000000\ntarget spfm permanent open\ntarget spfm transient -\ntarget lfm open\ntarget term open\n"
unfolding plan opened progress
none = refl

-- with all rows the bounds are the report's metrics
pub whole : progress plan ((0, record { danger = 0xf; noticed = 0x3b0 }) ∷ []) ≡ codes "rows 1 of 1\njudged permanent 10000000 of 10000000\njudged transient 0 of 0\nspfm permanent from 6000000/10000000 to 6000000/10000000\nspfm transient from - to -\nlfm from 5000000/6000000 to 5000000/6000000\nterm from 4000000 to 4000000\ntarget spfm permanent missed\ntarget spfm transient -\ntarget lfm missed\ntarget term met\n"
unfolding plan opened progress
whole = refl

pub mission : Analysis
unfolding opened
mission = plan_of dup dup_workload (codes "pattern,part,role,covered,permanent,transient\n*,all,mission,yes,10,0\n") dup_points 0 []

-- without a mechanism no fault is latent: where the latent fault metric has a value, it is 1
pub one : progress mission [] ≡ codes "rows 0 of 1\njudged permanent 0 of 10000000\njudged transient 0 of 0\nspfm permanent from 0/10000000 to 10000000/10000000\nspfm transient from - to -\nlfm from 10000000/10000000 to 10000000/10000000\nterm from 0 to 10000000\ntarget spfm permanent open\ntarget spfm transient -\ntarget lfm met\ntarget term open\n"
unfolding mission opened progress
one = refl
