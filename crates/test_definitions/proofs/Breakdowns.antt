-- The metrics of DUP and DUPL by each reading.
use Rattle.std.proofs.Common.{◌≡◌, List, ℕ, [], ◌∷◌, refl, codes}
use Rattle.test_definitions.specs.Opened.{opened}
use Rattle.campaign_plan.specs.Analysis.{Analysis}
use Rattle.readings.specs.Breakdown.{breakdown, breakdown_with, readings}
use Rattle.test_definitions.specs.Circuits.{dup, dupl}
use Rattle.test_definitions.specs.Files.{plan_of, dup_workload, dup_rates, dup_points, dupl_rates, five_vectors}

-- one goal without a name, and one alarm
pub plan : Analysis
unfolding opened
plan = plan_of dup dup_workload dup_rates dup_points 0 []

-- without the alarm the faults of y are dangerous too, and all four of the mechanism are latent; an interval more helps nothing
pub of_dup : breakdown plan (1 ∷ []) ≡ codes "reading all\npermanent all 10000000 danger 4000000 latent 1000000\ntransient all 0 danger 0\nspfm permanent 6000000/10000000\nspfm transient -\nlfm 5000000/6000000\nterm 4000000\ntarget spfm permanent missed\ntarget spfm transient -\ntarget lfm missed\ntarget term met\nreading goal -\npermanent all 10000000 danger 4000000 latent 1000000\ntransient all 0 danger 0\nspfm permanent 6000000/10000000\nspfm transient -\nlfm 5000000/6000000\nterm 4000000\ntarget spfm permanent missed\ntarget spfm transient -\ntarget lfm missed\ntarget term met\nreading without al\npermanent all 10000000 danger 6000000 latent 4000000\ntransient all 0 danger 0\nspfm permanent 4000000/10000000\nspfm transient -\nlfm 0/4000000\nterm 6000000\ntarget spfm permanent missed\ntarget spfm transient -\ntarget lfm missed\ntarget term met\nreading only al\npermanent all 10000000 danger 4000000 latent 1000000\ntransient all 0 danger 0\nspfm permanent 6000000/10000000\nspfm transient -\nlfm 5000000/6000000\nterm 4000000\ntarget spfm permanent missed\ntarget spfm transient -\ntarget lfm missed\ntarget term met\nreading ftti 1\npermanent all 10000000 danger 4000000 latent 1000000\ntransient all 0 danger 0\nspfm permanent 6000000/10000000\nspfm transient -\nlfm 5000000/6000000\nterm 4000000\ntarget spfm permanent missed\ntarget spfm transient -\ntarget lfm missed\ntarget term met\nend\n"
unfolding plan opened readings breakdown_with
of_dup = refl

-- two goals, one with an interval of its own, and two alarms, of which al comes a cycle late and b tells of b/1 alone
abbrev two_points : List ℕ
two_points = codes "goal,ftti,kind,net\nout,-,observe,y\nin,2,observe,a\n-,-,alarm,al\n-,-,alarm,b\n"

pub two : Analysis
unfolding opened
two = plan_of dupl five_vectors dupl_rates two_points 0 []

-- the goal on a is violated by a/0 and a/1 alone; b is worth b/1, al with interval 0 no danger but all latent faults; and an interval more is
-- worth the faults of y, while one of 4,096 is worth no more
pub of_two : breakdown two (1 ∷ 4096 ∷ []) ≡ codes "reading all\npermanent all 10000000 danger 5000000 latent 1333333\ntransient all 0 danger 0\nspfm permanent 5000000/10000000\nspfm transient -\nlfm 3666667/5000000\nterm 5000000\ntarget spfm permanent missed\ntarget spfm transient -\ntarget lfm missed\ntarget term met\nreading goal out\npermanent all 10000000 danger 5000000 latent 1333333\ntransient all 0 danger 0\nspfm permanent 5000000/10000000\nspfm transient -\nlfm 3666667/5000000\nterm 5000000\ntarget spfm permanent missed\ntarget spfm transient -\ntarget lfm missed\ntarget term met\nreading goal in\npermanent all 10000000 danger 2000000 latent 1333333\ntransient all 0 danger 0\nspfm permanent 8000000/10000000\nspfm transient -\nlfm 6666667/8000000\nterm 2000000\ntarget spfm permanent missed\ntarget spfm transient -\ntarget lfm missed\ntarget term met\nreading without al\npermanent all 10000000 danger 5000000 latent 4000000\ntransient all 0 danger 0\nspfm permanent 5000000/10000000\nspfm transient -\nlfm 1000000/5000000\nterm 5000000\ntarget spfm permanent missed\ntarget spfm transient -\ntarget lfm missed\ntarget term met\nreading without b\npermanent all 10000000 danger 6000000 latent 1333333\ntransient all 0 danger 0\nspfm permanent 4000000/10000000\nspfm transient -\nlfm 2666667/4000000\nterm 6000000\ntarget spfm permanent missed\ntarget spfm transient -\ntarget lfm missed\ntarget term met\nreading only al\npermanent all 10000000 danger 6000000 latent 1333333\ntransient all 0 danger 0\nspfm permanent 4000000/10000000\nspfm transient -\nlfm 2666667/4000000\nterm 6000000\ntarget spfm permanent missed\ntarget spfm transient -\ntarget lfm missed\ntarget term met\nreading only b\npermanent all 10000000 danger 5000000 latent 4000000\ntransient all 0 danger 0\nspfm permanent 5000000/10000000\nspfm transient -\nlfm 1000000/5000000\nterm 5000000\ntarget spfm permanent missed\ntarget spfm transient -\ntarget lfm missed\ntarget term met\nreading ftti 1\npermanent all 10000000 danger 3000000 latent 1333333\ntransient all 0 danger 0\nspfm permanent 7000000/10000000\nspfm transient -\nlfm 5666667/7000000\nterm 3000000\ntarget spfm permanent missed\ntarget spfm transient -\ntarget lfm missed\ntarget term met\nreading ftti 4096\npermanent all 10000000 danger 3000000 latent 1333333\ntransient all 0 danger 0\nspfm permanent 7000000/10000000\nspfm transient -\nlfm 5666667/7000000\nterm 3000000\ntarget spfm permanent missed\ntarget spfm transient -\ntarget lfm missed\ntarget term met\nend\n"
unfolding two opened readings breakdown_with
of_two = refl

-- two goals with intervals of their own, which the one of a reading doesn't replace
pub now : Analysis
unfolding opened
now = plan_of dupl five_vectors dupl_rates (codes "goal,ftti,kind,net\nnow,0,observe,y\nsoon,1,observe,y\n-,-,alarm,al\n") 0 []

pub of_now : breakdown now (1 ∷ []) ≡ codes "reading all\npermanent all 10000000 danger 6000000 latent 1333333\ntransient all 0 danger 0\nspfm permanent 4000000/10000000\nspfm transient -\nlfm 2666667/4000000\nterm 6000000\ntarget spfm permanent missed\ntarget spfm transient -\ntarget lfm missed\ntarget term met\nreading goal now\npermanent all 10000000 danger 6000000 latent 1333333\ntransient all 0 danger 0\nspfm permanent 4000000/10000000\nspfm transient -\nlfm 2666667/4000000\nterm 6000000\ntarget spfm permanent missed\ntarget spfm transient -\ntarget lfm missed\ntarget term met\nreading goal soon\npermanent all 10000000 danger 4000000 latent 1333333\ntransient all 0 danger 0\nspfm permanent 6000000/10000000\nspfm transient -\nlfm 4666667/6000000\nterm 4000000\ntarget spfm permanent missed\ntarget spfm transient -\ntarget lfm missed\ntarget term met\nreading without al\npermanent all 10000000 danger 6000000 latent 4000000\ntransient all 0 danger 0\nspfm permanent 4000000/10000000\nspfm transient -\nlfm 0/4000000\nterm 6000000\ntarget spfm permanent missed\ntarget spfm transient -\ntarget lfm missed\ntarget term met\nreading only al\npermanent all 10000000 danger 6000000 latent 1333333\ntransient all 0 danger 0\nspfm permanent 4000000/10000000\nspfm transient -\nlfm 2666667/4000000\nterm 6000000\ntarget spfm permanent missed\ntarget spfm transient -\ntarget lfm missed\ntarget term met\nreading ftti 1\npermanent all 10000000 danger 6000000 latent 1333333\ntransient all 0 danger 0\nspfm permanent 4000000/10000000\nspfm transient -\nlfm 2666667/4000000\nterm 6000000\ntarget spfm permanent missed\ntarget spfm transient -\ntarget lfm missed\ntarget term met\nend\n"
unfolding now opened readings breakdown_with
of_now = refl
