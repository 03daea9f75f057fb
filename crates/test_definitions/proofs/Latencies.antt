-- The table of latencies of DUP and DUPL. Of its last column a computation that tries 4,097 intervals is too long where none would do, so it is
-- computed by first cycles.
use Rattle.std.proofs.Common.{◌≡◌, ◌∙◌, [], refl, codes}
use Rattle.std.specs.Prelude.{Some}
use Rattle.test_definitions.specs.Opened.{opened}
use Rattle.campaign_plan.specs.Analysis.{Analysis, fault_numbered}
use Rattle.campaign_tables.specs.Csv.{csv_field}
use Rattle.readings.specs.Latencies.{latencies, latencies_with, latency_row, least_interval}
use Rattle.readings.proofs.Intervals.{table_shown}
use Rattle.test_definitions.specs.Circuits.{dup, dupl}
use Rattle.test_definitions.specs.Files.{plan_of, dup_workload, dup_rates, dup_points, dupl_rates, five_vectors}

pub plan : Analysis
unfolding opened
plan = plan_of dup dup_workload dup_rates dup_points 0 []

-- al/0 is never excited; each alarm comes in the cycle of the difference, or never
pub table_of_dup : latencies plan ≡ codes "fault,part,class,weight,excited,reached_run,reached_cycle,alarm_run,alarm_cycle,alarm,interval\na/0,in,residual,1000000,1,1,3,-,-,-,-\na/1,in,residual,1000000,1,1,1,-,-,-,-\nb/0,in,residual,1000000,1,1,3,-,-,-,-\nb/1,in,residual,1000000,1,1,2,-,-,-,-\ny/0,out,detected,1000000,1,1,3,1,3,al,0\ny/1,out,detected,1000000,1,1,0,1,0,al,0\nal/0,dup,latent,1000000,0,-,-,-,-,-,0\nal/1,dup,detected,1000000,1,-,-,1,0,al,0\nz/0,dup,detected,1000000,1,-,-,1,3,al,0\nz/1,dup,detected,1000000,1,-,-,1,0,al,0\n"
unfolding plan opened csv_field latencies_with latency_row
table_of_dup = table_shown plan ∙ refl

pub two : Analysis
unfolding opened
two = plan_of dupl five_vectors dupl_rates (codes "goal,ftti,kind,net\nout,-,observe,y\nin,2,observe,a\n-,-,alarm,al\n-,-,alarm,b\n") 0 []

-- two goals and two alarms: of a/0 the net itself is reached first; for y/0 one cycle more would do
pub table_of_two : latencies two ≡ codes "fault,part,class,weight,excited,reached_run,reached_cycle,alarm_run,alarm_cycle,alarm,interval\na/0,in,residual,1000000,1,1,2,-,-,-,-\na/1,in,residual,1000000,1,1,0,-,-,-,-\nb/0,in,residual,1000000,1,1,3,-,-,-,-\nb/1,in,detected,1000000,1,1,2,1,0,b,0\ny/0,out,residual,1000000,1,1,3,1,4,al,1\ny/1,out,residual,1000000,1,1,0,1,1,al,1\nal/0,dup,latent,666667,0,-,-,-,-,-,0\nal/1,dup,detected,666667,1,-,-,1,0,al,0\nz/0,dup,detected,666667,1,-,-,1,4,al,0\nz/1,dup,detected,666667,1,-,-,1,1,al,0\nc/0,dup,latent,666666,0,-,-,-,-,-,0\nc/1,dup,detected,666666,1,-,-,1,1,al,0\n"
unfolding two opened csv_field latencies_with latency_row
table_of_two = table_shown two ∙ refl

-- a test ahead of the mission: alarms count in it, and differences at observation points don't
pub tested : Analysis
unfolding opened
tested = plan_of dup (codes "workload,kind,a,b\nt,test,1,1\nw,mission,0,0\nw,mission,0,1\nw,mission,1,0\nw,mission,1,1\n") dup_rates dup_points 0 []

pub table_of_tested : latencies tested ≡ codes "fault,part,class,weight,excited,reached_run,reached_cycle,alarm_run,alarm_cycle,alarm,interval\na/0,in,residual,1000000,1,2,3,-,-,-,-\na/1,in,residual,1000000,1,2,1,-,-,-,-\nb/0,in,residual,1000000,1,2,3,-,-,-,-\nb/1,in,residual,1000000,1,2,2,-,-,-,-\ny/0,out,detected,1000000,1,2,3,1,0,al,0\ny/1,out,detected,1000000,1,2,0,2,0,al,0\nal/0,dup,latent,1000000,0,-,-,-,-,-,0\nal/1,dup,detected,1000000,1,-,-,1,0,al,0\nz/0,dup,detected,1000000,1,-,-,1,0,al,0\nz/1,dup,detected,1000000,1,-,-,2,0,al,0\n"
unfolding tested opened csv_field latencies_with latency_row
table_of_tested = table_shown tested ∙ refl

-- where an interval would do it is tried out too
pub at_once : least_interval two (fault_numbered two 3) ≡ Some 0
unfolding two opened least_interval
at_once = refl

pub a_cycle_later : least_interval two (fault_numbered two 4) ≡ Some 1
unfolding two opened least_interval
a_cycle_later = refl
