-- The table of faults of DUP, and fields of a CSV text.
use Rattle.std.proofs.Common.{◌≡◌, [], ◌∷◌, refl, codes}
use Rattle.test_definitions.specs.Opened.{opened}
use Rattle.campaign_plan.specs.Analysis.{Analysis}
use Rattle.campaign_tables.specs.Csv.{csv_field, csv_row}
use Rattle.campaign_tables.specs.FaultTable.{fault_row, fault_table}
use Rattle.test_definitions.specs.Circuits.{dup}
use Rattle.test_definitions.specs.Files.{plan_of, dup_workload, dup_rates, dup_points}

pub plan : Analysis
unfolding opened
plan = plan_of dup dup_workload dup_rates dup_points 0 []

-- where the one batch is kept
pub kept : fault_table plan ((0, record { danger = 0xf; noticed = 0x3b0 }) ∷ []) ≡ codes "fault,net,kind,part,role,covered,class,dangerous,noticed,weight\na/0,a,stuck-at,in,mission,yes,residual,1,0,1000000\na/1,a,stuck-at,in,mission,yes,residual,1,0,1000000\nb/0,b,stuck-at,in,mission,yes,residual,1,0,1000000\nb/1,b,stuck-at,in,mission,yes,residual,1,0,1000000\ny/0,y,stuck-at,out,mission,yes,detected,0,1,1000000\ny/1,y,stuck-at,out,mission,yes,detected,0,1,1000000\nal/0,al,stuck-at,dup,mechanism,no,latent,0,0,1000000\nal/1,al,stuck-at,dup,mechanism,no,detected,0,1,1000000\nz/0,z,stuck-at,dup,mechanism,no,detected,0,1,1000000\nz/1,z,stuck-at,dup,mechanism,no,detected,0,1,1000000\n"
unfolding plan opened csv_field fault_row fault_table
kept = refl

-- where no batch is kept
pub none : fault_table plan [] ≡ codes "fault,net,kind,part,role,covered,class,dangerous,noticed,weight\n"
unfolding plan opened csv_field fault_row fault_table
none = refl

-- a field is quoted for a comma, a quote or an end of line, and a quote in it is doubled
pub fields : csv_row (codes "plain" ∷ codes "q[3,1]" ∷ codes "say \"x\"" ∷ codes "two\nlines" ∷ codes "a b" ∷ [] ∷ []) ≡ codes "plain,\"q[3,1]\",\"say \"\"x\"\"\",\"two\nlines\",a b,\n"
unfolding csv_field
fields = refl
