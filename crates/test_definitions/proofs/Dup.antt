-- The circuit DUP.
use Rattle.std.proofs.Common.{◌≡◌, [], ◌∷◌, map, refl, codes}
use Rattle.std.specs.Prelude.{true, false, Some, None, Ok, flat_map}
use Rattle.test_definitions.specs.Opened.{opened}
use Rattle.metric_sums.specs.declared.Role.TheVariants.{Mission as mission_role, Mechanism}
use Rattle.metric_sums.specs.declared.Class.TheVariants.{Detected, Residual, Latent}
use Rattle.metric_sums.specs.Metrics.{spfm_permanent}
use Rattle.fault_list.specs.Faults.{fault_name}
use Rattle.fm_base.specs.Lists.{below}
use Rattle.workload.specs.declared.run.Kind.TheVariants.{Mission}
use Rattle.workload.specs.WorkloadFile.{workload_of}
use Rattle.rate_table.specs.RatesFile.{rates_of}
use Rattle.alarm_points.specs.PointsFile.{points_of}
use Rattle.campaign_plan.specs.Analysis.{Analysis, all_faults}
use Rattle.campaign_plan.specs.PlanFaults.{plan_refusal}
use Rattle.campaign_plan.specs.Batches.{true_planes, own_sums, class_of_fault, in_order}
use Rattle.result_file.specs.ResultText.{row_text, result_rows}
use Rattle.fmeda_report.specs.Report.{report, true_report}
use Rattle.test_definitions.specs.Circuits.{dup, net}
use Rattle.test_definitions.specs.Files.{plan_of, dup_workload, dup_rates, dup_points}

pub plan : Analysis
unfolding opened
plan = plan_of dup dup_workload dup_rates dup_points 0 []

pub runs : workload_of dup dup_workload ≡ Ok (record { kind = Mission; vectors = (false ∷ false ∷ []) ∷ (false ∷ true ∷ []) ∷ (true ∷ false ∷ []) ∷ (true ∷ true ∷ []) ∷ [] } ∷ [])
unfolding opened
runs = refl

pub points : points_of dup dup_points ≡ Ok (record { goals = record { name = []; ftti = None; observe = net 2 ∷ [] } ∷ []; alarm = net 3 ∷ [] })
unfolding opened
points = refl

pub rates : rates_of dup_rates ≡ Ok (record { patterns = record { name = codes "a"; star = false; part = 0 } ∷ record { name = codes "b"; star = false; part = 0 } ∷ record { name = codes "y"; star = false; part = 1 } ∷ record { name = codes "al"; star = false; part = 2 } ∷ record { name = codes "z"; star = false; part = 2 } ∷ []; parts = record { name = codes "in"; role = mission_role; covered = true; permanent = 4000000; transient = 0 } ∷ record { name = codes "out"; role = mission_role; covered = true; permanent = 2000000; transient = 0 } ∷ record { name = codes "dup"; role = Mechanism; covered = false; permanent = 4000000; transient = 0 } ∷ [] })
unfolding opened
rates = refl

pub names : map (fault_name dup) (all_faults plan) ≡ codes "a/0" ∷ codes "a/1" ∷ codes "b/0" ∷ codes "b/1" ∷ codes "y/0" ∷ codes "y/1" ∷ codes "al/0" ∷ codes "al/1" ∷ codes "z/0" ∷ codes "z/1" ∷ []
unfolding plan opened
names = refl

pub is_plan : plan_refusal plan ≡ None
unfolding plan opened
is_plan = refl

pub planes : true_planes plan 0 ≡ record { danger = 0xf; noticed = 0x3b0 }
unfolding plan opened
planes = refl

pub classes : map (class_of_fault plan (true_planes plan)) (below 10) ≡ Residual ∷ Residual ∷ Residual ∷ Residual ∷ Detected ∷ Detected ∷ Latent ∷ Detected ∷ Detected ∷ Detected ∷ []
unfolding plan opened
classes = refl

pub sums : own_sums plan 0 (true_planes plan 0) ≡ record { permanent_all = 10000000; permanent_danger = 4000000; latent = 1000000; transient_all = 0; transient_danger = 0 }
unfolding plan opened
sums = refl

pub metrics : spfm_permanent (own_sums plan 0 (record { danger = 0xf; noticed = 0x3b0 })) ≡ Some (record { num = 6000000; den = 10000000 })
unfolding plan opened
metrics = refl

pub row_of_dup : flat_map row_text (result_rows plan (in_order plan (true_planes plan))) ≡ codes "r 00000000 000000000000000f 00000000000003b0 0000000000989680 00000000003d0900 00000000000f4240 0000000000000000 0000000000000000\n"
unfolding plan opened
row_of_dup = refl

pub whole_report : true_report plan ≡ codes "fmeda-report 1\nnets 5 latches 0 faults 10 batches 1 workloads 1 cycles 4 ftti 0 asil D\npart in mission covered permanent 4000000 transient 0 faults 4 safe 0 detected 0 residual 4 single-point 0 latent 0 outside 0 coverage 0/4000000\npart out mission covered permanent 2000000 transient 0 faults 2 safe 0 detected 2 residual 0 single-point 0 latent 0 outside 0 coverage 2000000/2000000\npart dup mechanism uncovered permanent 4000000 transient 0 faults 4 safe 0 detected 3 residual 0 single-point 0 latent 1 outside 0 coverage 3000000/3000000\npermanent all 10000000 danger 4000000 latent 1000000\ntransient all 0 danger 0\nspfm permanent 6000000/10000000\nspfm transient -\nlfm 5000000/6000000\nterm 4000000\ntarget spfm permanent missed\ntarget spfm transient -\ntarget lfm missed\ntarget term met\nresidual a/0 1000000\nresidual a/1 1000000\nresidual b/0 1000000\nresidual b/1 1000000\nlatent al/0 1000000\nend\n"
unfolding plan opened
whole_report = refl

pub uncovered : Analysis
unfolding opened
uncovered = plan_of dup dup_workload (codes "pattern,part,role,covered,permanent,transient\na,in,mission,no,4,0\nb,in,mission,no,4,0\ny,out,mission,yes,2,0\nal,dup,mechanism,no,4,0\nz,dup,mechanism,no,4,0\n") dup_points 0 []

-- with the part `in` not covered
pub uncovered_report : report uncovered (λ _. record { danger = 0xf; noticed = 0x3b0 }) ≡ codes "fmeda-report 1\nnets 5 latches 0 faults 10 batches 1 workloads 1 cycles 4 ftti 0 asil D\npart in mission uncovered permanent 4000000 transient 0 faults 4 safe 0 detected 0 residual 0 single-point 4 latent 0 outside 0 coverage 0/4000000\npart out mission covered permanent 2000000 transient 0 faults 2 safe 0 detected 2 residual 0 single-point 0 latent 0 outside 0 coverage 2000000/2000000\npart dup mechanism uncovered permanent 4000000 transient 0 faults 4 safe 0 detected 3 residual 0 single-point 0 latent 1 outside 0 coverage 3000000/3000000\npermanent all 10000000 danger 4000000 latent 1000000\ntransient all 0 danger 0\nspfm permanent 6000000/10000000\nspfm transient -\nlfm 5000000/6000000\nterm 4000000\ntarget spfm permanent missed\ntarget spfm transient -\ntarget lfm missed\ntarget term met\nsingle-point a/0 1000000\nsingle-point a/1 1000000\nsingle-point b/0 1000000\nsingle-point b/1 1000000\nlatent al/0 1000000\nend\n"
unfolding uncovered opened
uncovered_report = refl
