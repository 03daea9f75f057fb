-- The generated texts, and the summary of the smallest sample.
use Rattle.std.proofs.Common.{◌≡◌, [], ◌∷◌, refl, codes}
use Rattle.test_definitions.specs.Opened.{opened}
use Rattle.campaign_plan.specs.Analysis.{Analysis}
use Rattle.campaign_plan.specs.Batches.{true_planes}
use Rattle.fmeda_report.specs.Report.{summary}
use Rattle.sample_gen.specs.Sample.{netlist_text, workload_text, rates_text, points_text}
use Rattle.test_definitions.specs.Circuits.{pipe}
use Rattle.test_definitions.specs.Files.{plan_of}

pub plan1 : Analysis
unfolding opened
plan1 = plan_of (pipe 1) (workload_text 1) rates_text points_text 0 (1 ∷ [])

pub netlist : netlist_text 1 ≡ codes ".model pipe\n.inputs d\n.outputs q e\n.names d m1\n0 1\n.latch m1 a1 0\n.names d n1\n0 1\n.latch n1 b1 0\n.names a1 q\n1 1\n.names a1 b1 e\n10 1\n01 1\n.end\n"
unfolding opened
netlist = refl

pub workload : workload_text 1 ≡ codes "workload,kind,d\nw,mission,1\nw,mission,0\nw,mission,0\nw,mission,1\nw,mission,0\nw,mission,0\nw,mission,1\nw,mission,0\nw,mission,0\n"
unfolding opened
workload = refl

pub gen_1 : summary 1 plan1 (true_planes plan1) ≡ codes "gen 1\nnets 7 latches 2 faults 16 batches 1 workloads 1 cycles 9 ftti 0 asil D\npermanent all 13000000 danger 3000000 latent 1000000\ntransient all 6000000 danger 0\nspfm permanent 10000000/13000000\nspfm transient 6000000/6000000\nlfm 9000000/10000000\nterm 3000000\ntarget spfm permanent missed\ntarget spfm transient met\ntarget lfm met\ntarget term met\nend\n"
unfolding plan1 opened
gen_1 = refl
