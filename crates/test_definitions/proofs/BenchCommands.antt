-- Netlists in `.bench` files, and `report`, in the commands: texts, lines of refusals, and the order of the checks.
use Rattle.std.proofs.Common.{◌≡◌, ℕ, List, [], ◌∷◌, refl, codes}
use Rattle.std.specs.Prelude.{true, false, Option, Some, None, Result, Ok, Err}
use Rattle.test_definitions.specs.Opened.{opened}
use Rattle.circuit.specs.declared.parts.NetId.{NetId}
use Rattle.campaign_plan.specs.Analysis.{Analysis}
use Rattle.bench_reader.specs.declared.BenchKind.TheVariants as bench
use Rattle.blif_text.specs.declared.NetlistKind.TheVariants as netlist
use Rattle.workload.specs.declared.file.WorkloadKind.TheVariants as work
use Rattle.refusals.specs.declared.status.Status.{Status}
use Rattle.refusals.specs.declared.status.Status.TheVariants as status
use Rattle.commands.specs.declared.command.Which.{Which}
use Rattle.refusals.specs.NetlistFile.{is_bench}
use Rattle.refusals.specs.RefusalLines.{code_of, refusal_line}
use Rattle.commands.specs.declared.command.Task.{Task}
use Rattle.commands.specs.declared.command.Task.TheVariants as task
use Rattle.commands.specs.Commands.{Command, by_file, settings_of}
use Rattle.command_reads.specs.declared.files.FileRead.TheVariants.{Whole}
use Rattle.command_reads.specs.Files.{Reads}
use Rattle.command_reads.specs.FirstRefusal.{Judged, classes_plan_of, plan_of}
use Rattle.class_table.specs.ClassTable.{classes_text}
use Rattle.fmeda_report.specs.Report.{true_report}
use Rattle.test_definitions.specs.Circuits.{dup, net}
use Rattle.test_definitions.specs.Files.{dup_netlist, dup_points, dup_rates, dup_workload, judged}

abbrev dup_bench : List ℕ
dup_bench = codes "INPUT(a)\nINPUT(b)\nOUTPUT(y)\nOUTPUT(al)\ny = AND(a, b)\nz = and(a,b)\nal = XOR(y, z)\n"

abbrev all_read : (Which → List ℕ) → Reads
all_read bytes file = Whole (bytes file)

abbrev files : List ℕ → Reads
files text = all_read (by_file text dup_workload dup_rates dup_points [] [] [] [] [])

-- a command with this task, where the netlist has this name
abbrev command : Task → List ℕ → Command
command own name = record { files = by_file name (codes "w") (codes "r") (codes "p") [] [] [] [] []; settings = settings_of [] []; task = own }

abbrev refusal_of : Result Judged Status → Option Status
refusal_of made = elim made [ Ok _ ↦ None | Err why ↦ Some why ]

-- the first refusal, where so much is answered of loops
abbrev refused : Option (List NetId) → Task → List ℕ → Reads → Option Status
refused walk own name reads = refusal_of (judged walk (command own name) reads)

-- ---- names

-- the end of the name decides, as it is spelled
names : (is_bench (codes "dup.bench") ≡ true) × (is_bench (codes ".bench") ≡ true) × (is_bench (codes "dup.BENCH") ≡ false)
    × (is_bench (codes "dup.bench.blif") ≡ false) × (is_bench (codes "dupbench") ≡ false) × (is_bench (codes "bench") ≡ false) × (is_bench [] ≡ false)
names = (refl, refl, refl, refl, refl, refl, refl)

-- ---- lines

abbrev nameless : Which → List ℕ
nameless which = []

gate_line : refusal_line nameless dup (status.Bench (record { line = 1; kind = bench.BadGate })) ≡ codes "refused: bench line 1 BadGate\n"
unfolding opened
gate_line = refl

undriven_line : refusal_line nameless dup (status.Bench (record { line = 1; kind = bench.Undriven (codes "y") })) ≡ codes "refused: bench line 1 Undriven y\n"
unfolding opened
undriven_line = refl

code : code_of (status.Bench (record { line = 1; kind = bench.TooLarge })) ≡ 14
code = refl

-- ---- texts

classes_of : Result Analysis Status → Option (List ℕ)
unfolding opened
classes_of (Ok p) = Some (classes_text p)
classes_of (Err refusal) = None

report_of : Result Analysis Status → Option (List ℕ)
unfolding opened
report_of (Ok p) = Some (true_report p)
report_of (Err refusal) = None

-- the duplicated AND in a `.bench` file has the classes that it has in BLIF
classes_bench : classes_of (classes_plan_of (codes "dup.bench") None (files dup_bench)) ≡ Some (codes "a/0 single-point\na/1 single-point\nb/0 single-point\nb/1 single-point\ny/0 single-point\ny/1 single-point\nal/0 safe\nal/1 single-point\nz/0 single-point\nz/1 single-point\nend 10\n")
unfolding classes_of opened
classes_bench = refl

abbrev dup_report : List ℕ
dup_report = codes "fmeda-report 1\nnets 5 latches 0 faults 10 batches 1 workloads 1 cycles 4 ftti 0 asil D\npart in mission covered permanent 4000000 transient 0 faults 4 safe 0 detected 0 residual 4 single-point 0 latent 0 outside 0 coverage 0/4000000\npart out mission covered permanent 2000000 transient 0 faults 2 safe 0 detected 2 residual 0 single-point 0 latent 0 outside 0 coverage 2000000/2000000\npart dup mechanism uncovered permanent 4000000 transient 0 faults 4 safe 0 detected 3 residual 0 single-point 0 latent 1 outside 0 coverage 3000000/3000000\npermanent all 10000000 danger 4000000 latent 1000000\ntransient all 0 danger 0\nspfm permanent 6000000/10000000\nspfm transient -\nlfm 5000000/6000000\nterm 4000000\ntarget spfm permanent missed\ntarget spfm transient -\ntarget lfm missed\ntarget term met\nresidual a/0 1000000\nresidual a/1 1000000\nresidual b/0 1000000\nresidual b/1 1000000\nlatent al/0 1000000\nend\n"

-- and the same report, which `report` prints of either file
report_bench : report_of (plan_of (codes "dup.bench") None (settings_of [] []) (files dup_bench)) ≡ Some dup_report
unfolding report_of opened
report_bench = refl

report_blif : report_of (plan_of (codes "dup.blif") None (settings_of [] []) (files dup_netlist)) ≡ Some dup_report
unfolding report_of opened
report_blif = refl

-- ---- the order of the checks

abbrev checked : List ℕ → List ℕ → Option Status
checked name text = refused None task.Check name (files text)

-- a file is read in the form that its name says
form_bench : (checked (codes "n.bench") dup_bench ≡ None) × (checked (codes "n.bench") dup_netlist ≡ Some (status.Bench (record { line = 1; kind = bench.BadLine })))
unfolding opened
form_bench = (refl, refl)

form_blif : checked (codes "n.blif") dup_bench ≡ Some (status.Netlist (record { line = 1; kind = netlist.NoModel }))
unfolding opened
form_blif = refl

-- the fault of a `.bench` file comes before a loop and before the workload
bench_first : refused (Some (net 2 ∷ [])) task.Check (codes "n.bench") (all_read (by_file (codes "OUTPUT(y)\n") [] [] [] [] [] [] [] []))
    ≡ Some (status.Bench (record { line = 1; kind = bench.Undriven (codes "y") }))
unfolding opened
bench_first = refl

-- and the loop of one before the workload
then_loop : refused (Some (net 0 ∷ [])) task.Check (codes "n.bench") (all_read (by_file (codes "y = NOT(y)\n") [] [] [] [] [] [] [] []))
    ≡ Some (status.Loop (net 0 ∷ []))
unfolding opened
then_loop = refl

-- `classes` looks at its netlist in the same way
classes_first : refused None task.Classes (codes "n.bench") (files (codes "y = MAJ(a, b, c)\n")) ≡ Some (status.Bench (record { line = 1; kind = bench.BadGate }))
unfolding opened
classes_first = refl

-- `report` has the checks of `check`
report_checks : (refused None task.Report (codes "n.blif") (files dup_netlist) ≡ None)
    × (refused None task.Report (codes "n.bench") (files dup_bench) ≡ None)
    × (refused None task.Report (codes "n.bench") (files (codes "y = AND()\n")) ≡ Some (status.Bench (record { line = 1; kind = bench.BadCount })))
    × (refused None task.Report (codes "n.blif") (all_read (by_file dup_netlist (codes "workload,kind,a,b\n") [] [] [] [] [] [] [])) ≡ Some (status.Workload (record { row = 1; kind = work.Empty })))
unfolding opened
report_checks = (refl, refl, refl, refl)
