-- Texts of the commands, lines of refusals, and the order of the checks.
use Rattle.std.proofs.Common.{◌≡◌, ℕ, List, [], ◌∷◌, refl, codes}
use Rattle.std.specs.Prelude.{false, Some, None, Ok, Err}
use Rattle.test_definitions.specs.Opened.{opened}
use Rattle.workload.specs.declared.file.WorkloadKind.TheVariants as work
use Rattle.rate_table.specs.declared.RatesKind.TheVariants as rate
use Rattle.campaign_plan.specs.Analysis.{Analysis, batch_count}
use Rattle.result_file.specs.declared.RowFault.TheVariants as why
use Rattle.blif_text.specs.declared.NetlistKind.TheVariants as netlist
use Rattle.commands.specs.declared.command.Which.{Which}
use Rattle.commands.specs.declared.command.Which.TheVariants as which
use Rattle.campaign_plan.specs.declared.PlanRefusal.TheVariants as planned
use Rattle.result_file.specs.declared.ResultRefusal.TheVariants as result
use Rattle.refusals.specs.declared.status.Status.TheVariants as status
use Rattle.command_reads.specs.declared.files.FileRead.TheVariants.{Whole, Failed}
use Rattle.command_reads.specs.Files.{Reads}
use Rattle.commands.specs.declared.command.Task.TheVariants as task
use Rattle.commands.specs.Commands.{Command, by_file, settings_of}
use Rattle.class_table.specs.ClassTable.{classes_text}
use Rattle.refusals.specs.Texts.{check_text, audit_line}
use Rattle.refusals.specs.RefusalLines.{refusal_line}
use Rattle.room.specs.declared.edge.NoRoom.{NoRoom}
use Rattle.command_reads.specs.FirstRefusal.{Planned}
use Rattle.command_reads.specs.Answers.{classes_plan, plan_behind}
use Rattle.test_definitions.specs.Circuits.{dup, net}
use Rattle.test_definitions.specs.Files.{plan_of, dup_netlist, dup_workload, dup_rates, dup_points, judged}

pub plan : Analysis
unfolding opened
plan = plan_of dup dup_workload dup_rates dup_points 0 []

pub check_dup : check_text plan ≡ codes "netlist nets 5 inputs 2 tables 3 latches 0\nworkload workloads 1 cycles 4\nrates parts 3 units 10000000\npoints observe 1 alarm 1\nfaults 10 batches 1\n"
unfolding plan opened
check_dup = refl

pub classes_dup : classes_text (classes_plan dup (plan.runs)) ≡ codes "a/0 single-point\na/1 single-point\nb/0 single-point\nb/1 single-point\ny/0 single-point\ny/1 single-point\nal/0 safe\nal/1 single-point\nz/0 single-point\nz/1 single-point\nend 10\n"
unfolding plan opened
classes_dup = refl

pub audit : audit_line 1 1 (batch_count plan) ≡ codes "audit 1 of 1 rows agree\n"
unfolding plan opened
audit = refl

pub audit_of_some : audit_line 16 2 20 ≡ codes "audit 2 of 20 rows agree every 16\n"
unfolding opened
audit_of_some = refl

abbrev name : Which → List ℕ
name which.Netlist = codes "net.blif"
name which.Workload = codes "w.csv"
name which.Rates = codes "r.csv"
name which.Points = codes "p.csv"
name which.Result = codes "res"
name which.First = codes "one"
name which.Second = codes "two"
name which.NewRates = codes "n.csv"
name which.Held = codes "h.csv"

pub usage : refusal_line name dup status.Usage ≡ codes "refused: usage\n"
unfolding opened
usage = refl

pub netlist_line : refusal_line name dup (status.Netlist (record { line = 3; kind = netlist.Undriven (codes "y") })) ≡ codes "refused: netlist line 3 Undriven y\n"
unfolding opened
netlist_line = refl

pub mixed : refusal_line name dup (status.Netlist (record { line = 6; kind = netlist.MixedPlane })) ≡ codes "refused: netlist line 6 MixedPlane\n"
unfolding opened
mixed = refl

pub loop : refusal_line name dup (status.Loop (net 2 ∷ net 4 ∷ [])) ≡ codes "refused: loop y z\n"
unfolding opened
loop = refl

pub rates_line : refusal_line name dup (status.Rates (record { row = 3; kind = rate.TwoMeanings })) ≡ codes "refused: rates row 3 TwoMeanings\n"
unfolding opened
rates_line = refl

pub missing_line : refusal_line name dup (status.Plan (planned.MissingRate (net 4) (codes "z"))) ≡ codes "refused: no rate for net z\n"
unfolding opened
missing_line = refl

pub idle_line : refusal_line name dup (status.Plan (planned.IdleRate (codes "out") false)) ≡ codes "refused: part out has a transient rate and no such fault\n"
unfolding opened
idle_line = refl

pub large_line : refusal_line name dup (status.TooLong which.Netlist) ≡ codes "refused: net.blif is longer than 67108864 bytes\n"
unfolding opened
large_line = refl

pub foreign_line : refusal_line name dup (status.Result (result.Foreign (codes "fmeda\tx\nrest") (codes "fmeda-result 1 abababababababababababababababababababababababababababababababab 00000002\n"))) ≡ codes "refused: foreign result file, found fmeda?x, own fmeda-result 1 abababababababababababababababababababababababababababababababab 00000002\n"
unfolding opened
foreign_line = refl

pub sums_line : refusal_line name dup (status.Result (result.BadRow 1 (why.Sums (record { permanent_all = 1; permanent_danger = 2; latent = 3; transient_all = 4; transient_danger = 5 }) (record { permanent_all = 255; permanent_danger = 0; latent = 0; transient_all = 0; transient_danger = 0 })))) ≡ codes "refused: result row 1 Sums kept 0000000000000001 0000000000000002 0000000000000003 0000000000000004 0000000000000005 computed 00000000000000ff 0000000000000000 0000000000000000 0000000000000000 0000000000000000\n"
unfolding opened
sums_line = refl

pub disagrees_line : refusal_line name dup (status.Disagrees (record { batch = 0; kept = record { danger = 0xfffffffffffffffe; noticed = 0x0 }; computed = record { danger = 0xffffffffffffffff; noticed = 0x0 } })) ≡ codes "refused: batch 0 kept fffffffffffffffe 0000000000000000 computed ffffffffffffffff 0000000000000000\n"
unfolding opened
disagrees_line = refl

pub read_line : refusal_line name dup (status.ReadFault which.Points) ≡ codes "refused: cannot read p.csv\n"
unfolding opened
read_line = refl

pub memory_line : (no_room : NoRoom) → refusal_line name dup (status.Memory no_room) ≡ codes "refused: out of memory\n"
unfolding opened
memory_line no_room = refl

abbrev files : List ℕ → List ℕ → List ℕ → Reads
files text workload rates file = Whole (by_file text workload rates dup_points [] [] [] [] [] file)

-- the workload could not be read, and the rates are bad
abbrev unread : Reads
unread = by_file (Whole []) Failed (Whole (codes "part")) (Whole dup_points) Failed Failed Failed Failed Failed

abbrev check : Command
check = record { files = by_file (codes "n") (codes "w") (codes "r") (codes "p") [] [] [] [] []; settings = settings_of [] []; task = task.Check }

-- the workload is looked at before the rates
pub workload_first : judged None check (files dup_netlist (codes "workload,kind,a,b\n") (codes "part")) ≡ Err (status.Workload (record { row = 1; kind = work.Empty }))
unfolding opened
workload_first = refl

-- and the rates after it
pub then_rates : judged None check (files dup_netlist dup_workload (codes "part")) ≡ Err (status.Rates (record { row = 1; kind = rate.BadCsv }))
unfolding opened
then_rates = refl

-- and the plan last
pub last_idle : plan_behind dup (settings_of [] []) (files [] dup_workload (codes "pattern,part,role,covered,permanent,transient\n*,all,mission,yes,1,1\n")) ≡ Err (status.Plan (planned.IdleRate (codes "all") false))
unfolding opened
last_idle = refl

-- and nothing refuses
pub nothing : plan_behind dup (settings_of [] []) (files [] dup_workload dup_rates) ≡ Ok plan
unfolding plan opened
nothing = refl

-- a file that could not be read is told in its turn
pub read_fault : plan_behind dup (settings_of [] []) unread ≡ Err (status.ReadFault which.Workload)
unfolding opened
read_fault = refl

-- of four files no check refuses
pub check_passes : judged None check (files dup_netlist dup_workload dup_rates) ≡ Ok (Planned plan)
unfolding plan opened
check_passes = refl

-- a loop comes before all files but the netlist
pub loop_first : judged (Some (net 2 ∷ [])) check (files dup_netlist [] []) ≡ Err (status.Loop (net 2 ∷ []))
unfolding opened
loop_first = refl

-- and the netlist's fault before that
pub netlist_first : judged None check (files (codes ".model m\n.inputs a\n.outputs y\n.end\n") [] []) ≡ Err (status.Netlist (record { line = 3; kind = netlist.Undriven (codes "y") }))
unfolding opened
netlist_first = refl
