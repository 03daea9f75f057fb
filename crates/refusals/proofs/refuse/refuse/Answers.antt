use Rattle.std.proofs.Common.{ap, ap₂, sym, map, List, [], ◌∷◌}
use Rattle.std.specs.Prelude.{codes, decimal, slice_index_or}
use Rattle.circuit.specs.declared.parts.NetId.{NetId}
use Rattle.commands.specs.Commands.{name_by}
use Rattle.refusals.specs.RefusalLines.{refusal_line}
use Rattle.fm_base.specs.Names.{Bytes}
use Rattle.refusals.proofs.Statuses.{said_as, words_said, nothing_said}
use Rattle.refusals.proofs.refuse.refuse.Goals as goal

pub returns-in-Done : goal.returns-in-Done
unfolding refusal_line
returns-in-Done g c = λ k names. said_as _ _ (name_by c.args.names.now) k c.args.status.now _ c.in-Done.is (nothing_said _)

pub returns-in-Usage : goal.returns-in-Usage
unfolding refusal_line
returns-in-Usage g c = λ k names. said_as _ _ (name_by c.args.names.now) k c.args.status.now _ c.in-Usage.is (c.say-in-Usage.ensures)

pub returns-in-Memory : goal.returns-in-Memory
unfolding refusal_line
returns-in-Memory g c = λ k names. said_as _ _ (name_by c.args.names.now) k c.args.status.now _ c.in-Memory.is (c.say-in-Memory.ensures)

pub returns-in-ReadFault : goal.returns-in-ReadFault
unfolding refusal_line
returns-in-ReadFault g c = λ k names. said_as _ _ (name_by c.args.names.now) k c.args.status.now _ c.in-ReadFault.is (words_said _ _ _ _ (ap (λ (n : Bytes). codes "cannot read" ∷ n ∷ []) c.file_name.ensures) c.say-in-ReadFault.ensures)

pub returns-in-Netlist : goal.returns-in-Netlist
unfolding refusal_line
returns-in-Netlist g c = λ k names. said_as _ _ (name_by c.args.names.now) k c.args.status.now _ c.in-Netlist.is (c.refuse_netlist.ensures)

pub returns-in-Bench : goal.returns-in-Bench
unfolding refusal_line
returns-in-Bench g c = λ k names. said_as _ _ (name_by c.args.names.now) k c.args.status.now _ c.in-Bench.is (c.refuse_bench.ensures)

pub returns-in-Loop : goal.returns-in-Loop
unfolding refusal_line
returns-in-Loop g c = λ k names. said_as _ _ (name_by c.args.names.now) k c.args.status.now _ c.in-Loop.is (words_said _ _ _ _
    (ap₂ (λ (ns : List Bytes) (walk : List NetId). codes "loop" ∷ map (λ (net : NetId). slice_index_or ns net.0 []) walk) (sym names) c.as_slice.ensures) c.refuse_loop.ensures)

pub returns-in-Rates : goal.returns-in-Rates
unfolding refusal_line
returns-in-Rates g c = λ k names. said_as _ _ (name_by c.args.names.now) k c.args.status.now _ c.in-Rates.is (words_said _ _ _ _ (ap (λ (w : Bytes). codes "rates row" ∷ decimal c.in-Rates.fault.row ∷ w ∷ []) c.rates_kind.ensures) c.refuse_row.ensures)

pub returns-in-NewRates : goal.returns-in-NewRates
unfolding refusal_line
returns-in-NewRates g c = λ k names. said_as _ _ (name_by c.args.names.now) k c.args.status.now _ c.in-NewRates.is (words_said _ _ _ _ (ap (λ (w : Bytes). codes "new rates row" ∷ decimal c.in-NewRates.fault.row ∷ w ∷ []) c.rates_kind-kind.ensures) c.refuse_row-in-NewRates.ensures)

pub returns-in-Points : goal.returns-in-Points
unfolding refusal_line
returns-in-Points g c = λ k names. said_as _ _ (name_by c.args.names.now) k c.args.status.now _ c.in-Points.is (words_said _ _ _ _ (ap (λ (w : Bytes). codes "points row" ∷ decimal c.in-Points.fault.row ∷ w ∷ []) c.points_kind.ensures) c.refuse_row-in-Points.ensures)

pub returns-in-Workload : goal.returns-in-Workload
unfolding refusal_line
returns-in-Workload g c = λ k names. said_as _ _ (name_by c.args.names.now) k c.args.status.now _ c.in-Workload.is (words_said _ _ _ _ (ap (λ (w : Bytes). codes "workload row" ∷ decimal c.in-Workload.fault.row ∷ w ∷ []) c.workload_kind-kind.ensures) c.refuse_row-in-Workload.ensures)

pub returns-in-Disagrees : goal.returns-in-Disagrees
returns-in-Disagrees g c = λ k names. said_as _ _ (name_by c.args.names.now) k c.args.status.now _ c.in-Disagrees.is (c.refuse_disagreeing.ensures (name_by c.args.names.now) k)

pub returns-in-OutFault : goal.returns-in-OutFault
unfolding refusal_line
returns-in-OutFault g c = λ k names. said_as _ _ (name_by c.args.names.now) k c.args.status.now _ c.in-OutFault.is (nothing_said _)

pub returns-in-ResultFault : goal.returns-in-ResultFault
unfolding refusal_line
returns-in-ResultFault g c = λ k names. said_as _ _ (name_by c.args.names.now) k c.args.status.now _ c.in-ResultFault.is (words_said _ _ _ _ (ap (λ (n : Bytes). codes "cannot write" ∷ n ∷ []) c.file_name-file.ensures) c.say.ensures)

pub returns-in-TooLong : goal.returns-in-TooLong
unfolding refusal_line
returns-in-TooLong g c = λ k names. said_as _ _ (name_by c.args.names.now) k c.args.status.now _ c.in-TooLong.is (words_said _ _ _ _ (ap (λ (n : Bytes). n ∷ codes "is longer than 67108864 bytes" ∷ []) c.file_name-file-in-TooLong.ensures) c.say-in-TooLong.ensures)

pub returns-in-ManyOutputs : goal.returns-in-ManyOutputs
unfolding refusal_line
returns-in-ManyOutputs g c = λ k names. said_as _ _ (name_by c.args.names.now) k c.args.status.now _ c.in-ManyOutputs.is (c.say-in-ManyOutputs.ensures)

pub returns-in-Plan : goal.returns-in-Plan
unfolding refusal_line
returns-in-Plan g c = λ k names. said_as _ _ (name_by c.args.names.now) k c.args.status.now _ c.in-Plan.is c.refuse_plan.ensures

pub returns-in-NewPlan : goal.returns-in-NewPlan
unfolding refusal_line
returns-in-NewPlan g c = λ k names. said_as _ _ (name_by c.args.names.now) k c.args.status.now _ c.in-NewPlan.is c.refuse_plan-in-NewPlan.ensures

pub returns-in-Result : goal.returns-in-Result
returns-in-Result g c = λ k names. said_as _ _ (name_by c.args.names.now) k c.args.status.now _ c.in-Result.is (c.refuse_result.ensures (name_by c.args.names.now) k)

pub returns-in-Merge : goal.returns-in-Merge
returns-in-Merge g c = λ k names. said_as _ _ (name_by c.args.names.now) k c.args.status.now _ c.in-Merge.is (c.refuse_merge.ensures (name_by c.args.names.now) k)

pub returns-in-Pairs : goal.returns-in-Pairs
returns-in-Pairs g c = λ k names. said_as _ _ (name_by c.args.names.now) k c.args.status.now _ c.in-Pairs.is (c.refuse_pairs.ensures (name_by c.args.names.now) k)

pub returns-in-NoRun : goal.returns-in-NoRun
unfolding refusal_line
returns-in-NoRun g c = λ k names. said_as _ _ (name_by c.args.names.now) k c.args.status.now _ c.in-NoRun.is (c.say-in-NoRun.ensures)

pub returns-in-NoFault : goal.returns-in-NoFault
unfolding refusal_line
returns-in-NoFault g c = λ k names. said_as _ _ (name_by c.args.names.now) k c.args.status.now _ c.in-NoFault.is (c.say-in-NoFault.ensures)

pub returns-in-NoNet : goal.returns-in-NoNet
unfolding refusal_line
returns-in-NoNet g c = λ k names. said_as _ _ (name_by c.args.names.now) k c.args.status.now _ c.in-NoNet.is (c.say-in-NoNet.ensures)

pub returns-in-Held : goal.returns-in-Held
unfolding refusal_line
returns-in-Held g c = λ k names. said_as _ _ (name_by c.args.names.now) k c.args.status.now _ c.in-Held.is (words_said _ _ _ _ (ap (λ (w : Bytes). codes "held row" ∷ decimal c.in-Held.fault.row ∷ w ∷ []) c.held_kind.ensures) c.refuse_row-in-Held.ensures)

pub returns-in-NoAlarm : goal.returns-in-NoAlarm
unfolding refusal_line
returns-in-NoAlarm g c = λ k names. said_as _ _ (name_by c.args.names.now) k c.args.status.now _ c.in-NoAlarm.is (c.say-in-NoAlarm.ensures)

pub returns-in-LongWindow : goal.returns-in-LongWindow
unfolding refusal_line
returns-in-LongWindow g c = λ k names. said_as _ _ (name_by c.args.names.now) k c.args.status.now _ c.in-LongWindow.is c.refuse_window.ensures

pub returns-in-Contradiction : goal.returns-in-Contradiction
returns-in-Contradiction g c = λ k names. said_as _ _ (name_by c.args.names.now) k c.args.status.now _ c.in-Contradiction.is (c.refuse_contradiction.ensures (name_by c.args.names.now) k)
