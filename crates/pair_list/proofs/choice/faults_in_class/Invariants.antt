use Rattle.std.proofs.Common.{◌≡◌}
use Rattle.std.specs.Prelude.{filter}
use Rattle.metric_sums.specs.Classes.{is_class}
use Rattle.fm_base.specs.Lists.{below}
use Rattle.campaign_plan.specs.Batches.{class_of_fault}
use Rattle.result_merge.specs.Tables.{planes_at}
use Rattle.pair_list.proofs.choice.faults_in_class.Given as goal

abbrev pub invariant-loop-i : goal.invariant-loop-i
invariant-loop-i l = l.faults ≡ filter (λ i. is_class (class_of_fault l.plan (planes_at l.table) i) l.class) (below l.i)
