use Rattle.std.proofs.Common.{◌≡◌, ◌≤◌, ◌∙◌, ℕ, Bool, length, ap, sym, arith}
use Rattle.std.specs.Prelude.{filter}
use Rattle.metric_sums.specs.Classes.{is_class}
use Rattle.fm_base.specs.Lists.{below}
use Rattle.campaign_plan.specs.Analysis.{fault_count}
use Rattle.campaign_plan.specs.Batches.{class_of_fault}
use Rattle.result_merge.specs.Tables.{planes_at}
use Rattle.pair_list.proofs.Choosing.{none_passing, one_passes, one_fails, few_passing}
use Rattle.pair_list.proofs.choice.faults_in_class.Goals.{then-is_in_class+in_ok-push, else-is_in_class}
use Rattle.pair_list.proofs.choice.faults_in_class.Goals as goal

pub loop-i-init : goal.loop-i-init
loop-i-init c = none_passing (λ i. is_class (class_of_fault c.args.plan.now (planes_at c.args.table.now) i) c.args.class) c.new-faults.result c.new-faults.ensures

pub loop-i-preserved : goal.loop-i-preserved
loop-i-preserved c =
    let test : ℕ → Bool = λ i. is_class (class_of_fault c.args.plan.now (planes_at c.args.table.now) i) c.args.class in
    elim c.if-is_in_class.branch [
      | then-is_in_class+in_ok-push w ↦
          one_passes test c.loop-i.i c.loop-i.faults c.if-is_in_class.faults c.loop-i.invariant (sym c.is_in_class.ensures ∙ w.if-is_in_class.true) (w.faults-is ∙ w.in_ok-push.ensures.ok)
      | else-is_in_class w ↦ one_fails test c.loop-i.i c.loop-i.faults c.if-is_in_class.faults c.loop-i.invariant (sym c.is_in_class.ensures ∙ w.if-is_in_class.false) w.faults-is
    ]

pub returns-clause-faults : goal.returns-clause-faults
returns-clause-faults c =
    let count : c.len-i-end.result ≡ fault_count c.args.plan.now = c.len-i-end.ensures.count ∙ ap length c.faults.ensures.value in
    let end : c.loop-i.i ≡ fault_count c.args.plan.now = omega (arith, count, c.loop-i-test.false, c.loop-i.auto.i-end) in
    c.loop-i.invariant ∙ ap (λ n. filter (λ i. is_class (class_of_fault c.args.plan.now (planes_at c.args.table.now) i) c.args.class) (below n)) end

pub returns-clause-few : goal.returns-clause-few
returns-clause-few c =
    let count : c.len-i-end.result ≡ fault_count c.args.plan.now = c.len-i-end.ensures.count ∙ ap length c.faults.ensures.value in
    let end : c.loop-i.i ≤ fault_count c.args.plan.now = omega (arith, count, c.loop-i.auto.i-end) in
    let test : ℕ → Bool = λ i. is_class (class_of_fault c.args.plan.now (planes_at c.args.table.now) i) c.args.class in
    let short = few_passing test c.loop-i.i in
    omega (arith, ap length c.loop-i.invariant, short, end, count, c.len-i-end.ensures.count, c.len-i-end.ensures.few)
