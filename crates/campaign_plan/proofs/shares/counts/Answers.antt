use Rattle.std.proofs.Common.{◌≡◌, ◌≢◌, ◌<◌, ◌≤◌, ◌+◌, ℕ, ap, sym, subst, ◌∙◌, arith, length, take, set, get_or, Vec, Global}
use Rattle.std.proofs.lemmas.List.{get_or_default, length-map}
use Rattle.fault_list.specs.Faults.{fault_at}
use Rattle.circuit.specs.Effects.{is_permanent}
use Rattle.campaign_plan.specs.Analysis.{all_faults, part_of, part_count, fault_numbered}
use Rattle.campaign_plan.specs.Making.{analysis}
use Rattle.campaign_plan.specs.Shares.{ArePartCounts}
use Rattle.campaign_plan.proofs.Sharing.{counted_few, one_counted, none_counted, number_at, beq_true, beq_false}
use Rattle.campaign_plan.proofs.shares.counts.Goals as goal
use Rattle.campaign_plan.proofs.shares.counts.Goals.{then-permanent, else-permanent}

pub overflow_add-index_mut : goal.overflow_add-index_mut
overflow_add-index_mut c =
    let p = analysis c.args.p.now in
    let i = c.loop-i.i in
    let size = c.len-i-end.ensures.count ∙ ap length c.requires.listed in
    let lt : i < length (all_faults p) = omega (arith, size, c.loop-i-test.true) in
    let rows : length c.args.numbers.now ≡ length (all_faults p) = ap length c.requires.numbered ∙ length-map (all_faults p) (part_of p) in
    let within : get_or c.args.numbers.now i 0 < part_count p = c.requires.within i 0 (omega (arith, rows, lt)) in
    let few : get_or c.loop-i.counts.items (get_or c.args.numbers.now i 0) 0 ≤ i = counted_few p c.args.permanent i (get_or c.args.numbers.now i 0) c.loop-i.counts.items c.loop-i.invariant within in
    let same : c.index_mut.result.now ≡ get_or c.loop-i.counts.items (get_or c.args.numbers.now i 0) 0 = c.index_mut.ensures.value ∙ get_or_default c.loop-i.counts.items (get_or c.args.numbers.now i 0) c.index_mut.result.now 0 (omega (arith, within, c.loop-i.invariant.size)) in
    omega (arith, few, same, c.loop-i-test.true, c.len-i-end.ensures.count, c.len-i-end.ensures.few)

pub loop-i-preserved : goal.loop-i-preserved
loop-i-preserved c =
    let p = analysis c.args.p.now in
    let i = c.loop-i.i in
    let size = c.len-i-end.ensures.count ∙ ap length c.requires.listed in
    let lt : i < length (all_faults p) = omega (arith, size, c.loop-i-test.true) in
    let rows : length c.args.numbers.now ≡ length (all_faults p) = ap length c.requires.numbered ∙ length-map (all_faults p) (part_of p) in
    let num = get_or c.args.numbers.now i 0 in
    let within : get_or c.args.numbers.now i 0 < part_count p = c.requires.within i 0 (omega (arith, rows, lt)) in
    let kind : is_permanent (fault_numbered p i) ≡ c.permanent.result = sym (c.permanent.ensures ∙ ap is_permanent (c.fault.ensures ∙ ap (λ fs. fault_at fs i) c.requires.listed)) in
    elim c.if-permanent.branch [
      | then-permanent w ↦ (
          let same : w.index_mut.result.now ≡ get_or c.loop-i.counts.items (get_or c.args.numbers.now i 0) 0 = w.index_mut.ensures.value ∙ get_or_default c.loop-i.counts.items (get_or c.args.numbers.now i 0) w.index_mut.result.now 0 (omega (arith, within, c.loop-i.invariant.size)) in
          subst (λ (v : Vec ℕ Global). ArePartCounts p c.args.permanent (take (i + 1) (all_faults p)) v.items) (sym w.counts-is)
          (subst (λ n. ArePartCounts p c.args.permanent (take (i + 1) (all_faults p)) (set c.loop-i.counts.items num (n + 1))) (sym same)
          (one_counted p c.args.permanent i c.loop-i.counts.items num c.loop-i.invariant lt (kind ∙ beq_true c.permanent.result c.args.permanent w.if-permanent.true)
          (sym (number_at p c.args.numbers.now i 0 c.requires.numbered lt)) within)))
      | else-permanent w ↦
          subst (λ (v : Vec ℕ Global). ArePartCounts p c.args.permanent (take (i + 1) (all_faults p)) v.items) (sym w.counts-is)
          (none_counted p c.args.permanent i c.loop-i.counts.items c.loop-i.invariant lt
          (subst (λ b. b ≢ c.args.permanent) (sym kind) (beq_false c.permanent.result c.args.permanent w.if-permanent.false)))
    ]
