use Rattle.std.proofs.Common.{◌≡◌, ◌<◌, ◌+◌, ap, sym, subst, ◌∙◌, arith, length, map, true, false, get_or}
use Rattle.std.proofs.lemmas.List.{length-map}
use Rattle.fm_base.specs.Lists.{below}
use Rattle.fault_list.specs.Faults.{fault_at}
use Rattle.circuit.specs.Effects.{is_permanent}
use Rattle.campaign_plan.specs.Analysis.{all_faults, part_of, part_count, fault_numbered}
use Rattle.campaign_plan.specs.Weights.{weight}
use Rattle.campaign_plan.specs.Making.{analysis}
use Rattle.campaign_plan.specs.Shares.{AreShares}
use Rattle.campaign_plan.proofs.Sharing.{number_at, weights_push, share_weight, share_taken, share_kept, not_true, not_false}
use Rattle.campaign_plan.proofs.shares.weights.Goals as goal
use Rattle.campaign_plan.proofs.shares.weights.Goals.{then-permanent, else-permanent}

pub loop-i-init : goal.loop-i-init
unfolding below
loop-i-init c = record { weights = c.new-weights.ensures.items; permanent = c.requires.permanent; transient = c.requires.transient }

pub loop-i-preserved : goal.loop-i-preserved
loop-i-preserved c =
    let p = analysis c.args.p.now in
    let i = c.loop-i.i in
    let num = get_or c.args.numbers.now i 0 in
    let size = c.len-i-end.ensures.count ∙ ap length c.requires.numbers.listed in
    let lt : i < length (all_faults p) = omega (arith, size, c.loop-i-test.true) in
    let rows : length c.args.numbers.now ≡ length (all_faults p) = ap length c.requires.numbers.numbered ∙ length-map (all_faults p) (part_of p) in
    let within : get_or c.args.numbers.now i 0 < part_count p = c.requires.numbers.within i 0 (omega (arith, rows, lt)) in
    let own = sym (number_at p c.args.numbers.now i 0 c.requires.numbers.numbered lt) in
    let kind : is_permanent (fault_numbered p i) ≡ c.permanent.result = sym (c.permanent.ensures ∙ ap is_permanent (c.fault.ensures ∙ ap (λ fs. fault_at fs i) c.requires.numbers.listed)) in
    elim c.if-permanent.branch [
      | then-permanent w ↦ record {
        weights = c.in_ok-push.ensures.items ∙ weights_push p i c.loop-i.weights.items c.if-permanent.weight c.loop-i.invariant.weights
            (w.weight-is ∙ w.take_share-weight.ensures.weight ∙ share_weight p true i c.loop-i.permanent num c.loop-i.invariant.permanent lt (kind ∙ w.if-permanent.true) own within);
        permanent = subst (AreShares p true (i + 1)) (sym (w.permanent-is ∙ w.take_share-weight.ensures.rest))
            (share_taken p true i c.loop-i.permanent num c.loop-i.invariant.permanent lt (kind ∙ w.if-permanent.true) own within);
        transient = subst (AreShares p false (i + 1)) (sym w.transient-is)
            (share_kept p false i c.loop-i.transient c.loop-i.invariant.transient lt (not_false (is_permanent (fault_numbered p i)) (kind ∙ w.if-permanent.true)));
      }
      | else-permanent w ↦ record {
        weights = c.in_ok-push.ensures.items ∙ weights_push p i c.loop-i.weights.items c.if-permanent.weight c.loop-i.invariant.weights
            (w.weight-is ∙ w.take_share-weight-else-permanent.ensures.weight ∙ share_weight p false i c.loop-i.transient num c.loop-i.invariant.transient lt (kind ∙ w.if-permanent.false) own within);
        permanent = subst (AreShares p true (i + 1)) (sym w.permanent-is)
            (share_kept p true i c.loop-i.permanent c.loop-i.invariant.permanent lt (not_true (is_permanent (fault_numbered p i)) (kind ∙ w.if-permanent.false)));
        transient = subst (AreShares p false (i + 1)) (sym (w.transient-is ∙ w.take_share-weight-else-permanent.ensures.rest))
            (share_taken p false i c.loop-i.transient num c.loop-i.invariant.transient lt (kind ∙ w.if-permanent.false) own within);
      }
    ]

pub returns : goal.returns
returns c =
    let p = analysis c.args.p.now in
    let end : c.loop-i.i ≡ length (all_faults p) = omega (arith, c.len-i-end.ensures.count, ap length c.requires.numbers.listed, c.loop-i-test.false, c.loop-i.auto.i-end) in
    c.loop-i.invariant.weights ∙ ap (λ n. map (weight p) (below n)) end
