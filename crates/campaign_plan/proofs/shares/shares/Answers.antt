use Rattle.std.proofs.Common.{◌≡◌, ℕ, ◌<◌, ◌+◌, List, length, ap, ap₂, sym, subst, ◌∙◌, arith}
use Rattle.std.proofs.lemmas.List.{length_push}
use Rattle.campaign_plan.specs.declared.shares.Share.{Share}
use Rattle.campaign_plan.specs.Making.{analysis}
use Rattle.campaign_plan.specs.Shares.{share_at, full_share, share_of_rate}
use Rattle.campaign_plan.specs.Weights.{rate_of_kind}
use Rattle.campaign_plan.specs.Analysis.{part_count}
use Rattle.campaign_plan.proofs.Sharing.{shares_push, all_shares, part_there}
use Rattle.campaign_plan.proofs.shares.shares.Goals as goal

pub loop-k-preserved : goal.loop-k-preserved
loop-k-preserved c =
    let p = analysis c.args.p.now in
    let k = c.loop-k.k in
    let parts = c.parts-part-items.ensures.value in
    let lt : k < part_count p = omega (arith, ap length parts, c.loop-k-test.true) in
    let own = part_there p k c.parts-part-items.result.now c.part-item.result parts c.part-item.is lt in
    let items = c.in_ok-push.ensures.items in
    let share : c.of_rate.result ≡ full_share p c.args.permanent k =
    c.of_rate.ensures ∙ ap₂ share_of_rate (c.rate_of.ensures ∙ ap (rate_of_kind c.args.permanent) own) (c.requires.each k lt) in
    record {
      size = ap length items ∙ length_push c.loop-k.shares.items c.of_rate.result ∙ ap (λ n. n + 1) c.loop-k.invariant.size;
      each = subst (λ (ss : List Share). (j : ℕ) → j < k + 1 → share_at ss j ≡ full_share p c.args.permanent j) (sym items)
          (shares_push p c.args.permanent k c.loop-k.shares.items c.of_rate.result c.loop-k.invariant.size c.loop-k.invariant.each share);
    }

pub returns : goal.returns
returns c =
    let p = analysis c.args.p.now in
    let end : c.loop-k.k ≡ part_count p = omega (arith, ap length c.parts-part-items.ensures.value, c.loop-k-test.false, c.loop-k.auto.k-end) in
    all_shares p c.args.permanent c.loop-k.shares.items (c.loop-k.invariant.size ∙ end)
    (λ k lt. c.loop-k.invariant.each k (omega (arith, end, lt)))
