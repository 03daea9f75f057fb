use Rattle.std.proofs.Common.{◌≡◌, ◌+◌, ◌∙◌, ℕ, Bool, true, false, length, ap, sym, refl, arith}
use Rattle.std.specs.Prelude.{count_by}
use Rattle.circuit.specs.declared.parts.Fault.TheVariants.{Flip}
use Rattle.circuit.specs.Circuit.{Circuit}
use Rattle.fm_base.specs.Lists.{below}
use Rattle.campaign_plan.specs.Analysis.{Analysis}
use Rattle.coverage.specs.Upsets.{counts}
use Rattle.metric_coverage.proofs.Upsetting.{count_more, count_none, one_where}
use Rattle.metric_coverage.proofs.upsets.counted_latches.Goals as goal
use Rattle.metric_coverage.proofs.upsets.counted_latches.Goals.{then-is_latch_counted, else-is_latch_counted}

abbrev counted : Analysis → ℕ → Bool
counted p latch = counts p (Flip latch 0)

pub loop-latch-init : goal.loop-latch-init
loop-latch-init c = record { count = sym (count_none (counted c.args.plan.now)); few = omega arith }

pub overflow_add-count : goal.overflow_add-count
overflow_add-count c = omega (arith, c.loop-latch.invariant.few)

pub loop-latch-preserved : goal.loop-latch-preserved
loop-latch-preserved c =
    let p : Analysis = c.args.plan.now in
    let i : ℕ = c.loop-latch.latch in
    let more : count_by (counted p) (below (i + 1)) ≡ count_by (counted p) (below i) + one_where (counted p i) = count_more (counted p) i in
    elim c.if-is_latch_counted.branch [
      | then-is_latch_counted w ↦
          let yes : counted p i ≡ true = sym c.is_latch_counted.ensures ∙ w.if-is_latch_counted.true in
          let here : one_where (counted p i) ≡ 1 = rw yes refl in
          record { count = omega (arith, w.count-is, c.loop-latch.invariant.count, more, here); few = omega (arith, w.count-is, c.loop-latch.invariant.few) }
      | else-is_latch_counted w ↦
          let no : counted p i ≡ false = sym c.is_latch_counted.ensures ∙ w.if-is_latch_counted.false in
          let here : one_where (counted p i) ≡ 0 = rw no refl in
          record { count = omega (arith, w.count-is, c.loop-latch.invariant.count, more, here); few = omega (arith, w.count-is, c.loop-latch.invariant.few) }
    ]

pub returns : goal.returns
returns c =
    let p : Analysis = c.args.plan.now in
    let size : length c.latches-latch-end.result.now ≡ length p.circuit.latches =
    ap length (c.latches-latch-end.ensures.value ∙ ap (λ (own : Circuit). own.latches) c.net.ensures.value) in
    let end : c.loop-latch.latch ≡ length p.circuit.latches = omega (arith, size, c.loop-latch-test.false, c.loop-latch.auto.latch-end) in
    record {
      count = c.loop-latch.invariant.count ∙ ap (λ n. count_by (counted p) (below n)) end;
      few = omega (arith, c.loop-latch.invariant.few, end, c.net.ensures.plan.netlist.few_latches);
    }
