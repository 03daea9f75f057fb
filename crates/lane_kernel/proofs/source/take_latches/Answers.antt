use Rattle.std.proofs.Common.{◌≡◌, false, below_more, ap, sym, ◌∙◌, arith}
use Rattle.circuit.specs.Value.{bit_at, driven, driver_at}
use Rattle.lane_words.specs.Gates.{latch_at}
use Rattle.lane_kernel.proofs.source.take_latches.Goals as goal

pub loop-j-preserved : goal.loop-j-preserved
loop-j-preserved g c = λ k x lt forces state are.
    let latch = latch_at c.args.latches.now c.loop-j.j in
    let own_is : g.W.Word.lane_bit c.word_at.result k ≡ driven x.state x.inputs (λ j. false) (driver_at x.circuit latch.to.0) =
    c.word_at.ensures k lt ∙ ap (λ bits. bit_at bits c.loop-j.j) (sym state)
    ∙ sym (ap (driven x.state x.inputs (λ j. false)) (are c.loop-j.j (omega arith))) in
    let before = c.loop-j.invariant k x lt forces state are in (
      below_more _ _
          (λ i within. c.store_source.ensures.keeps k (latch_at c.args.latches.now i).to.0 x lt forces own_is (before.0 i within))
          (c.store_source.ensures.right k x lt forces own_is),
      λ m right. c.store_source.ensures.keeps k m x lt forces own_is (before.1 m right),
    )

pub returns-clause-right : goal.returns-clause-right
returns-clause-right g c = λ k x lt forces state are j within. (c.loop-j.invariant k x lt forces state are).0 j (omega arith)

pub returns-clause-keeps : goal.returns-clause-keeps
returns-clause-keeps g c = λ k x lt forces state are. (c.loop-j.invariant k x lt forces state are).1
