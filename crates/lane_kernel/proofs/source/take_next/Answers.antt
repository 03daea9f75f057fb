use Rattle.std.proofs.Common.{false, arith}
use Rattle.circuit.specs.declared.parts.Latch.{Latch}
use Rattle.circuit.specs.Value.{bit_at}
use Rattle.lane_words.specs.Gates.{plane}
use Rattle.lane_kernel.proofs.Sources.{copied_more}
use Rattle.lane_kernel.proofs.source.take_next.Goals as goal

pub loop-j-preserved : goal.loop-j-preserved
loop-j-preserved g c = λ k lt.
    let d : Latch = record { from = record { 0 = 0 }; to = record { 0 = 0 }; start = false } in
    copied_more g.W.Word.lane_bit k c.loop-j.raw (λ (latch : Latch). bit_at (plane g.W.Word.lane_bit k c.args.words.now) latch.from.0) c.args.latches.now d c.loop-j.j
    c.word_at.result (omega arith) (omega arith) (c.word_at.ensures k lt) (c.loop-j.invariant k lt)
