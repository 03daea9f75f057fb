use Rattle.std.proofs.Common.{◌≡◌, length, sym, ◌∙◌, arith}
use Rattle.std.proofs.lemmas.List.{take_all}
use Rattle.lane_words.specs.Gates.{plane}
use Rattle.lane_words.proofs.Planes.{length_plane}
use Rattle.lane_kernel.proofs.Sources.{stored_more}
use Rattle.lane_kernel.proofs.source.take_first.Goals as goal

pub loop-j-preserved : goal.loop-j-preserved
loop-j-preserved g c = λ k lt.
    stored_more g.W.Word.lane_bit k c.loop-j.raw c.args.starts.now c.loop-j.j c.all.result (omega arith) (omega arith) (c.all.ensures k lt) (c.loop-j.invariant k lt)

pub returns : goal.returns
returns g c = λ k lt.
    let size : length (plane g.W.Word.lane_bit k c.loop-j.raw) ≡ length c.loop-j.raw = length_plane g.W.Word.lane_bit k c.loop-j.raw in
    sym (take_all c.loop-j.j (plane g.W.Word.lane_bit k c.loop-j.raw) (omega (arith, size)))
    ∙ c.loop-j.invariant k lt ∙ take_all c.loop-j.j c.args.starts.now (omega arith)
