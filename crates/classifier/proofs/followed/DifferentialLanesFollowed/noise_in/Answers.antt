use Rattle.std.proofs.Common.{◌+◌, ◌*◌, ◌<◌, ◌∙◌, arith}
use Rattle.classifier.proofs.followed.DifferentialLanesFollowed.noise_in.Goals as goal

pub returns : goal.returns
returns g c = λ run t word lt after row less. record {
  raised = λ k lane.
      let low : word * 64 + k < g.W.Word.lanes = omega (arith, less, lane, g.met.W.Word.whole) in
      c.noise_of.ensures.raised word k less lane ∙ c.hear.ensures.raised run t (word * 64 + k) lt after row low;
  silenced = λ k lane.
      let low : word * 64 + k < g.W.Word.lanes = omega (arith, less, lane, g.met.W.Word.whole) in
      c.noise_of.ensures.silenced word k less lane ∙ c.hear.ensures.silenced run t (word * 64 + k) lt after row low;
}
