use Rattle.std.proofs.Common.{◌∙◌}
use Rattle.sample_gen.specs.Sample.{workload_text}
use Rattle.sample_gen.proofs.Texts.{grows}
use Rattle.sample_gen.proofs.workload.workload_text.Goals as goal

pub returns : goal.returns
unfolding workload_text
returns c = c.from_vec.ensures ∙ grows _ (grows _ c.new-text.ensures.items c.in_ok-put_line.ensures) c.in_ok-put_vectors.ensures
