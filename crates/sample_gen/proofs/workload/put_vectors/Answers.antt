use Rattle.sample_gen.specs.Steps.{vector_line}
use Rattle.sample_gen.proofs.Texts.{grown_none, grown_more, grown_all}
use Rattle.sample_gen.proofs.workload.put_vectors.Goals as goal

pub loop-t-init : goal.loop-t-init
loop-t-init c = grown_none vector_line c.args.text.now.items

pub loop-t-preserved : goal.loop-t-preserved
loop-t-preserved c = grown_more vector_line c.loop-t.t c.args.text.now.items c.loop-t.text.items _ c.loop-t.invariant c.in_ok-put_vector.ensures

pub returns : goal.returns
returns c = grown_all vector_line c.loop-t.t c.args.cycles c.args.text.now.items _ c.loop-t.invariant c.loop-t.auto.t-end c.loop-t-test.false
