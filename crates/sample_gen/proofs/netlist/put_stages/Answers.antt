use Rattle.std.proofs.Common.{◌+◌}
use Rattle.sample_gen.specs.Steps.{both_stages}
use Rattle.sample_gen.proofs.Texts.{grown_none, grown_more, grown_all}
use Rattle.sample_gen.proofs.netlist.put_stages.Goals as goal

pub loop-k-init : goal.loop-k-init
loop-k-init c = grown_none (λ k. both_stages (k + 1)) c.args.text.now.items

pub loop-k-preserved : goal.loop-k-preserved
loop-k-preserved c = grown_more (λ k. both_stages (k + 1)) c.loop-k.k c.args.text.now.items c.loop-k.text.items _ c.loop-k.invariant c.in_ok-put_both.ensures

pub returns : goal.returns
returns c = grown_all (λ k. both_stages (k + 1)) c.loop-k.k c.args.stages c.args.text.now.items _ c.loop-k.invariant c.loop-k.auto.k-end c.loop-k-test.false
