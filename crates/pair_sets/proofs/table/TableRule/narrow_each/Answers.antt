use Rattle.std.proofs.Common.{arith}
use Rattle.pair_sets.proofs.Choices.{half_start}
use Rattle.pair_sets.proofs.FourPairs.{own_step}
use Rattle.pair_sets.proofs.table.TableRule.narrow_each.Goals as goal

pub loop-i-init : goal.loop-i-init
loop-i-init c = half_start c.args.self.truth c.args.self.site c.args.reads.now c.args.own

pub loop-i-preserved : goal.loop-i-preserved
loop-i-preserved c = c.narrow_read.ensures.half c.args.reads.now c.loop-i.invariant

pub returns : goal.returns
returns c = record {
  left = own_step c.args.self.truth c.args.self.site c.args.reads.now c.args.own c.loop-i.reads c.loop-i.i c.of.result
      c.agrees_own.result c.agrees_own-2.result c.agrees_own-3.result c.agrees_own-4.result (omega arith) c.loop-i.invariant c.of.ensures
      c.agrees_own.ensures c.agrees_own-2.ensures c.agrees_own-3.ensures c.agrees_own-4.ensures;
}
