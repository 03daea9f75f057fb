use Rattle.std.proofs.Common.{length, ap, arith}
use Rattle.fanout.specs.Readers.{Ordered}
use Rattle.differential_kernel.proofs.Sweeping.{swept_all, swept_first}
use Rattle.differential_kernel.proofs.sweep.sweep.Goals as goal

pub stretches-preserved : goal.stretches-preserved
stretches-preserved g c = record {
  most = c.sweep_next-at.ensures.most;
  values = λ k x golden lt pair are first. c.sweep_next-at.ensures.values k x golden lt pair are (c.stretches.invariant.values k x golden lt pair are first);
  read = c.sweep_next-at.ensures.read;
  cost = omega (arith, c.sweep_next-at.ensures.cost, c.sweep_next-at.ensures.on, c.stretches.invariant.cost);
}

pub returns-clause-values : goal.returns-clause-values
returns-clause-values g c = λ k x golden lt pair are first.
    let lanes = g.W.Word.lanes in
    let bit = g.W.Word.lane_bit in
    let cycle = c.args.cycle.now in
    let forces = c.args.forces.now in
    let cone = c.args.cone.now in
    swept_all lanes bit cycle forces cone c.requires.fit k c.stretches.at x golden lt pair (omega arith) c.stretches.values
    (c.stretches.invariant.values k x golden lt pair are
    (swept_first lanes bit cycle forces cone c.requires.fit k x golden lt pair are c.args.values.now first))

pub returns-clause-cost : goal.returns-clause-cost
returns-clause-cost g c =
    omega (arith, c.stretches.invariant.cost, c.stretches.invariant.most, c.requires.fit.cone.tables.few, ap (λ (o : Ordered). length o.order) c.requires.fit.golden.fanout)
