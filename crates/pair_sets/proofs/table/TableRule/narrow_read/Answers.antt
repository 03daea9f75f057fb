use Rattle.pair_sets.proofs.FourPairs.{read_step}
use Rattle.pair_sets.proofs.table.TableRule.narrow_read.Goals as goal

pub returns : goal.returns
returns c = record {
  half = λ first half.
      read_step c.args.self.truth c.args.self.site c.args.own c.args.i first c.args.reads.now c.agrees_at-zeros.new.reads c.agrees_at-golden.new.reads
      c.agrees_at-faulty.new.reads c.agrees_at-ones.new.reads c.of.result c.agrees_at-zeros.result c.agrees_at-golden.result c.agrees_at-faulty.result c.agrees_at-ones.result
      c.agrees_at-zeros.ensures.same c.agrees_at-golden.ensures.same c.agrees_at-faulty.ensures.same c.agrees_at-ones.ensures.same c.requires.inside c.of.ensures
      c.agrees_at-zeros.ensures.value c.agrees_at-golden.ensures.value c.agrees_at-faulty.ensures.value c.agrees_at-ones.ensures.value half;
}
