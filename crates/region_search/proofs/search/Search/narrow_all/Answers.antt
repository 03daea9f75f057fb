use Rattle.std.proofs.Common.{◌∙◌}
use Rattle.circuit.specs.Order.{net_at}
use Rattle.pair_sets.specs.Choice.{set_at}
use Rattle.pair_sets.specs.Pairs.{has}
use Rattle.region_search.proofs.CutSets.{cut_more}
use Rattle.region_search.proofs.Tables.{further_more}
use Rattle.region_search.specs.Going.{sets_of}
use Rattle.region_search.proofs.search.Search.narrow_all.Goals as goal

pub loop-i-preserved : goal.loop-i-preserved
loop-i-preserved c = record {
  fits = c.narrow.ensures.fits;
  frames = c.narrow.ensures.frames ∙ c.loop-i.invariant.frames;
  sets = cut_more c.args.frame (λ i. (net_at c.args.nets.now i).0) (λ i. has (set_at c.args.lefts.now i)) c.loop-i.i (sets_of c.args.self.now.sets) (sets_of c.loop-i.self.sets) (sets_of c.narrow.new.self.sets)
      c.loop-i.invariant.sets c.narrow.ensures.sets;
  goes_on = λ s bounds q goes may.
      c.narrow.ensures.goes_on s bounds q (c.loop-i.invariant.goes_on s bounds q goes may) (λ a b had none. may c.loop-i.i c.loop-i-test.true a b none);
  further = further_more c.args.self.now c.loop-i.self c.narrow.new.self c.loop-i.invariant.further c.narrow.ensures.further;
}
