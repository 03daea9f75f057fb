use Rattle.std.proofs.Common.{◌∙◌}
use Rattle.region_search.proofs.Ending.{again, ended}
use Rattle.region_search.specs.Going.{sets_of}
use Rattle.region_search.proofs.search.Search.settle.Goals as goal

pub returns-in_default-clause-settled : goal.returns-in_default-clause-settled
returns-in_default-clause-settled c = λ e s bounds sites goes.
    ended c.args.watchers.now s bounds (sets_of c.places.self.sets) c.places.self c.requires.made.order (c.places.invariant.goes_on s bounds sites goes) c.in_default.ensures

pub places-preserved : goal.places-preserved
places-preserved c = record {
  fits = c.look_at.ensures.fits;
  frames = c.look_at.ensures.frames ∙ c.places.invariant.frames;
  goes_on = λ s bounds sites goes.
      again c.args.watchers.now s bounds (sets_of c.places.self.sets) c.look_at.new.self (c.look_at.ensures.goes_on s bounds sites (c.places.invariant.goes_on s bounds sites goes));
  among = λ s bounds sites goes i n a b le e.
      c.places.invariant.among s bounds sites goes i n a b le
      ((c.look_at.ensures.goes_on s bounds sites (c.places.invariant.goes_on s bounds sites goes)).going.by_rules.among i n a b le e);
}
