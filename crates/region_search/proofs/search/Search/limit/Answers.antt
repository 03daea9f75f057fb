use Rattle.std.proofs.Common.{inl, inr, true, sym, ◌∙◌}
use Rattle.pair_sets.specs.Pairs.{has}
use Rattle.region_search.proofs.FirstSets.{rightly_cut}
use Rattle.region_search.proofs.Narrowing.{no_pair, noted_cut, some_pair}
use Rattle.region_search.specs.Going.{sets_of}
use Rattle.region_search.proofs.search.Search.limit.Goals as goal

pub returns-then-not-is_empty-clause-begun : goal.returns-then-not-is_empty-clause-begun
returns-then-not-is_empty-clause-begun c = λ s le may begun. record {
  rightly = rightly_cut s (sets_of c.args.self.now.sets) (sets_of c.cut.new.self) c.args.frame c.args.net.0 (has c.args.to) c.cut.ensures.sets may begun.rightly;
  noted = noted_cut s (sets_of c.args.self.now.sets) (sets_of c.cut.new.self) c.args.self.now.empty c.args.self.now.empty c.args.frame c.args.net.0 (has c.args.to) le c.cut.ensures.sets begun.noted
      (λ e. (let there = some_pair c.get.result c.is_empty.result c.is_empty.ensures c.if-not-is_empty.true in
      (e, (there.0, there.1, sym (c.get.ensures there.0 there.1) ∙ there.2))))
      (λ e. inl e);
}

pub returns-clause-begun : goal.returns-clause-begun
returns-clause-begun c = λ s le may begun. record {
  rightly = rightly_cut s (sets_of c.args.self.now.sets) (sets_of c.cut.new.self) c.args.frame c.args.net.0 (has c.args.to) c.cut.ensures.sets may begun.rightly;
  noted = noted_cut s (sets_of c.args.self.now.sets) (sets_of c.cut.new.self) c.args.self.now.empty true c.args.frame c.args.net.0 (has c.args.to) le c.cut.ensures.sets begun.noted
      (λ e. absurd (cc))
      (λ e. inr (λ a b. sym (c.get.ensures a b) ∙ no_pair c.get.result c.is_empty.result c.is_empty.ensures c.if-not-is_empty.false a b));
}
