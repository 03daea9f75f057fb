use Rattle.std.proofs.Common.{inl, inr, true, sym, ◌∙◌, arith}
use Rattle.pair_sets.specs.Pairs.{has}
use Rattle.region_search.proofs.Narrowing.{narrow_anew, narrow_goes_on, no_pair, some_pair}
use Rattle.region_search.specs.Going.{sets_of}
use Rattle.region_search.proofs.search.Search.narrow.Goals as goal

pub returns-then-not-is_empty-clause-goes_on : goal.returns-then-not-is_empty-clause-goes_on
returns-then-not-is_empty-clause-goes_on c = λ s bounds q goes may. record {
  frames = c.cut.ensures.frames ∙ goes.frames;
  going = narrow_goes_on c.args.watchers.now s bounds q (sets_of c.args.self.now.sets) (sets_of c.cut.new.self) c.args.self.now.waiting c.wake.new.waiting c.args.self.now.empty c.args.self.now.empty
      c.args.frame c.args.net.0 (has c.args.to) (omega (arith, goes.frames, c.requires.frame)) c.cut.ensures.sets goes.going may c.wake.ensures
      (λ e. (let there = some_pair c.get.result c.is_empty.result c.is_empty.ensures c.if-not-is_empty.true in
      (e, (there.0, there.1, sym (c.get.ensures there.0 there.1) ∙ there.2))))
      (λ e. inl e);
}

pub returns-clause-goes_on : goal.returns-clause-goes_on
returns-clause-goes_on c = λ s bounds q goes may. record {
  frames = c.cut.ensures.frames ∙ goes.frames;
  going = narrow_goes_on c.args.watchers.now s bounds q (sets_of c.args.self.now.sets) (sets_of c.cut.new.self) c.args.self.now.waiting c.wake.new.waiting c.args.self.now.empty true
      c.args.frame c.args.net.0 (has c.args.to) (omega (arith, goes.frames, c.requires.frame)) c.cut.ensures.sets goes.going may c.wake.ensures
      (λ e. absurd (cc))
      (λ e. inr (λ a b. sym (c.get.ensures a b) ∙ no_pair c.get.result c.is_empty.result c.is_empty.ensures c.if-not-is_empty.false a b));
}

pub returns-then-not-is_empty-clause-anew : goal.returns-then-not-is_empty-clause-anew
returns-then-not-is_empty-clause-anew c = λ s bounds others q goes holds. record {
  frames = c.cut.ensures.frames ∙ goes.frames;
  going = narrow_anew c.args.watchers.now s bounds q (sets_of c.args.self.now.sets) (sets_of c.cut.new.self) c.args.self.now.waiting c.wake.new.waiting c.args.self.now.empty c.args.self.now.empty
      c.args.frame c.args.net.0 (has c.args.to) (omega (arith, goes.frames, c.requires.frame)) c.cut.ensures.sets goes.going others holds c.wake.ensures
      (λ e. (let there = some_pair c.get.result c.is_empty.result c.is_empty.ensures c.if-not-is_empty.true in
      (e, (there.0, there.1, sym (c.get.ensures there.0 there.1) ∙ there.2))))
      (λ e. inl e);
}

pub returns-clause-anew : goal.returns-clause-anew
returns-clause-anew c = λ s bounds others q goes holds. record {
  frames = c.cut.ensures.frames ∙ goes.frames;
  going = narrow_anew c.args.watchers.now s bounds q (sets_of c.args.self.now.sets) (sets_of c.cut.new.self) c.args.self.now.waiting c.wake.new.waiting c.args.self.now.empty true
      c.args.frame c.args.net.0 (has c.args.to) (omega (arith, goes.frames, c.requires.frame)) c.cut.ensures.sets goes.going others holds c.wake.ensures
      (λ e. absurd (cc))
      (λ e. inr (λ a b. sym (c.get.ensures a b) ∙ no_pair c.get.result c.is_empty.result c.is_empty.ensures c.if-not-is_empty.false a b));
}
