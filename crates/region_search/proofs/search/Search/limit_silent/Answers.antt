use Rattle.std.proofs.Common.{sym, ◌∙◌, arith}
use Rattle.circuit.specs.Order.{net_at}
use Rattle.region_search.proofs.FirstSets.{as_long, done_more, may_silent}
use Rattle.region_search.specs.BeginSteps.{is_quiet}
use Rattle.region_search.specs.Going.{sets_of}
use Rattle.region_search.proofs.search.Search.limit_silent.Goals as goal

pub loop-net-preserved : goal.loop-net-preserved
loop-net-preserved c =
    let frame = c.args.frame in
    let j = c.loop-net.net-index in
    record {
      size = as_long c.args.self.now c.loop-net.self c.limit.new.self c.loop-net.invariant.size c.limit.ensures.size;
      fewer = λ i n a b e. c.loop-net.invariant.fewer i n a b (c.limit.ensures.fewer i n a b e);
      done = done_more frame (λ i. (net_at c.args.beginning.now.silent.now i).0) (λ i. is_quiet frame c.args.beginning.now.until) j (sets_of c.loop-net.self.sets) (sets_of c.limit.new.self.sets)
          c.loop-net.invariant.done c.limit.ensures.fewer
          (λ a b e. sym (c.quiet_pairs.ensures a b) ∙ c.limit.ensures.there a b e);
      begun = λ s so begun.
          c.limit.ensures.begun s (omega (arith, c.requires.frame, so.frames))
          (λ a b none. may_silent c.args.netlist.now s c.args.self.now.sets.frames c.args.beginning.now so frame j (omega (arith, c.requires.frame, so.frames)) c.loop-net-test.true a b
          (sym (c.quiet_pairs.ensures a b) ∙ none))
          (c.loop-net.invariant.begun s so begun);
    }
