use Rattle.std.proofs.Common.{ap, sym, subst, ◌∙◌, arith}
use Rattle.circuit.specs.declared.parts.Latch.{Latch}
use Rattle.coverage_claim.specs.Rules.{MayGo, everything}
use Rattle.pair_sets.specs.Choice.{set_at}
use Rattle.pair_sets.specs.Pairs.{has}
use Rattle.region_search.proofs.FirstSets.{as_long, done_more, latch_seen, may_start}
use Rattle.region_search.specs.BeginSteps.{latch_of}
use Rattle.region_search.specs.Going.{sets_of}
use Rattle.region_search.proofs.search.Search.limit_starts.Goals as goal

pub limit-requires-clause-net : goal.limit-requires-clause-net
limit-requires-clause-net c =
    let seen = latch_seen c.args.netlist.now c.latches-latch-items.result.now c.loop-number.number c.latches-latch-items.ensures.sound c.latches-latch-items.ensures.value c.loop-number-test.true in
    omega (arith, seen.net, c.requires.nets, c.loop-number.invariant.size.nets)

pub loop-number-preserved : goal.loop-number-preserved
loop-number-preserved c =
    let seen = latch_seen c.args.netlist.now c.latches-latch-items.result.now c.loop-number.number c.latches-latch-items.ensures.sound c.latches-latch-items.ensures.value c.loop-number-test.true in
    let l = c.loop-number.number in
    record {
      size = as_long c.args.self.now c.loop-number.self c.limit.new.self c.loop-number.invariant.size c.limit.ensures.size;
      fewer = λ i n a b e. c.loop-number.invariant.fewer i n a b (c.limit.ensures.fewer i n a b e);
      done = done_more 0 (λ j. (latch_of c.args.netlist.now.latches j).to.0) (λ j. has (set_at c.args.beginning.now.starts.now j)) l (sets_of c.loop-number.self.sets) (sets_of c.limit.new.self.sets)
          c.loop-number.invariant.done c.limit.ensures.fewer
          (λ a b e. c.limit.ensures.there a b (ap (λ (latch : Latch). sets_of c.limit.new.self.sets 0 latch.to.0 a b) seen.same ∙ e));
      begun = λ s so begun.
          c.limit.ensures.begun s (omega arith)
          (λ a b none. subst (λ (latch : Latch). MayGo s everything 0 latch.to.0 a b) (sym seen.same)
          (may_start c.args.netlist.now s c.args.self.now.sets.frames c.args.beginning.now so l seen.few a b none))
          (c.loop-number.invariant.begun s so begun);
    }
