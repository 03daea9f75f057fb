use Rattle.std.proofs.Common.{◌≡◌, Bool, ap, sym, ◌∙◌, arith}
use Rattle.coverage_claim.specs.Stretch.{held_at}
use Rattle.region_search.proofs.FirstSets.{as_long, done_more, may_held}
use Rattle.region_search.specs.BeginSteps.{allows, held_of, held_passes}
use Rattle.region_search.specs.Going.{sets_of}
use Rattle.region_search.proofs.search.Search.limit_held.Goals as goal

pub loop-held-preserved : goal.loop-held-preserved
loop-held-preserved c =
    let frame = c.args.frame in
    let j = c.loop-held.held-index in
    let passes : (a b : Bool) → held_passes c.args.beginning.now frame j a b ≡ allows c.held_at.result a b =
    λ a b. ap (λ value. allows value a b) (ap (held_at (held_of c.args.beginning.now.held.now j)) (omega (arith, c.from.ensures, c.from-2.ensures)) ∙ sym c.held_at.ensures) in
    record {
      size = as_long c.args.self.now c.loop-held.self c.limit.new.self c.loop-held.invariant.size c.limit.ensures.size;
      fewer = λ i n a b e. c.loop-held.invariant.fewer i n a b (c.limit.ensures.fewer i n a b e);
      done = done_more frame (λ i. (held_of c.args.beginning.now.held.now i).net.0) (held_passes c.args.beginning.now frame) j (sets_of c.loop-held.self.sets) (sets_of c.limit.new.self.sets)
          c.loop-held.invariant.done c.limit.ensures.fewer
          (λ a b e. passes a b ∙ sym (c.golden_pairs.ensures a b) ∙ c.limit.ensures.there a b e);
      begun = λ s so begun.
          c.limit.ensures.begun s (omega (arith, c.requires.frame, so.frames))
          (λ a b none. may_held c.args.netlist.now s c.args.self.now.sets.frames c.args.beginning.now so frame j (omega (arith, c.requires.frame, so.frames)) c.loop-held-test.true a b
          (passes a b ∙ sym (c.golden_pairs.ensures a b) ∙ none))
          (c.loop-held.invariant.begun s so begun);
    }
