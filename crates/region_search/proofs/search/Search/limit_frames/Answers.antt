use Rattle.std.proofs.Common.{◌≡◌, inl, inr, sym, subst, arith}
use Rattle.std.proofs.lemmas.Bool.{cases_lt}
use Rattle.region_search.proofs.FirstSets.{as_long, frame_kept}
use Rattle.region_search.specs.Begin.{BeginsSo}
use Rattle.region_search.specs.BeginSteps.{IsFrameDone}
use Rattle.region_search.specs.Going.{sets_of}
use Rattle.region_search.proofs.search.Search.limit_frames.Goals as goal

pub loop-frame-preserved : goal.loop-frame-preserved
loop-frame-preserved c = record {
  size = as_long c.args.self.now c.loop-frame.self c.limit_frame.new.self c.loop-frame.invariant.size c.limit_frame.ensures.size;
  fewer = λ i n a b e. c.loop-frame.invariant.fewer i n a b (c.limit_frame.ensures.fewer i n a b e);
  done = λ i lt. elim (cases_lt i c.loop-frame.frame) as (λ _. IsFrameDone c.args.netlist.now c.args.beginning.now i (sets_of c.limit_frame.new.self.sets)) [
    | inl before ↦ frame_kept c.args.netlist.now c.args.beginning.now i (sets_of c.loop-frame.self.sets) (sets_of c.limit_frame.new.self.sets) c.limit_frame.ensures.fewer (c.loop-frame.invariant.done i before)
    | inr last ↦ (
        let same : c.loop-frame.frame ≡ i = omega (arith, lt, last) in
        subst (λ k. IsFrameDone c.args.netlist.now c.args.beginning.now k (sets_of c.limit_frame.new.self.sets)) same c.limit_frame.ensures.done)
  ];
  begun = λ s so begun.
      c.limit_frame.ensures.begun s (subst (λ many. BeginsSo c.args.netlist.now s many c.args.beginning.now) (sym c.loop-frame.invariant.size.frames) so)
      (c.loop-frame.invariant.begun s so begun);
}
