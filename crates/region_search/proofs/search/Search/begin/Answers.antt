use Rattle.std.proofs.Common.{◌≡◌, ◌*◌, ap, refl, sym, subst, ◌∙◌, arith}
use Rattle.region_search.proofs.FirstSets.{begun_goes_on, frame_kept, whole_begun}
use Rattle.region_search.specs.Begin.{BeginsSo}
use Rattle.region_search.specs.Going.{sets_of}
use Rattle.region_search.specs.Search.{places_of}
use Rattle.region_search.proofs.search.Search.begin.Goals as goal

pub returns-clause-goes_on : goal.returns-clause-goes_on
returns-clause-goes_on c = λ o s same fits so.
    let many = c.args.self.now.sets.frames in
    let first : BeginsSo c.args.netlist.now s c.refill.new.self.frames c.args.beginning.now = subst (λ n. BeginsSo c.args.netlist.now s n c.args.beginning.now) (sym c.refill.ensures.frames) so in
    let next : BeginsSo c.args.netlist.now s c.limit_frames.new.self.sets.frames c.args.beginning.now =
    subst (λ n. BeginsSo c.args.netlist.now s n c.args.beginning.now) (sym c.limit_frames.ensures.size.frames) first in
    let frames : c.limit_starts.new.self.sets.frames ≡ many = c.limit_starts.ensures.size.frames ∙ c.limit_frames.ensures.size.frames ∙ c.refill.ensures.frames in
    let begun = c.limit_starts.ensures.begun s next (c.limit_frames.ensures.begun s first
    (whole_begun s _ c.refill.new.self.frames first.frames (λ frame net a b lt. c.refill.ensures.all frame net a b (omega (arith, lt, c.refill.ensures.frames))) refl)) in
    begun_goes_on c.args.netlist.now s many c.args.beginning.now c.limit_starts.ensures.sound c.requires.said so (sets_of c.limit_starts.new.self.sets)
    (λ frame lt. frame_kept c.args.netlist.now c.args.beginning.now frame (sets_of c.limit_frames.new.self.sets) (sets_of c.limit_starts.new.self.sets) c.limit_starts.ensures.fewer
    (c.limit_frames.ensures.done frame (omega (arith, lt, c.refill.ensures.frames))))
    c.limit_starts.ensures.done o
    (record { sets = c.limit_starts.new.self.sets; waiting = c.fill.new.self; empty = c.limit_starts.new.self.empty }) same
    (record {
      nets = c.limit_starts.ensures.size.nets ∙ c.limit_frames.ensures.size.nets ∙ c.refill.ensures.nets ∙ fits.nets;
      bound = c.fill.ensures.bound ∙ c.limit_starts.ensures.size.bound ∙ c.limit_frames.ensures.size.bound ∙ fits.bound ∙ ap (λ n. n * places_of o) (sym frames);
    })
    frames refl
    (record { rightly = begun.rightly; noted = begun.noted })
    (λ p lt. c.fill.ensures.all p (omega (arith, lt, c.fill.ensures.bound)))
