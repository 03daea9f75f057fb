use Rattle.std.proofs.Common.{◌≡◌, ◌+◌, ◌*◌, length, ap, sym, subst, ◌∙◌, arith}
use Rattle.std.specs.List.{slice_get}
use Rattle.std.specs.Prelude.{Some}
use Rattle.circuit.specs.Circuit.{Circuit}
use Rattle.circuit.specs.declared.parts.Latch.{Latch}
use Rattle.region_search.proofs.Places.{inside}
use Rattle.region_search.proofs.Placing.{IsOut, is_quiet, less_left, looked_at}
use Rattle.region_search.specs.Going.{sets_of}
use Rattle.region_search.specs.Search.{place_in, places_of}
use Rattle.region_search.specs.Settled.{IsLatchSettled}
use Rattle.region_search.specs.Work.{pairs_left}
use Rattle.region_search.proofs.search.Search.look_at_latch.Goals as goal

out : (c : goal.After-remove) → IsOut c.narrow_latch.new.self.waiting c.remove.new.self (place_in c.args.watchers.now c.args.frame (length c.args.watchers.now.order + c.args.number))
out c = subst (λ at. IsOut c.narrow_latch.new.self.waiting c.remove.new.self at) c.latch_place.ensures.value c.remove.ensures.has

pub returns-clause-work : goal.returns-clause-work
returns-clause-work c = record {
  quiet = is_quiet c.narrow_latch.new.self.waiting c.remove.new.self (place_in c.args.watchers.now c.args.frame (length c.args.watchers.now.order + c.args.number)) (out c);
  less = λ there.
      less_left (pairs_left c.args.self.now.sets.sets.items) (pairs_left c.narrow_latch.new.self.sets.sets.items) c.args.self.now.waiting c.narrow_latch.new.self.waiting c.remove.new.self
      (place_in c.args.watchers.now c.args.frame (length c.args.watchers.now.order + c.args.number)) c.narrow_latch.ensures.further.less c.narrow_latch.ensures.further.idle
      (c.narrow_latch.ensures.fits.bound ∙ ap (λ n. n * places_of c.args.watchers.now) c.narrow_latch.ensures.frames ∙ sym c.requires.fits.bound) c.remove.ensures.bound (out c)
      (let within = inside (places_of c.args.watchers.now) c.args.self.now.sets.frames c.args.frame (length c.args.watchers.now.order + c.args.number) (omega (arith, c.requires.frame)) c.latch_place.ensures.inside in
      omega (arith, within, c.requires.fits.bound))
      there;
}

pub returns-clause-goes_on : goal.returns-clause-goes_on
returns-clause-goes_on c = λ s bounds region goes.
    let at : slice_get s.circuit.latches c.args.number ≡ Some c.args.latch =
    subst (λ (each : Circuit). slice_get each.latches c.args.number ≡ Some c.args.latch) (sym goes.going.circuit) c.requires.latch in
    let next = c.narrow_latch.ensures.goes_on s bounds c.args.number region at goes in
    record {
      frames = next.frames;
      going = looked_at c.args.watchers.now s bounds (sets_of c.args.self.now.sets) (sets_of c.narrow_latch.new.self.sets) c.narrow_latch.new.self.waiting c.remove.new.self
          c.narrow_latch.new.self.empty c.args.frame (length c.args.watchers.now.order + c.args.number) c.latch_place.ensures.inside (out c)
          (λ k lt driver. absurd (omega (arith, lt)))
          (λ l latch _ same there.
          (let number : c.args.number ≡ l = omega (arith, same) in
          let both : Some c.args.latch ≡ Some latch = sym at ∙ ap (slice_get s.circuit.latches) number ∙ there in
          let equal : c.args.latch ≡ latch = cc in
          subst (λ (each : Latch). IsLatchSettled s (sets_of c.narrow_latch.new.self.sets) c.args.frame each) equal (c.narrow_latch.ensures.settled s region)))
          next.going;
    }
