use Rattle.std.proofs.Common.{◌≡◌, ◌+◌, List, false, length, refl, subst, arith}
use Rattle.std.specs.Prelude.{Some, slice_index_or}
use Rattle.std.specs.List.{slice_get}
use Rattle.std.proofs.lemmas.Option.{slice_get-get_or, slice_get_within}
use Rattle.circuit.specs.declared.parts.Driver.TheVariants.{Latch as FromLatch}
use Rattle.circuit.specs.declared.parts.Latch.{Latch}
use Rattle.coverage_claim.specs.declared.parts.Site.TheVariants.{Intact}
use Rattle.region_search.proofs.Places.{inside}
use Rattle.region_search.proofs.Placing.{IsOut, is_quiet, less_left, looked_at}
use Rattle.region_search.specs.Going.{sets_of}
use Rattle.region_search.specs.Search.{place_in, places_of}
use Rattle.region_search.specs.Work.{pairs_left}
use Rattle.region_search.proofs.search.Search.look_at_number.Goals as goal

out : (c : goal.After-remove) → IsOut c.args.self.now.waiting c.remove.new.self (place_in c.args.watchers.now c.args.frame (length c.args.watchers.now.order + c.args.number))
out c = subst (λ at. IsOut c.args.self.now.waiting c.remove.new.self at) c.latch_place.ensures.value c.remove.ensures.has

pub returns-then-frame-self-clause-work : goal.returns-then-frame-self-clause-work
returns-then-frame-self-clause-work c = record {
  quiet = is_quiet c.args.self.now.waiting c.remove.new.self (place_in c.args.watchers.now c.args.frame (length c.args.watchers.now.order + c.args.number)) (out c);
  less = λ there.
      less_left (pairs_left c.args.self.now.sets.sets.items) (pairs_left c.args.self.now.sets.sets.items) c.args.self.now.waiting c.args.self.now.waiting c.remove.new.self
      (place_in c.args.watchers.now c.args.frame (length c.args.watchers.now.order + c.args.number)) (omega arith) (λ e. refl)
      refl c.remove.ensures.bound (out c)
      (let within = inside (places_of c.args.watchers.now) c.args.self.now.sets.frames c.args.frame (length c.args.watchers.now.order + c.args.number) (omega (arith, c.requires.frame)) c.latch_place.ensures.inside in
      omega (arith, within, c.requires.fits.bound))
      there;
}

pub returns-then-frame-self-clause-goes_on : goal.returns-then-frame-self-clause-goes_on
returns-then-frame-self-clause-goes_on c = λ s bounds sites goes. record {
  frames = goes.frames;
  going = looked_at c.args.watchers.now s bounds (sets_of c.args.self.now.sets) (sets_of c.args.self.now.sets) c.args.self.now.waiting c.remove.new.self
      c.args.self.now.empty c.args.frame (length c.args.watchers.now.order + c.args.number) c.latch_place.ensures.inside (out c)
      (λ k lt driver. absurd (omega (arith, lt)))
      (λ l latch early same there. absurd (omega (arith, early, goes.frames, c.if-frame-self.true)))
      goes.going;
}

pub look_at_latch-requires-clause-latch : goal.look_at_latch-requires-clause-latch
look_at_latch-requires-clause-latch c =
    subst (λ (all : List Latch). slice_get all c.args.number ≡ Some (slice_index_or c.args.latches.now c.args.number (record { from = record { 0 = 0 }; to = record { 0 = 0 }; start = false }))) c.requires.latches
    (slice_get-get_or c.args.latches.now c.args.number (record { from = record { 0 = 0 }; to = record { 0 = 0 }; start = false }) c.requires.number)

pub look_at_latch-requires-clause-to : goal.look_at_latch-requires-clause-to
look_at_latch-requires-clause-to c =
    slice_get_within c.args.watchers.now.circuit.drivers (slice_index_or c.args.latches.now c.args.number (record { from = record { 0 = 0 }; to = record { 0 = 0 }; start = false })).to.0 (FromLatch c.args.number)
    (c.requires.sound.latches c.args.number (slice_index_or c.args.latches.now c.args.number (record { from = record { 0 = 0 }; to = record { 0 = 0 }; start = false }))
    (subst (λ (all : List Latch). slice_get all c.args.number ≡ Some (slice_index_or c.args.latches.now c.args.number (record { from = record { 0 = 0 }; to = record { 0 = 0 }; start = false }))) c.requires.latches
    (slice_get-get_or c.args.latches.now c.args.number (record { from = record { 0 = 0 }; to = record { 0 = 0 }; start = false }) c.requires.number)))

pub bounds-sites-latch : goal.bounds-sites-latch
bounds-sites-latch c = let within = slice_get_within c.args.watchers.now.circuit.drivers (slice_index_or c.args.latches.now c.args.number (record { from = record { 0 = 0 }; to = record { 0 = 0 }; start = false })).to.0 (FromLatch c.args.number)
    (c.requires.sound.latches c.args.number (slice_index_or c.args.latches.now c.args.number (record { from = record { 0 = 0 }; to = record { 0 = 0 }; start = false }))
    (subst (λ (all : List Latch). slice_get all c.args.number ≡ Some (slice_index_or c.args.latches.now c.args.number (record { from = record { 0 = 0 }; to = record { 0 = 0 }; start = false }))) c.requires.latches
    (slice_get-get_or c.args.latches.now c.args.number (record { from = record { 0 = 0 }; to = record { 0 = 0 }; start = false }) c.requires.number))) in
    omega (arith, within, c.requires.sites)

pub returns-clause-goes_on : goal.returns-clause-goes_on
returns-clause-goes_on c = λ s bounds sites goes.
    c.look_at_latch.ensures.goes_on s bounds
    (sites.each (slice_index_or c.args.latches.now c.args.number (record { from = record { 0 = 0 }; to = record { 0 = 0 }; start = false })).to.0 _ (slice_get-get_or c.args.sites.now (slice_index_or c.args.latches.now c.args.number (record { from = record { 0 = 0 }; to = record { 0 = 0 }; start = false })).to.0 Intact (let within = slice_get_within c.args.watchers.now.circuit.drivers (slice_index_or c.args.latches.now c.args.number (record { from = record { 0 = 0 }; to = record { 0 = 0 }; start = false })).to.0 (FromLatch c.args.number)
    (c.requires.sound.latches c.args.number (slice_index_or c.args.latches.now c.args.number (record { from = record { 0 = 0 }; to = record { 0 = 0 }; start = false }))
    (subst (λ (all : List Latch). slice_get all c.args.number ≡ Some (slice_index_or c.args.latches.now c.args.number (record { from = record { 0 = 0 }; to = record { 0 = 0 }; start = false }))) c.requires.latches
    (slice_get-get_or c.args.latches.now c.args.number (record { from = record { 0 = 0 }; to = record { 0 = 0 }; start = false }) c.requires.number))) in
    omega (arith, within, c.requires.sites)))) goes
