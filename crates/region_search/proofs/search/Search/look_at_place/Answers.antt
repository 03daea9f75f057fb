use Rattle.std.proofs.Common.{refl, sym, subst, arith}
use Rattle.std.proofs.lemmas.Option.{slice_get-get_or}
use Rattle.coverage_claim.specs.declared.parts.Site.TheVariants.{Intact}
use Rattle.region_search.proofs.Made.{is_placed, number_of, own_fits, own_inside, own_is_net, placed_at, truth_of, wide_settled}
use Rattle.region_search.proofs.Places.{inside}
use Rattle.region_search.proofs.Placing.{IsOut, is_quiet, less_left, looked_at}
use Rattle.region_search.specs.Going.{sets_of}
use Rattle.region_search.specs.Search.{place_in, places_of}
use Rattle.region_search.specs.Work.{pairs_left}
use Rattle.region_search.proofs.search.Search.look_at_place.Goals as goal

out : (c : goal.After-remove) → IsOut c.args.self.now.waiting c.remove.new.self (place_in c.args.watchers.now c.args.frame c.args.place)
out c = subst (λ at. IsOut c.args.self.now.waiting c.remove.new.self at) c.table_place.ensures.value c.remove.ensures.has

pub returns-then-table-gt6-clause-work : goal.returns-then-table-gt6-clause-work
returns-then-table-gt6-clause-work c = record {
  quiet = is_quiet c.args.self.now.waiting c.remove.new.self (place_in c.args.watchers.now c.args.frame c.args.place) (out c);
  less = λ there.
      less_left (pairs_left c.args.self.now.sets.sets.items) (pairs_left c.args.self.now.sets.sets.items) c.args.self.now.waiting c.args.self.now.waiting c.remove.new.self
      (place_in c.args.watchers.now c.args.frame c.args.place) (omega arith) (λ e. refl)
      refl c.remove.ensures.bound (out c)
      (let within = inside (places_of c.args.watchers.now) c.args.self.now.sets.frames c.args.frame c.args.place (omega (arith, c.requires.frame)) c.table_place.ensures.inside in
      omega (arith, within, c.requires.fits.bound))
      there;
}

pub returns-then-table-gt6-clause-goes_on : goal.returns-then-table-gt6-clause-goes_on
returns-then-table-gt6-clause-goes_on c = λ s bounds sites goes. record {
  frames = goes.frames;
  going = looked_at c.args.watchers.now s bounds (sets_of c.args.self.now.sets) (sets_of c.args.self.now.sets) c.args.self.now.waiting c.remove.new.self
      c.args.self.now.empty c.args.frame c.args.place c.table_place.ensures.inside (out c)
      (λ k lt driver. wide_settled c.args.watchers.now c.args.tables.now c.args.watchers.now.circuit.latches c.args.sites.now c.requires.made c.args.place c.requires.place s (sets_of c.args.self.now.sets) c.args.frame k goes.going.circuit c.if-table-gt6.true driver)
      (λ l latch _ same there. absurd (omega (arith, same, c.requires.place)))
      goes.going;
}

pub overflow_cast-rule : goal.overflow_cast-rule
overflow_cast-rule c = let few = own_fits c.args.watchers.now c.args.tables.now c.args.watchers.now.circuit.latches c.args.sites.now c.requires.made c.args.place c.requires.place in omega (arith, few)

pub offset_bounds-sites-table : goal.offset_bounds-sites-table
offset_bounds-sites-table c = let few = own_fits c.args.watchers.now c.args.tables.now c.args.watchers.now.circuit.latches c.args.sites.now c.requires.made c.args.place c.requires.place in omega (arith, few)

pub bounds-sites-table : goal.bounds-sites-table
bounds-sites-table c = own_inside c.args.watchers.now c.args.tables.now c.args.watchers.now.circuit.latches c.args.sites.now c.requires.made c.args.place c.requires.place

pub look_at_table-requires-clause-at : goal.look_at_table-requires-clause-at
look_at_table-requires-clause-at c = let placed = is_placed c.args.watchers.now c.args.tables.now c.args.watchers.now.circuit.latches c.args.sites.now c.requires.made c.args.place c.requires.place in sym placed.own

pub look_at_table-requires-clause-own : goal.look_at_table-requires-clause-own
look_at_table-requires-clause-own c = own_is_net c.args.watchers.now c.args.tables.now c.args.watchers.now.circuit.latches c.args.sites.now c.requires.made c.args.place c.requires.place

pub look_at_table-requires-clause-reads : goal.look_at_table-requires-clause-reads
look_at_table-requires-clause-reads c = let placed = is_placed c.args.watchers.now c.args.tables.now c.args.watchers.now.circuit.latches c.args.sites.now c.requires.made c.args.place c.requires.place in placed.nets

pub returns-clause-goes_on : goal.returns-clause-goes_on
returns-clause-goes_on c = λ s bounds sites goes.
    let number = number_of c.args.watchers.now c.args.tables.now c.args.watchers.now.circuit.latches c.args.sites.now c.requires.made c.args.place c.requires.place in
    c.look_at_table.ensures.goes_on s bounds number.0
    (sites.each (placed_at c.args.tables.now c.args.place).own.0 _ (slice_get-get_or c.args.sites.now (placed_at c.args.tables.now c.args.place).own.0 Intact (own_inside c.args.watchers.now c.args.tables.now c.args.watchers.now.circuit.latches c.args.sites.now c.requires.made c.args.place c.requires.place)))
    (truth_of c.args.watchers.now c.args.tables.now c.args.watchers.now.circuit.latches c.args.sites.now c.requires.made c.args.place c.requires.place s goes.going.circuit c.if-table-gt6.false) goes
