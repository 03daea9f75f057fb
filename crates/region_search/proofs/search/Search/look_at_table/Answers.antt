use Rattle.std.proofs.Common.{◌≡◌, ◌*◌, ◌≤◌, ap, sym, subst, ◌∙◌, arith}
use Rattle.circuit.specs.Value.{driver_at}
use Rattle.circuit.specs.declared.parts.Driver.TheVariants.{Table as FromTable}
use Rattle.circuit.specs.declared.parts.NetId.{NetId}
use Rattle.region_search.proofs.Places.{inside}
use Rattle.region_search.proofs.Placing.{IsOut, is_quiet, less_left, looked_at}
use Rattle.region_search.specs.Going.{sets_of}
use Rattle.region_search.specs.Search.{place_in, places_of}
use Rattle.region_search.specs.Settled.{IsTableSettled}
use Rattle.region_search.specs.Work.{pairs_left}
use Rattle.region_search.proofs.search.Search.look_at_table.Goals as goal

out : (c : goal.After-remove) → IsOut c.narrow_table.new.self.waiting c.remove.new.self (place_in c.args.watchers.now c.args.frame c.args.place)
out c = subst (λ at. IsOut c.narrow_table.new.self.waiting c.remove.new.self at) c.table_place.ensures.value c.remove.ensures.has

pub returns-clause-work : goal.returns-clause-work
returns-clause-work c = record {
  quiet = is_quiet c.narrow_table.new.self.waiting c.remove.new.self (place_in c.args.watchers.now c.args.frame c.args.place) (out c);
  less = λ there.
      less_left (pairs_left c.args.self.now.sets.sets.items) (pairs_left c.narrow_table.new.self.sets.sets.items) c.args.self.now.waiting c.narrow_table.new.self.waiting c.remove.new.self
      (place_in c.args.watchers.now c.args.frame c.args.place) c.narrow_table.ensures.further.less c.narrow_table.ensures.further.idle
      (c.narrow_table.ensures.fits.bound ∙ ap (λ n. n * places_of c.args.watchers.now) c.narrow_table.ensures.frames ∙ sym c.requires.fits.bound) c.remove.ensures.bound (out c)
      (let within = inside (places_of c.args.watchers.now) c.args.self.now.sets.frames c.args.frame c.args.place (omega (arith, c.requires.frame)) c.table_place.ensures.inside in
      omega (arith, within, c.requires.fits.bound))
      there;
}

pub returns-clause-goes_on : goal.returns-clause-goes_on
returns-clause-goes_on c = λ s bounds k region truth goes.
    let next = c.narrow_table.ensures.goes_on s bounds k region truth goes in
    let within : c.args.frame ≤ s.last = omega (arith, goes.frames, c.requires.frame) in
    let settled = c.narrow_table.ensures.settled s k within region truth in
    record {
      frames = next.frames;
      going = looked_at c.args.watchers.now s bounds (sets_of c.args.self.now.sets) (sets_of c.narrow_table.new.self.sets) c.narrow_table.new.self.waiting c.remove.new.self
          c.narrow_table.new.self.empty c.args.frame c.args.place c.table_place.ensures.inside (out c)
          (λ j lt driver.
          (let driven : driver_at s.circuit c.args.own.0 ≡ FromTable j = ap (λ (net : NetId). driver_at s.circuit net.0) (sym c.requires.at) ∙ driver in
          let was = truth.driver in
          let number : k ≡ j = cc in
          subst (λ (net : NetId). IsTableSettled s (sets_of c.narrow_table.new.self.sets) c.args.frame j net) (sym c.requires.at)
          (subst (λ n. IsTableSettled s (sets_of c.narrow_table.new.self.sets) c.args.frame n c.args.own) number settled)))
          (λ l latch _ same there. absurd (omega (arith, same, c.requires.place)))
          next.going;
    }
