use Rattle.std.proofs.Common.{arith}
use Rattle.region_search.proofs.OwnPlaces.{more_tables}
use Rattle.region_search.proofs.watch.note_tables.Goals as goal

pub loop-place-preserved : goal.loop-place-preserved
loop-place-preserved c =
    more_tables c.args.order.now c.loop-place.own c.loop-place.place (record { 0 = 0 }) c.loop-place-test.true
    (λ k d lt. omega (arith, c.requires.nets k d lt, c.loop-place.auto.own))
    (λ p less. c.requires.apart p c.loop-place.place (omega (arith, less, c.loop-place-test.true)) c.loop-place-test.true (omega (arith, less)))
    c.loop-place.invariant
