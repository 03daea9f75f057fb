use Rattle.std.proofs.Common.{arith}
use Rattle.place_set.specs.Places.{has}
use Rattle.differential_kernel.proofs.Listing.{those_none, those_until}
use Rattle.differential_kernel.proofs.list.list_all.Goals as goal

pub places-init : goal.places-init
places-init c = record { within = omega arith; those = those_none (has c.args.set.now) c.args.list.now }

pub places-preserved : goal.places-preserved
places-preserved c =
    let found = c.in-Some.ensures in
    record {
      within = omega (arith, found.1);
      those =
          c.list_if-count.ensures (has c.args.set.now) found.2
          (those_until (has c.args.set.now) c.places.list c.places.count c.places.from c.in-Some.place found.0 found.3 c.places.invariant.those);
    }
