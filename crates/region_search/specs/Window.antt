-- What a search of a window finds at its first frame.
use Rattle.std.specs.Prelude.{◌≡◌, ◌⊎◌, Bool, false, true, not, ◌&&◌, ◌||◌}
use Rattle.circuit.specs.declared.parts.Latch.{Latch}
use Rattle.coverage_claim.specs.Largest.{IsRefuted}
use Rattle.coverage_claim.specs.Region.{may_show}
use Rattle.coverage_claim.specs.Stretch.{Pairs, Stretch}
use Rattle.coverage_claim.specs.declared.parts.Site.{Site}

-- with this pair at the net that it reads, a latch with these starts may come to a pair that isn't among them, where its own net has this site
abbrev pub leaves_from : Site → Pairs → Pairs
leaves_from site starts golden faulty = (may_show site faulty false && not (starts golden false)) || (may_show site faulty true && not (starts golden true))

-- A LATCH HAS TO START WITH A PAIR that is one of its starts, or that its own net may show a cycle after a pair that isn't refuted
abbrev pub IsForced : Stretch → Latch → (starts : Pairs) → (golden faulty : Bool) → Type 0
IsForced s latch starts golden faulty =
    (starts golden faulty ≡ true) ⊎ ((value : Bool) × (may_show (s.region latch.to.0) value faulty ≡ true) × (¬ (IsRefuted s 0 latch.from.0 golden value)))
