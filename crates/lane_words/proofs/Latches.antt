-- The latches of a netlist.
use Rattle.std.proofs.Common.{◌<◌, false, length, get_or}
use Rattle.std.specs.List.{All}
use Rattle.std.proofs.lemmas.Option.{get_or_from_slice_get, slice_get-get_or, slice_get_within}
use Rattle.circuit.specs.declared.parts.Driver.TheVariants.{Input, Latch as FromLatch}
use Rattle.circuit.specs.declared.parts.Latch.{Latch}
use Rattle.circuit.specs.Circuit.{Circuit}
use Rattle.circuit.specs.Sound.{IsNetlist}
use Rattle.lane_words.specs.Gates.{AreLatches, latch_at}

pub latches_driven : (c : Circuit) → IsNetlist c → AreLatches c c.latches
latches_driven c sound j lt =
    get_or_from_slice_get c.drivers (latch_at c.latches j).to.0 (FromLatch j) (Input 0)
    (sound.latches j (latch_at c.latches j) (slice_get-get_or c.latches j (record { from = record { 0 = 0 }; to = record { 0 = 0 }; start = false }) lt))

pub latches_inside : (c : Circuit) → IsNetlist c → All (λ (latch : Latch). latch.to.0 < length c.drivers) c.latches
latches_inside c sound = λ i d lt.
    slice_get_within c.drivers (get_or c.latches i d).to.0 (FromLatch i) (sound.latches i (get_or c.latches i d) (slice_get-get_or c.latches i d lt))
