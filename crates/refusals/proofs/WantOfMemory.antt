-- The evidence of an answer that there is no memory.
use Rattle.std.proofs.Common.{◌≡◌, refl}
use Rattle.room.specs.declared.edge.NoRoom.{NoRoom}
use Rattle.refusals.specs.declared.status.Status.{Status}
use Rattle.refusals.specs.declared.status.Status.TheVariants as status
use Rattle.refusals.specs.WantOfMemory.{IsMemory}

pub evidence_of : (ended : Status) → IsMemory ended → (no_room : NoRoom) × (ended ≡ status.Memory no_room)
evidence_of (status.Memory no_room) is = (no_room, refl)
evidence_of _ is = absurd is
