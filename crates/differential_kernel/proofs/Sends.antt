-- Lanes may go to another thread.
use denote.Builtin.{u64}
use denote.Param.Send.{IsSend, sendable}
use Rattle.std.proofs.Crossing.{crosses}
use Rattle.circuit.proofs.parts.Fault.TheSendSync as fault
use Rattle.lane_words.proofs.force.Force.TheSendSync as force
use Rattle.lane_words.proofs.gate.Gate.TheSendSync as gate
use Rattle.lane_words.proofs.gate.Masks.TheSendSync as masks
use Rattle.lane_words.proofs.quad.Quad.TheSendSync as quad
use Rattle.lane_words.specs.contracts.quad.Quad.{the_row as quad_row}
use Rattle.lane_words.specs.contracts.quad.QuadWord.TheImpl.{ghosts as quad_ghosts}
use Rattle.lane_words.specs.contracts.word.U64Word.TheImpl.{ghosts as word_ghosts}
use Rattle.place_set.proofs.set.PlaceSet.TheSendSync as places
use Rattle.differential_kernel.specs.contracts.lanes.DifferentialLanes.{the_row}
use Rattle.differential_kernel.proofs.cone.ConeTable.TheSendSync as table

-- of four words
pub lanes_send : IsSend (the_row quad_row quad_ghosts)
lanes_send = search (sendable, crosses, quad.the_send, fault.the_send, gate.the_send, table.the_send, masks.the_send, force.the_send, places.the_send) depth 40 fits 20000

-- of one
pub word_send : IsSend (the_row u64 word_ghosts)
word_send = search (sendable, crosses, fault.the_send, gate.the_send, table.the_send, masks.the_send, force.the_send, places.the_send) depth 40 fits 20000
