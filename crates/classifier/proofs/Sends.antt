-- A simulator may go to another thread.
use denote.Param.Send.{IsSend, sendable}
use Rattle.std.proofs.Crossing.{crosses}
use Rattle.differential_kernel.proofs.Sends.{lanes_send, word_send}
use Rattle.differential_kernel.proofs.picks.Picks.TheSendSync as picks
use Rattle.alarm_points.proofs.windows4.Windows4.TheSendSync as windows
use Rattle.classifier.specs.contracts.simulator.Simulator.{the_row as simulator_row}

pub simulator_send : IsSend simulator_row
simulator_send = search (sendable, crosses, windows.the_send, lanes_send, word_send, picks.the_send) depth 20
