use Rattle.std.proofs.Common.{refl}
use Rattle.fm_shelf.specs.Content.{Unknown}
use Rattle.refusals.specs.RefusalLines.{refusal_line}
use Rattle.refusals.proofs.Refusals.{no_circuit}
use Rattle.fmeda_top.proofs.perform.say_end.Goals as goal

pub returns-in-NoMemory : goal.returns-in-NoMemory
unfolding refusal_line
returns-in-NoMemory g c = rw c.in-NoMemory.is (c.say_refused.ensures.status, (c.say_refused.ensures.said Unknown tt).2)

pub returns-in-ResultFault : goal.returns-in-ResultFault
unfolding refusal_line
returns-in-ResultFault g c = rw c.in-ResultFault.is (refl, c.refuse.ensures no_circuit refl)
