use Rattle.always.proofs.Asking.{AreParts}
use Rattle.always.proofs.asked.net_parts.Given as goal

abbrev pub invariant-loop-net : goal.invariant-loop-net
invariant-loop-net l = AreParts l.plan l.net l.parts.items
