use Rattle.region_search.proofs.ReadsOnce.{AreFound}
use Rattle.region_search.proofs.truth.reads_of.Given as goal

abbrev pub invariant-loop-net : goal.invariant-loop-net
invariant-loop-net l = AreFound l.ins l.net-index l.count l.nets
