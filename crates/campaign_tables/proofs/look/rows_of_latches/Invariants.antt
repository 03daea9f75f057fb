use Rattle.std.proofs.Common.{◌≡◌, map, take}
use Rattle.circuit.specs.declared.parts.Latch.{Latch}
use Rattle.campaign_tables.specs.PartTable.{row_of_net}
use Rattle.campaign_tables.proofs.look.rows_of_latches.Given as goal

abbrev pub invariant-loop-latch : goal.invariant-loop-latch
invariant-loop-latch l = l.latches.items ≡ map (λ (latch : Latch). row_of_net l.net l.rates latch.to.0) (take l.latch-index l.net.latches)
