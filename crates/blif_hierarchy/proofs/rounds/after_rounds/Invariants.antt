use Rattle.std.proofs.Common.{◌≡◌}
use Rattle.blif_hierarchy.specs.Rounds.{rounds}
use Rattle.blif_hierarchy.proofs.rounds.after_rounds.Given as goal

abbrev pub invariant-rounds : goal.invariant-rounds
invariant-rounds l = l.numbers.items ≡ rounds l.cap l.own l.callees l.first l._depth
