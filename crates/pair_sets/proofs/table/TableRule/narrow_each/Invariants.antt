use Rattle.pair_sets.specs.Steps.{IsHalfLeft}
use Rattle.pair_sets.proofs.table.TableRule.narrow_each.Given as goal

abbrev pub invariant-loop-i : goal.invariant-loop-i
invariant-loop-i l = IsHalfLeft l.self.truth l.self.site l.initial.reads l.own l.reads l.i
