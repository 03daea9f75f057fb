use Rattle.std.proofs.Common.{◌≡◌}
use Rattle.always.specs.Tally.{tally_below}
use Rattle.always.specs.Verdict.{verdict_at}
use Rattle.always.proofs.tally.tally_part.Given as goal

-- the faults so far are counted
abbrev pub invariant-loop-i : goal.invariant-loop-i
invariant-loop-i l = l.tally ≡ tally_below l.plan (verdict_at l.plan l.from l.answers) l.number l.i
