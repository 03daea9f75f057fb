use Rattle.testbench.specs.Seen.{AreStretches}
use Rattle.testbench.proofs.stretches.Stretches.new.Given as goal

-- the stretches of the runs so far
abbrev pub invariant-loop-run : goal.invariant-loop-run
invariant-loop-run l = AreStretches l.net l.work l.run l.runs.items
