use Rattle.std.proofs.Common.{arith}
use Rattle.fault_runs.proofs.Idle.{all_idle}
use Rattle.fault_runs.proofs.over.are_idle_from.Goals as goal

pub returns : goal.returns
returns c = λ u is le. all_idle c.args.faults.now c.args.cycle u le (λ i lt. c.loop-fault.invariant i (omega (arith, lt, c.loop-fault-test.false)))
