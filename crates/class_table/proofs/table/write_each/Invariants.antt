use Rattle.class_table.proofs.ClassLines.{HasWritten}
use Rattle.class_table.proofs.table.write_each.Given as goal

abbrev pub invariant-loop-i : goal.invariant-loop-i
invariant-loop-i g l =
    HasWritten l.initial.simulator l.simulator (g.O.Sink.seen l.initial.out) (g.O.Sink.seen l.out) l.i
