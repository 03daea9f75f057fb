use Rattle.std.proofs.Common.{[]}
use Rattle.row_audit.specs.Watched.{watcher_at}
use Rattle.row_audit.proofs.Stepped.{HaveStepped}
use Rattle.row_audit.proofs.Steps.{Sees}
use Rattle.row_audit.proofs.run.see_all.Given as goal

abbrev pub invariant-loop-word : goal.invariant-loop-word
invariant-loop-word g l = HaveStepped (Sees (g.B.Circuits.IsAfter l.circuits) (g.B.Circuits.loaded l.circuits) l.points) (watcher_at [] 0) l.initial.watchers l.watchers l.word
