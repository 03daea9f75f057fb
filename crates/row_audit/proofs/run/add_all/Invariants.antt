use Rattle.std.proofs.Common.{[]}
use Rattle.row_audit.specs.Watched.{watcher_at}
use Rattle.row_audit.proofs.Stepped.{HaveStepped}
use Rattle.row_audit.proofs.Steps.{Adds}
use Rattle.row_audit.proofs.run.add_all.Given as goal

abbrev pub invariant-loop-word : goal.invariant-loop-word
invariant-loop-word l = HaveStepped (Adds l.kind) (watcher_at [] 0) l.initial.watchers l.watchers l.word
