use Rattle.std.proofs.Common.{◌≡◌, ◌<◌, []}
use Rattle.std.specs.Prelude.{Some}
use Rattle.row_audit.specs.Watched.{watcher_at}
use Rattle.row_audit.proofs.Stepped.{HaveStepped}
use Rattle.row_audit.proofs.Steps.{Turns}
use Rattle.row_audit.proofs.judge.turn_all.Given as goal

abbrev pub invariant-loop-word : goal.invariant-loop-word
invariant-loop-word l = record {
  turned : HaveStepped Turns (watcher_at [] 0) l.initial.watchers l.watchers l.word;
  first : 0 < l.word → (watcher_at l.watchers 0).batch ≡ Some l.first;
}
