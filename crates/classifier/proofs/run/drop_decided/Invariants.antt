use Rattle.std.proofs.Common.{◌<◌, ℕ}
use Rattle.classifier.specs.InRun.{KeepPlace}
use Rattle.classifier.specs.OutOfReach.{decided_at}
use Rattle.classifier.specs.Seen.{Begins}
use Rattle.classifier.proofs.run.drop_decided.Given as goal

-- each lane is as it was, or decided and without faults
abbrev pub invariant-loop-word : goal.invariant-loop-word
invariant-loop-word g l = record {
  place : KeepPlace (g.F.Followed.in_run l.initial.lanes) (g.F.Followed.in_run l.lanes);
  begin : (word k : ℕ) → word < g.F.Followed.words → k < 64
      → Begins l.kind (decided_at l.decided word) k ((g.F.Followed.in_run l.initial.lanes).faults word k) ((g.F.Followed.in_run l.lanes).faults word k);
}
