use Rattle.std.proofs.Common.{◌≡◌, ◌<◌, ℕ}
use Rattle.classifier.specs.Batch.{alone_in}
use Rattle.row_audit.specs.Watched.{watcher_at}
use Rattle.row_audit.proofs.judge.load_all.Given as goal

-- the words so far hold their batches
abbrev pub invariant-loop-word : goal.invariant-loop-word
invariant-loop-word g l = record {
  sound : g.B.Circuits.IsSound l.circuits;
  circuit : (g.B.Circuits.loaded l.circuits).circuit ≡ (g.B.Circuits.loaded l.initial.circuits).circuit;
  order : (g.B.Circuits.loaded l.circuits).order ≡ (g.B.Circuits.loaded l.initial.circuits).order;
  loads : (word k : ℕ) → word < l.word → k < 64 → (g.B.Circuits.loaded l.circuits).faults word k ≡ alone_in l.faults (watcher_at l.watchers word).batch k;
}
