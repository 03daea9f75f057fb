use Rattle.std.proofs.Common.{◌≡◌, ◌<◌, ℕ, length, take}
use Rattle.classifier.specs.Planes.{HasPlanes}
use Rattle.row_audit.specs.Watched.{AreAllReady, watcher_at}
use Rattle.row_audit.proofs.run.judge_runs.Given as goal

-- the runs so far are added
abbrev pub invariant-loop-run : goal.invariant-loop-run
invariant-loop-run g l = record {
  loaded : g.B.Circuits.loaded l.circuits ≡ g.B.Circuits.loaded l.initial.circuits;
  sound : g.B.Circuits.IsSound l.circuits;
  ready : AreAllReady l.bench.points.now l.bench.ftti l.watchers;
  batch : (word : ℕ) → word < length l.initial.watchers → (watcher_at l.watchers word).batch ≡ (watcher_at l.initial.watchers word).batch;
  planes : (word : ℕ) → word < length l.initial.watchers
      → HasPlanes l.bench.net.now l.bench.points.now l.bench.ftti (take l.run l.bench.work.now) ((g.B.Circuits.loaded l.initial.circuits).faults word) (watcher_at l.watchers word).planes;
}
