use Rattle.std.proofs.Common.{◌≡◌, take}
use Rattle.workload.specs.Runs.{run_at}
use Rattle.row_audit.specs.Watched.{HaveAllWatched, KeepAllFound}
use Rattle.row_audit.proofs.run.watch_run.Given as goal

-- the cycles so far are simulated, and the watchers have seen them
abbrev pub invariant-loop-t : goal.invariant-loop-t
invariant-loop-t g l = record {
  loaded : g.B.Circuits.loaded l.circuits ≡ g.B.Circuits.loaded l.fn.circuits;
  sound : g.B.Circuits.IsSound l.circuits;
  after : g.B.Circuits.IsAfter l.circuits (take l.t (run_at l.bench.work.now l.run).vectors);
  keeps : KeepAllFound l.fn.watchers l.watchers;
  seen : HaveAllWatched l.bench.net.now l.bench.points.now (run_at l.bench.work.now l.run) (g.B.Circuits.loaded l.fn.circuits).faults l.t l.watchers;
}
