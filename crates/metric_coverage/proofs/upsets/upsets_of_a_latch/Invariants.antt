use Rattle.std.proofs.Common.{◌≡◌, ◌≤◌, take}
use Rattle.std.specs.Prelude.{count_by, filter, nat_lt, sum_by}
use Rattle.workload.specs.Runs.{cycles_of, is_mission}
use Rattle.metric_coverage.proofs.upsets.upsets_of_a_latch.Given as goal

-- the runs so far are added
abbrev pub invariant-loop-run : goal.invariant-loop-run
invariant-loop-run l = record {
  tried : l.upsets.tried ≡ sum_by (λ run. count_by (λ cycle. nat_lt cycle (cycles_of run)) l.plan.settings.flips) (filter (λ run. is_mission run.kind) (take l.run l.plan.runs));
  all : l.upsets.all ≡ sum_by cycles_of (filter (λ run. is_mission run.kind) (take l.run l.plan.runs));
  among : l.upsets.tried ≤ l.upsets.all;
}
