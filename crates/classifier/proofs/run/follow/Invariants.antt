use Rattle.std.proofs.Common.{◌≤◌, ◌+◌, ◌-◌, ◌*◌, length}
use Rattle.classifier.specs.Stretch.{IsStretch, under_way}
use Rattle.classifier.proofs.run.follow.Given as goal

-- the cycles so far are simulated, and the windows have seen them
abbrev pub invariant-clock : goal.invariant-clock
invariant-clock g l = record {
  least : l.from ≤ l.t;
  within : l.t ≤ l.bound;
  stretch : IsStretch l.bench l.run g.F.Followed.words l.decided l.from l.t (under_way (g.F.Followed.in_run l.initial.lanes) l.initial.windows l.initial.left)
      (under_way (g.F.Followed.in_run l.lanes) l.windows l.left);
  cost : l.steps + l.from * length l.bench.circuit.tables ≤ l.initial.steps + l.t * length l.bench.circuit.tables;
}

-- the number of cycles that are left
abbrev pub decreases-clock : goal.decreases-clock
decreases-clock g l = l.bound - l.t
