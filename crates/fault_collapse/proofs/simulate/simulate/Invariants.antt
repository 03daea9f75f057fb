use Rattle.std.proofs.Common.{◌≡◌, ◌<◌, ◌≤◌, ◌+◌, ◌*◌, ℕ, length}
use Rattle.workload.specs.Runs.{all_cycles}
use Rattle.classifier.specs.Planes.{outcome_at}
use Rattle.fault_collapse.specs.Chosen.{group_planes}
use Rattle.fault_collapse.proofs.simulate.simulate.Given as goal

-- the rounds so far are simulated
abbrev pub invariant-loop-round : goal.invariant-loop-round
invariant-loop-round g l = record {
  simulated : (group : ℕ) → group < l.round * 4 → outcome_at l.found group ≡ group_planes l.plan l.numbers group;
  same : l.simulator ≡ l.initial.simulator;
  cost : l.steps ≤ l.initial.steps + l.round * (all_cycles l.plan.runs * length l.plan.circuit.tables);
}
