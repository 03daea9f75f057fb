use Rattle.std.proofs.Common.{◌≡◌, ◌+◌, ◌*◌, ◌≤◌, ℕ, length, take, arith}
use Rattle.std.proofs.Math.Nat.{add-mul}
use Rattle.workload.specs.Runs.{run_at}
use Rattle.classifier.specs.Stretch.{under_way}
use Rattle.classifier.proofs.Stretches.{stretch_more, stretch_none}
use Rattle.classifier.proofs.run.follow.Goals as goal

-- the steps of one cycle more
cost_more : (start before now past t tables : ℕ) → before + past ≤ start + t * tables → now ≤ before + tables → now + past ≤ start + (t + 1) * tables
cost_more start before now past t tables b n =
    let split : (t + 1) * tables ≡ t * tables + 1 * tables = add-mul t 1 tables in
    let one : 1 * tables ≡ tables = omega arith in
    omega (arith, split, one)

pub clock-init : goal.clock-init
clock-init g c = record {
  least = omega arith;
  within = c.requires.bound.0;
  stretch =
      stretch_none c.args.bench.now c.args.run g.F.Followed.words c.args.decided.now c.args.from (under_way (g.F.Followed.in_run c.args.lanes.now) c.args.windows.now c.args.left.now)
      c.requires.from;
  cost = omega arith;
}

pub run_cycle-requires-clause-from : goal.run_cycle-requires-clause-from
run_cycle-requires-clause-from g c = c.clock.invariant.stretch.to

pub run_cycle-requires-clause-more : goal.run_cycle-requires-clause-more
run_cycle-requires-clause-more g c = omega (arith, c.goes_on.ensures.more c.clock-test.true, c.requires.bound.1)

pub clock-preserved : goal.clock-preserved
clock-preserved g c =
    let inv = c.clock.invariant in
    let ran = c.run_cycle.ensures in
    let new = c.run_cycle.new in
    let tables = length c.args.bench.now.circuit.tables in
    record {
      least = omega (arith, inv.least);
      within = omega (arith, c.goes_on.ensures.more c.clock-test.true);
      stretch =
          stretch_more c.args.bench.now c.args.run g.F.Followed.words c.args.decided.now c.args.from c.clock.t (c.clock.t + 1)
          (under_way (g.F.Followed.in_run c.args.lanes.now) c.args.windows.now c.args.left.now) (under_way (g.F.Followed.in_run c.clock.lanes) c.clock.windows c.clock.left)
          (under_way (g.F.Followed.in_run new.lanes) new.windows new.left) inv.stretch ran.stretch;
      cost = cost_more c.args.steps.now c.clock.steps new.steps (c.args.from * tables) c.clock.t tables inv.cost ran.cost;
    }

pub returns-clause-over : goal.returns-clause-over
returns-clause-over g c = λ less.
    c.goes_on.ensures.over (take c.clock.t (run_at c.args.bench.now.runs c.args.run).vectors) c.clock-test.false less c.clock.invariant.stretch.to.after
